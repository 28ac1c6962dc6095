-- What one step back has to find: who holds a pair by which it may lead, and the targets of such pairs.
use Rattle.std.proofs.Common.{◌≡◌, ℕ, ◌==◌, Bool, true, false, true≢false, List, [], ◌∷◌, Option, Some, None, refl, sym, ap, subst, ◌∙◌, arith}
use Rattle.std.specs.Prelude.{◌&&◌, ◌++◌, not, filter, flat_map, map, if◌then◌else◌}
use Rattle.std.specs.List.{Contains, list_any}
use Rattle.std.proofs.lemmas.Bool.{and_parts, and_from, eqb-true, false≢true}
use Rattle.std.proofs.lemmas.Option.{same_Some}
use Rattle.id_pattern.specs.Patterns.{matches}
use Rattle.id_pattern.specs.declared.Part.{Part}
use Rattle.id_pattern.specs.declared.Part.TheVariants.{Is}
use Rattle.id_pattern.specs.declared.Pattern.{Pattern}
use Rattle.ecs_id.specs.Id.{Id, plain, pair, second_of}
use Rattle.ecs_model.specs.World.{WorldState, Key, entities, ids_of}
use Rattle.ecs_model.proofs.Members.{any_passes, eq_itself, filtered, passing}
use Rattle.ecs_model.proofs.steps.LivingIds.{refuted}
use Rattle.query_model.specs.Query.{Query}
use Rattle.watch_asked.specs.Asked.{any_counts_as}
use Rattle.watch_asked.specs.declared.asked.AskedOf.{AskedOf}
use Rattle.watch_asked.specs.declared.steps.LinkStep.{LinkStep}
use Rattle.watch_concerns.specs.OwnIds.{lacks}
use Rattle.watch_touched.specs.Leaning.{Adds, leaning, leans, pairs_to, target_of}
use Rattle.watch_touched.specs.Steps.{gone_target, leads_by}
use Rattle.watch_touched.proofs.GrownLists.{already, nothing_behind}

-- ---- who holds a pair

-- the pairs with a target that a pattern matches are those that the pattern with that target does
pairs_of_both : (first : Part) (second : Option Part) (x : ℕ) (i : Id) → matches (pairs_to x) i ≡ true → matches (record { first = first; second = second }) i ≡ true → matches (record { first = first; second = Some (Is x) }) i ≡ true
pairs_of_both first second x (plain c) to fits = absurd (false≢true to)
pairs_of_both first None x (pair r t) to fits = absurd (false≢true fits)
pairs_of_both first (Some part) x (pair r t) to fits = and_from _ _ (and_parts _ _ fits).0 to

module _ {A : Type 0} (q : Query) (others : List (AskedOf A)) (went : List Key) (s : LinkStep) where
  -- so all from whom a step may lead to an entity stand in the tables that are listed for the step's pattern with it as the target
  pub leading_are_listed : (w : WorldState) (x : ℕ) (listed : Pattern) → listed ≡ record { first = (s.asked).first; second = Some (Is x) } → (holders : List ℕ)
      → ((e : ℕ) → Contains (filter (λ e. list_any (matches listed) (ids_of w e)) (entities w)) e → Contains holders e)
      → (e : ℕ) → Contains (leaning (leads_by q others went s) w x) e → Contains (filter (leans (leads_by q others went s) w x) holders) e
  leading_are_listed w x listed is holders exactly e h =
      let p = leads_by q others went s in
      let f = (filtered (leans p w x) (entities w) e).0 h in
      let found = passing (λ i. matches (pairs_to x) i && p (ids_of w e) i) (ids_of w e) f.1 in
      let i : Id = found.0 in
      let tests = and_parts _ _ found.2 in
      let fits : matches s.asked i ≡ true = (and_parts _ _ tests.1).0 in
      let narrow = pairs_of_both (s.asked).first (s.asked).second x i tests.0 fits in
      let held = any_passes (matches listed) (ids_of w e) i found.1 (subst (λ (asked : Pattern). matches asked i ≡ true) (sym is) narrow) in
      (filtered (leans p w x) holders e).1 (exactly e ((filtered (λ e. list_any (matches listed) (ids_of w e)) (entities w) e).1 (f.0, held)), f.1)

  -- as `$this` nobody leads who lacks what is asked of it
  pub nobody_leads : (ids : List Id) (x : ℕ) → s.from ≡ 0 → lacks q ids ≡ true → list_any (λ i. matches (pairs_to x) i && leads_by q others went s ids i) ids ≡ false
  nobody_leads ids x first lacking =
      refuted (list_any (λ i. matches (pairs_to x) i && leads_by q others went s ids i) ids)
      (λ h.
      let found = passing (λ i. matches (pairs_to x) i && leads_by q others went s ids i) ids h in
      let fit = (and_parts _ _ (and_parts _ _ found.2).1).1 in
      let asked : List Id → Id → Bool = λ held i. any_counts_as (λ v. v == s.from) others (held ++ map (λ k. k.1) went) i in
      let none : (if s.from == 0 then not (lacks q ids) else asked ids found.0) ≡ false = ap (λ u. if u == 0 then not (lacks q ids) else asked ids found.0) first ∙ ap not lacking in
      true≢false (sym fit ∙ none))

  -- as another one leads who counts for the pair
  pub leads_as_other : (ids : List Id) (x : ℕ) → (s.from == 0) ≡ false
      → list_any (λ i. matches (pairs_to x) i && (matches s.asked i && any_counts_as (λ v. v == s.from) others (ids ++ map (λ k. k.1) went) i)) ids ≡ list_any (λ i. matches (pairs_to x) i && leads_by q others went s ids i) ids
  leads_as_other ids x other =
      ap (λ b. list_any (λ i. matches (pairs_to x) i && (matches s.asked i && (if b then not (lacks q ids) else any_counts_as (λ v. v == s.from) others (ids ++ map (λ k. k.1) went) i))) ids) (sym other)

-- ---- the targets of pairs

the_targets : (p : Id → Bool) (i : Id) (x : ℕ) → second_of i ≡ Some x → p i ≡ true → target_of p i ≡ x ∷ []
the_targets p (plain c) x is passes = absurd cc
the_targets p (pair r y) x is passes = ap (λ b. if b then y ∷ [] else []) passes ∙ ap (λ (z : ℕ). z ∷ []) (same_Some y x is)

-- nobody is behind nobody
pub nobody : (xs : List ℕ) → Adds xs [] [] → xs ≡ []
nobody [] adds = refl
nobody (x ∷ xs) adds = absurd (omega (arith, (adds.all x (0, omega arith, refl)).1))

pub none_behind : (f : ℕ → List ℕ) (xs found : List ℕ) → xs ≡ [] → Adds (flat_map f xs) found found
none_behind f xs found none = subst (λ (ys : List ℕ). Adds (flat_map f ys) found found) (sym none) (already [] found (λ e m. absurd (omega (arith, m.1))))

-- whoever is behind the target of a pair that passes is
pub behind_one : (f : ℕ → List ℕ) (p : Id → Bool) (i : Id) (x : ℕ) (found after : List ℕ) → second_of i ≡ Some x → p i ≡ true → Adds (f x) found after → Adds (flat_map f (target_of p i)) found after
behind_one f p i x found after is passes adds =
    subst (λ (xs : List ℕ). Adds (flat_map f xs) found after) (sym (the_targets p i x is passes)) (subst (λ (ys : List ℕ). Adds ys found after) (nothing_behind (f x)) adds)

-- the target of a fact that went from another entity isn't asked for, and that of one of this is the pair's
pub gone_elsewhere : (s : LinkStep) (y : ℕ) (k : Key) → ¬ (k.0 ≡ y) → gone_target s y k ≡ []
gone_elsewhere s y k apart = ap (λ b. if b then target_of (matches s.asked) k.1 else []) (refuted (k.0 == y) (λ h. apart (eqb-true k.0 y h)))

pub gone_from_it : (s : LinkStep) (y : ℕ) (k : Key) → k.0 ≡ y → gone_target s y k ≡ target_of (matches s.asked) k.1
gone_from_it s y k same = ap (λ b. if b then target_of (matches s.asked) k.1 else []) (ap (λ e. e == y) same ∙ eq_itself y)
