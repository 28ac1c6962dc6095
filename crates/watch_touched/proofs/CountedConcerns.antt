-- How many entities are gathered decides whether a command concerns a query, and whether all who may have moved can be found.
use Rattle.std.specs.Prelude.{◌≡◌, ◌==◌, ◌&&◌, ◌||◌, ℕ, suc, Bool, true, false, cond, not, List, [], ◌∷◌, ◌++◌, filter, length, map}
use Rattle.std.proofs.Common.{arith, refl, ap, sym, true≢false, ◌∙◌}
use Rattle.std.proofs.lemmas.Bool.{and_parts, not-true, or_right}
use Rattle.std.proofs.lemmas.Bool.Decides.{nat_tests}
use Rattle.ecs_id.specs.Id.{Id}
use Rattle.ecs_model.specs.steps.Outcomes.{Changed}
use Rattle.ecs_model.specs.World.{Key}
use Rattle.query_model.specs.Query.{Query}
use Rattle.watch_concerns.specs.Anchored.{is_anchored}
use Rattle.watch_concerns.specs.Concerns.{concerns}
use Rattle.watch_concerns.specs.Linked.{is_linked}
use Rattle.watch_concerns.specs.Others.{concerns_others}
use Rattle.watch_concerns.specs.Tied.{is_tied}
use Rattle.watch_touched.specs.Bonds.{bonds_of}
use Rattle.watch_touched.specs.Concerned.{any_concerns, has_births_or_deaths, is_concerned}
use Rattle.watch_touched.specs.Moving.{any_by, are_holders, entities_by, entities_of, finds_moving}
use Rattle.watch_touched.specs.declared.bonds.Bonds.{Bonds}

not_none : (n : ℕ) → (suc n == 0) ≡ false
not_none n = grind (arith, nat_tests)

none_by : (p : Id → Bool) (ks : List Key) → (length (entities_by p ks) == 0) ≡ not (any_by p ks)
none_by p [] = refl
none_by p (k ∷ ks) = by (p k.1) (none_by p ks)
  where
    by : (b : Bool) → (length (entities_by p ks) == 0) ≡ not (any_by p ks)
        → (length (map (λ (k : Key). k.0) (cond b (k ∷ filter (λ (k : Key). p k.1) ks) (filter (λ (k : Key). p k.1) ks))) == 0) ≡ not (b || any_by p ks)
    by true rest = not_none (length (map (λ (k : Key). k.0) (filter (λ (k : Key). p k.1) ks)))
    by false rest = rest

none_of_both : (xs ys : List ℕ) → (length (xs ++ ys) == 0) ≡ ((length xs == 0) && (length ys == 0))
none_of_both [] ys = refl
none_of_both (x ∷ xs) ys = not_none (length (xs ++ ys)) ∙ sym (ap (λ b. b && (length ys == 0)) (not_none (length xs)))

none_of : (p : Id → Bool) (changed : Changed) → (length (entities_of p changed) == 0) ≡ (not (any_by p changed.came) && not (any_by p changed.went))
none_of p changed = none_of_both (entities_by p changed.came) (entities_by p changed.went) ∙ (λ i. none_by p changed.came i && none_by p changed.went i)

-- a query isn't concerned where no entity was gathered, and births and deaths don't matter
spared : (births anchored came went : Bool) → ((not came && not went) && (anchored || not births)) ≡ not ((births && not anchored) || came || went)
spared true true true true = refl
spared true true true false = refl
spared true true false true = refl
spared true true false false = refl
spared true false true true = refl
spared true false true false = refl
spared true false false true = refl
spared true false false false = refl
spared false true true true = refl
spared false true true false = refl
spared false true false true = refl
spared false true false false = refl
spared false false true true = refl
spared false false true false = refl
spared false false false true = refl
spared false false false false = refl

-- where none are gathered whose facts concern others, facts of others move those alone who hold a pair with their entities
pub held_if_none : (q : Query) (changed : Changed) → entities_of (concerns_others q) changed ≡ [] → are_holders q changed ≡ true
held_if_none q changed none =
    ap (λ b. is_tied q || b) (sym (none_of (concerns_others q) changed) ∙ ap (λ (es : List ℕ). length es == 0) none)
    ∙ or_right (is_tied q) true refl

module _ (q : Query) (changed : Changed) (bonds : Bonds) (are_bonds : bonds ≡ bonds_of q) (count : ℕ) where
  nobody_concerned : (own : List ℕ) → own ≡ entities_of (concerns q) changed → count ≡ length own → ((count == 0) && (bonds.anchored || not (has_births_or_deaths changed))) ≡ not (is_concerned q changed)
  unfolding is_concerned
  nobody_concerned own are counted =
      (λ i. (counted i == 0) && ((are_bonds i).anchored || not (has_births_or_deaths changed)))
      ∙ (λ i. (length (are i) == 0) && (is_anchored q || not (has_births_or_deaths changed)))
      ∙ ap (λ none. none && (is_anchored q || not (has_births_or_deaths changed))) (none_of (concerns q) changed)
      ∙ spared (has_births_or_deaths changed) (is_anchored q) (any_concerns q changed.came) (any_concerns q changed.went)

  pub none_concerned : (own : List ℕ) → own ≡ entities_of (concerns q) changed → count ≡ length own
      → (told : Bool) → told ≡ ((count == 0) && (bonds.anchored || not (has_births_or_deaths changed))) → told ≡ true → is_concerned q changed ≡ false
  none_concerned own are counted told is so = not-true (is_concerned q changed) (sym (nobody_concerned own are counted) ∙ sym is ∙ so)

  pub somebody_concerned : (own : List ℕ) → own ≡ entities_of (concerns q) changed → count ≡ length own
      → (told : Bool) → told ≡ ((count == 0) && (bonds.anchored || not (has_births_or_deaths changed))) → told ≡ false → is_concerned q changed ≡ false → ⊥
  somebody_concerned own are counted told is fails none = true≢false (sym (is ∙ nobody_concerned own are counted ∙ ap not none) ∙ fails)

  pub all_followed : (others : List ℕ) → others ≡ entities_of (concerns_others q) changed → count ≡ length others → (bonds.anchored && (bonds.tied || bonds.linked || (count == 0))) ≡ finds_moving q changed
  all_followed others are counted =
      (λ i. (are_bonds i).anchored && ((are_bonds i).tied || (are_bonds i).linked || (counted i == 0)))
      ∙ (λ i. is_anchored q && (is_tied q || is_linked q || (length (are i) == 0)))
      ∙ ap (λ none. is_anchored q && (is_tied q || is_linked q || none)) (none_of (concerns_others q) changed)

  pub all_held : (others : List ℕ) → others ≡ entities_of (concerns_others q) changed → count ≡ length others → (bonds.tied || (count == 0)) ≡ are_holders q changed
  all_held others are counted =
      (λ i. (are_bonds i).tied || (counted i == 0))
      ∙ (λ i. is_tied q || (length (are i) == 0))
      ∙ ap (λ none. is_tied q || none) (none_of (concerns_others q) changed)

  -- where facts concern others of a query that isn't tied, and all that may move can be found, it is linked
  pub linked_if_others : (others : List ℕ) → others ≡ entities_of (concerns_others q) changed → count ≡ length others → finds_moving q changed ≡ true → (bonds.tied || (count == 0)) ≡ false → is_linked q ≡ true
  linked_if_others others are counted followed far =
      let told = and_parts _ _ (all_followed others are counted ∙ followed) in
      sym (ap (λ (b : Bonds). b.linked) are_bonds) ∙ linked_of bonds.tied bonds.linked (count == 0) told.1 far
    where
      linked_of : (tied linked none : Bool) → ((tied || linked) || none) ≡ true → (tied || none) ≡ false → linked ≡ true
      linked_of true linked none h far = absurd (true≢false far)
      linked_of false true none h far = refl
      linked_of false false none h far = absurd (true≢false (sym h ∙ far))
