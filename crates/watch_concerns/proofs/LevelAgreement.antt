-- Whether a level holds is the same in two views that agree in the ids that concern its items.
use Rattle.std.proofs.Common.{◌≡◌, ℕ, Bool, true, false, inl, inr, List, [], ◌∷◌, length, refl, sym, ap, ◌∙◌, arith}
use Rattle.std.specs.Prelude.{◌==◌, ◌&&◌, ◌||◌, map, not, take, Option, Some, None, if◌then◌else◌}
use Rattle.std.specs.List.{Contains, list_any, list_all}
use Rattle.std.specs.Option.{option_map_or}
use Rattle.std.proofs.lemmas.Bool.{and_from, and_parts, eq-eqb, false≢true, or_cases, or_left, or_right}
use Rattle.std.proofs.lemmas.List.Elements.{Contains-append_right}
use Rattle.std.proofs.lemmas.List.Folds.{list_any-append}
use Rattle.std.proofs.lemmas.Option.{same_Some}
use Rattle.ecs_id.specs.Id.{Id, plain, pair}
use Rattle.ecs_model.specs.Links.{ancestor_line}
use Rattle.ecs_model.specs.rows.Level.{Level, done, also, unless}
use Rattle.ecs_model.specs.rows.Rows.{Assignment, Unset, asked, assignments, closed_fields, fields_at, fields_of_item, fields_of_term, first_nonempty, fits, hits, keeps_first_hit, matches, meant, shown, shown_fields, solutions}
use Rattle.ecs_model.specs.rows.View.{View}
use Rattle.query_model.specs.declared.query.Ref.{Ref}
use Rattle.query_model.specs.declared.query.Ref.TheVariants.{Is, Var, Any, AnyOnce}
use Rattle.query_model.specs.declared.query.Term.{Term}
use Rattle.query_model.specs.Query.{Item, must, may, either, equal, differ}
use Rattle.query_check.specs.Terms.{item_terms}
use Rattle.ecs_model.proofs.Members.{passing}
use Rattle.ecs_model.proofs.steps.LivingIds.{each_passes}
use Rattle.query_meaning.proofs.LevelHolding.{Holds}
use Rattle.watch_concerns.specs.Bonds.{each_must, has_directly}
use Rattle.watch_concerns.specs.Concerns.{is_pair_of, leads_up, may_be, may_match, term_concerns}
use Rattle.query_meaning.proofs.Choices.{any-map, has-some, none_counted, some, some-first, some-if, some-map, some-product}
use Rattle.watch_concerns.proofs.CoveredTerms.{Covers, CoversLevel, OfEach}
use Rattle.watch_concerns.proofs.ReachAgreement.{Agree, HasPairs}
use Rattle.watch_concerns.proofs.WiderTests.{filter_same}

-- the ids of an entity, with it
abbrev pub at_each : ℕ → List Id → List (ℕ × Id)
at_each m = map (λ i. (m, i))

-- ---- what a term matches, whatever variables stand for

fits_may : (a : Assignment) (e : ℕ) (r : Ref) → fits a e r ≡ true → may_be e r ≡ true
fits_may a e (Is d) h = h
fits_may a e (Var v) h = refl
fits_may a e Any h = refl
fits_may a e AnyOnce h = refl

pub matches_may : (a : Assignment) (first : Ref) (target : Option Ref) (i : Id) → matches a first target i ≡ true → may_match first target i ≡ true
matches_may a first None (plain c) h = fits_may a c first h
matches_may a first None (pair r t) h = h
matches_may a first (Some target) (plain c) h = h
matches_may a first (Some target) (pair r t) h =
    let both = and_parts _ _ h in
    and_from _ _ (fits_may a r first both.0) (fits_may a t target both.1)

meant_may : (a : Assignment) (first : Ref) (r : ℕ) → meant a first ≡ Some r → may_be r first ≡ true
meant_may a (Is d) r h = eq-eqb d r (same_Some d r h)
meant_may a (Var v) r h = refl
meant_may a Any r h = refl
meant_may a AnyOnce r h = refl

module _ (i : Id) (t : Term) where
  pub by_match : may_match t.component t.target i ≡ true → term_concerns i t ≡ true
  by_match h = or_left (may_match t.component t.target i || leads_up t.up i) (t.closed && is_pair_of t.component i) (or_left (may_match t.component t.target i) (leads_up t.up i) h)

  pub by_rise : leads_up t.up i ≡ true → term_concerns i t ≡ true
  by_rise h = or_left (may_match t.component t.target i || leads_up t.up i) (t.closed && is_pair_of t.component i) (or_right (may_match t.component t.target i) (leads_up t.up i) h)

  by_closure : (t.closed && is_pair_of t.component i) ≡ true → term_concerns i t ≡ true
  by_closure h = or_right (may_match t.component t.target i || leads_up t.up i) (t.closed && is_pair_of t.component i) h

-- ---- an item

alternatives_alike : {X Y : Type 0} (f g : X → List Y) (xs : List X) → ((x : X) → Contains xs x → some (f x) ≡ some (g x)) → list_any some (map f xs) ≡ list_any some (map g xs)
alternatives_alike f g [] h = refl
alternatives_alike f g (x ∷ xs) h =
    let first = h x (0, omega arith, refl) in
    let rest = alternatives_alike f g xs (λ y c. h y (Contains-append_right (x ∷ []) xs y c)) in
    λ k. first k || rest k

-- where each term of it has a choice in both views or in neither, so has the item
pub item_alike : (w v : View) (a : Assignment) (x : Item) → ((t : Term) → Contains (item_terms x) t → some (shown_fields w a t) ≡ some (shown_fields v a t)) → some (fields_of_item w a x) ≡ some (fields_of_item v a x)
unfolding fields_of_item
item_alike w v a (must t) h = h t (0, omega arith, refl)
item_alike w v a (may t) h =
    some-first (shown_fields w a t ∷ ((Unset ∷ []) ∷ []) ∷ [])
    ∙ ap (λ b. b || (true || false)) (h t (0, omega arith, refl))
    ∙ sym (some-first (shown_fields v a t ∷ ((Unset ∷ []) ∷ []) ∷ []))
item_alike w v a (either ts) h = some-first (map (shown_fields w a) ts) ∙ alternatives_alike (shown_fields w a) (shown_fields v a) ts h ∙ sym (some-first (map (shown_fields v a) ts))
item_alike w v a (equal u r) h = refl
item_alike w v a (differ u r) h = refl

-- where an item has a choice that holds only by a term that passes, such a term has one
pub must_given : (w : View) (a : Assignment) (p : Term → Bool) (x : Item) → each_must p x ≡ true → some (fields_of_item w a x) ≡ true
    → (t : Term) × Contains (item_terms x) t × (p t ≡ true) × (some (shown_fields w a t) ≡ true)
unfolding fields_of_item
must_given w a p (must t) h f = (t, (0, omega arith, refl), h, f)
must_given w a p (may t) h f = absurd (false≢true h)
must_given w a p (either ts) h f =
    let found = passing (λ t. some (shown_fields w a t)) ts (sym (any-map (shown_fields w a) ts) ∙ sym (some-first (map (shown_fields w a) ts)) ∙ f) in
    (found.0, found.1, each_passes p ts h found.0 found.1, found.2)
must_given w a p (equal u r) h f = absurd (false≢true h)
must_given w a p (differ u r) h f = absurd (false≢true h)

-- where a level holds, so does each item directly in it
pub directly_given : (w : View) (a : Assignment) (P : Item → Type 0) (test : Item → Bool) (l : Level) → OfEach P l → has_directly test l ≡ true → Holds w l a
    → (x : Item) × P x × (test x ≡ true) × (some (fields_of_item w a x) ≡ true)
directly_given w a P test done all h holds = absurd (false≢true h)
directly_given w a P test (also x rest) all h holds =
    elim (or_cases _ _ h) [
      | inl here ↦ (x, all.0, here, sym (has-some (fields_of_item w a x)) ∙ holds.0)
      | inr later ↦ directly_given w a P test rest all.1 later holds.1
    ]
directly_given w a P test (unless from_term own inner rest) all h holds = directly_given w a P test rest all.1 h holds.1

module _ (wide : Id → Bool) (w v : View) (agree : Agree wide w v) where
  -- ---- a term

  module _ (a : Assignment) (t : Term) (covered : (i : Id) → term_concerns i t ≡ true → wide i ≡ true) where
    matched_covered : (i : Id) → matches a t.component t.target i ≡ true → wide i ≡ true
    matched_covered i h = covered i (by_match i t (matches_may a t.component t.target i h))

    risen_covered : (r : ℕ) → t.up ≡ Some r → HasPairs wide r
    risen_covered r up u =
        let leads : leads_up t.up (pair r u) ≡ true = ap (λ o. leads_up o (pair r u)) up ∙ eq-eqb r r refl in
        covered (pair r u) (by_rise (pair r u) t leads)

    closed_covered : t.closed ≡ true → (r : ℕ) → meant a t.component ≡ Some r → HasPairs wide r
    closed_covered closed r means u =
        let follows : (t.closed && is_pair_of t.component (pair r u)) ≡ true = and_from _ _ closed (meant_may a t.component r means) in
        covered (pair r u) (by_closure (pair r u) t follows)

    hits_same : (m : ℕ) → hits w a t m ≡ hits v a t m
    unfolding hits
    hits_same m =
        let all = filter_same wide (w.ids m) (v.ids m) (agree.ids m) (matches a t.component t.target) matched_covered in
        λ k. if keeps_first_hit t then take 1 (all k) else all k

    -- the same source has among those that are asked one that passes a test
    module _ (p : ℕ → Bool) (s : ℕ) where
      lines_same : (o : Option ℕ) → t.up ≡ o → list_any p (option_map_or (λ r. ancestor_line w.ids w.entities r s) o []) ≡ list_any p (option_map_or (λ r. ancestor_line v.ids v.entities r s) o [])
      lines_same None up = refl
      lines_same (Some r) up = agree.risen r (risen_covered r up) s p

      asked_same : list_any p (asked w t s) ≡ list_any p (asked v t s)
      asked_same =
          let itself = if t.on_source then s ∷ [] else [] in
          list_any-append p itself (option_map_or (λ r. ancestor_line w.ids w.entities r s) t.up [])
          ∙ ap (λ b. list_any p itself || b) (lines_same t.up refl)
          ∙ sym (list_any-append p itself (option_map_or (λ r. ancestor_line v.ids v.entities r s) t.up []))

    closed_same : (first : Option ℕ) → ((r : ℕ) → first ≡ Some r → HasPairs wide r) → (s : ℕ) (target : Option ℕ) → closed_fields w first s target ≡ closed_fields v first s target
    closed_same None h s target = refl
    closed_same (Some r) h s None = refl
    closed_same (Some r) h s (Some u) = ap (λ b. if b then (s, pair r u) ∷ [] else []) (agree.reached r (h r refl) s u)

    -- there is a hit of one that is asked
    stored_same : (s : ℕ) → some (first_nonempty (map (λ m. at_each m (hits w a t m)) (asked w t s))) ≡ some (first_nonempty (map (λ m. at_each m (hits v a t m)) (asked v t s)))
    stored_same s =
        some-first (map (λ m. at_each m (hits w a t m)) (asked w t s))
        ∙ any-map (λ m. at_each m (hits w a t m)) (asked w t s)
        ∙ asked_same (λ m. some (at_each m (hits w a t m))) s
        ∙ (λ k. list_any (λ m. some (at_each m (hits_same m k))) (asked v t s))
        ∙ sym (any-map (λ m. at_each m (hits v a t m)) (asked v t s))
        ∙ sym (some-first (map (λ m. at_each m (hits v a t m)) (asked v t s)))

    at_same : (s : ℕ) → some (fields_at w a t s) ≡ some (fields_at v a t s)
    at_same s = by t.closed refl
      where
        target : Option ℕ
        target = option_map_or (meant a) t.target None

        by : (b : Bool) → t.closed ≡ b
            → some (if b then closed_fields w (meant a t.component) s target else first_nonempty (map (λ m. map (λ i. (m, i)) (hits w a t m)) (asked w t s)))
            ≡ some (if b then closed_fields v (meant a t.component) s target else first_nonempty (map (λ m. map (λ i. (m, i)) (hits v a t m)) (asked v t s)))
        by true closed = ap some (closed_same (meant a t.component) (closed_covered closed) s target)
        by false stored = stored_same s

    fields_same : some (fields_of_term w a t) ≡ some (fields_of_term v a t)
    unfolding fields_of_term
    fields_same = by (meant a t.source)
      where
        by : (o : Option ℕ) → some (option_map_or (fields_at w a t) o []) ≡ some (option_map_or (fields_at v a t) o [])
        by None = refl
        by (Some s) = at_same s

    pub shown_same : some (shown_fields w a t) ≡ some (shown_fields v a t)
    shown_same =
        some-map (λ f. shown w t f ∷ []) (fields_of_term w a t)
        ∙ fields_same
        ∙ sym (some-map (λ f. shown v t f ∷ []) (fields_of_term v a t))

  pub item_same : (a : Assignment) (x : Item) → Covers wide x → some (fields_of_item w a x) ≡ some (fields_of_item v a x)
  item_same a x h = item_alike w v a x (λ t c. shown_same a t (h t c))

  -- ---- a level, where the same live

  module _ (lives : w.entities ≡ v.entities) where
    pub level_same : (l : Level) → CoversLevel wide l → (a : Assignment) → some (solutions w l a) ≡ some (solutions v l a)
    unfolding solutions
    level_same done h a = refl
    level_same (also x rest) h a =
        let first = item_same a x h.0 in
        let others = level_same rest h.1 a in
        some-product (fields_of_item w a x) (solutions w rest a)
        ∙ (λ k. first k && others k)
        ∙ sym (some-product (fields_of_item v a x) (solutions v rest a))
    level_same (unless from_term own inner rest) h a =
        let counted : (b : Assignment) → (length (solutions w inner b) == 0) ≡ (length (solutions v inner b) == 0)
        = λ b. none_counted (solutions w inner b) ∙ ap not (level_same inner h.0 b) ∙ sym (none_counted (solutions v inner b)) in
        let others = level_same rest h.1 a in
        some-if (list_all (λ b. length (solutions w inner b) == 0) (assignments own w.entities a)) (solutions w rest a)
        ∙ (λ k. list_all (λ b. counted b k) (assignments own (lives k) a) && others k)
        ∙ sym (some-if (list_all (λ b. length (solutions v inner b) == 0) (assignments own v.entities a)) (solutions v rest a))
