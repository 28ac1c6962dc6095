-- The entities that a command touched: each has before and after the command the ids that are listed, and all others live as they did, with the same ids.
use Rattle.std.specs.Prelude.{◌≡◌, ◌⊎◌, ℕ, ◌==◌, Bool, true, false, not, ◌&&◌, List, [], ◌∷◌, ◌++◌, map, Option, Some, None, Ok, option_map, if◌then◌else◌}
use Rattle.std.specs.FinMap.{nat_cmp-IsAntisymmetric}
use Rattle.std.specs.FinMap.Entries.{is_some-find}
use Rattle.std.specs.Cmp.{Equal-is}
use Rattle.std.specs.List.{Contains, cons_option, list_any}
use Rattle.std.specs.Option.{option_map_or}
use Rattle.std.specs.Ordering.{nat_cmp, eq_by_cmp}
use Rattle.std.proofs.Common.{refl, sym, ap, subst, ◌∙◌, inl, inr, true≢false, append_assoc, arith, ◌+◌, ◌<◌, get_or, length, take}
use Rattle.std.proofs.lemmas.List.{get_or_default, map_push, take_more}
use Rattle.std.proofs.lemmas.List.Elements.{Contains-append_cases, Contains-append_left, Contains-append_right}
use Rattle.std.proofs.lemmas.Map.Views.{Contains-from_any}
use Rattle.watch_concerns.proofs.Deaths.{ties}
use Rattle.ecs_id.specs.declared.EntityId.{EntityId}
use Rattle.ecs_id.specs.Id.{Id}
use Rattle.ecs_model.specs.steps.Outcomes.{Changed}
use Rattle.ecs_model.specs.World.{WorldState, Key, entities, holds, ids_of, is_live, key_eq}
use Rattle.ecs_model.specs.rows.View.{View, view_of}
use Rattle.ecs_model.specs.steps.Step.{Command, step}
use Rattle.ecs_model.specs.steps.WellFormed.{IsWellFormed}
use Rattle.ecs_model.proofs.Members.{any_passes, eq_itself, eq_same, head_or_tail}
use Rattle.ecs_model.proofs.steps.AddedSets.{from_map, in_map}
use Rattle.ecs_model.proofs.steps.LivingIds.{refuted}
use Rattle.query_meaning.specs.Variables.{contains}
use Rattle.query_local.specs.declared.touched.Touched.{Touched}
use Rattle.query_local.specs.Touched.{AreTouched, Touch, held_in, touch_of}
use Rattle.watch_touched.specs.Before.{is_born, view_before}
use Rattle.watch_touched.specs.Indexes.{indexes_of, touch_at}
use Rattle.watch_touched.proofs.IdsBefore.{among, is_among, same_ids}
use Rattle.watch_touched.proofs.BornEntities.{born_fresh, newborn}
use Rattle.watch_touched.proofs.WorldBefore.{dead, has_died, has_gone, is_new, shown_before}

-- who is listed lives
pub listed_lives : (w : WorldState) (i : ℕ) → contains (entities w) i ≡ is_live w i
listed_lives w i = (λ j. list_any (λ u. sym (ties i u) j) (entities w)) ∙ sym (is_some-find nat_cmp i w.live)

has_number : (is : List ℕ) (i : ℕ) → Contains is i → contains is i ≡ true
has_number is i h = any_passes (λ u. u == i) is i h (eq_itself i)

-- one of an optional index and others
among_rest : (o : Option ℕ) (is : List ℕ) (i : ℕ) → Contains is i → Contains (cons_option o is) i
among_rest None is i h = h
among_rest (Some x) is i h = Contains-append_right (x ∷ []) is i h

first_or_rest : (o : Option EntityId) (is : List ℕ) (i : ℕ) → Contains (cons_option (option_map (λ e. e.index) o) is) i
    → (option_map_or (λ e. e.index == i) o false ≡ true) ⊎ Contains is i
first_or_rest None is i h = inr h
first_or_rest (Some e) is i h = elim (head_or_tail e.index i is h) [ inl same ↦ inl (ap (λ j. j == i) same ∙ eq_itself i) | inr t ↦ inr t ]

first_there : (o : Option EntityId) (is : List ℕ) (i : ℕ) → option_map_or (λ e. e.index == i) o false ≡ true
    → Contains (cons_option (option_map (λ e. e.index) o) is) i
first_there None is i h = absurd (true≢false (sym h))
first_there (Some e) is i h = (0, omega arith, eq_same e.index i h)

died_lived : (before now : Bool) → (not now && before) ≡ true → before ≡ true
died_lived true now h = refl
died_lived false true h = absurd (true≢false (sym h))
died_lived false false h = absurd (true≢false (sym h))

came_there : (before now : Bool) → (not before && now) ≡ true → now ≡ true
came_there before true h = refl
came_there true false h = absurd (true≢false (sym h))
came_there false false h = absurd (true≢false (sym h))

was_old : (new before : Bool) → new ≡ not before → new ≡ false → before ≡ true
was_old new true e f = refl
was_old new false e f = absurd (true≢false (sym e ∙ f))

neither_way : (before now : Bool) → (not now && before) ≡ false → (now ≡ true → before ≡ true) → before ≡ now
neither_way true true h g = refl
neither_way false false h g = refl
neither_way true false h g = absurd (true≢false h)
neither_way false true h g = g refl

module _ (w v : WorldState) (c : Command) (changed : Changed) (kept : IsWellFormed w) (kept_now : IsWellFormed v) (done : step w c ≡ Ok (v, changed)) (i : ℕ) where
  abbrev fact_indexes : List ℕ
  fact_indexes = map (λ k. k.0) changed.came ++ map (λ k. k.0) changed.went

  -- who lives after and was not born, lived before
  old_lived : is_born changed i ≡ false → is_live v i ≡ true → is_live w i ≡ true
  old_lived old lives = was_old (is_born changed i) (is_live w i) (newborn w i v c changed done lives) old

  -- who was touched lived before, if not born
  touched_lived : is_born changed i ≡ false → Contains (indexes_of changed) i → is_live w i ≡ true
  touched_lived old h = elim (first_or_rest changed.born (dead changed ++ fact_indexes) i h) [
    | inl new ↦ absurd (true≢false (sym new ∙ old))
    | inr t ↦ elim (Contains-append_cases (dead changed) fact_indexes i t) [
      | inl d ↦ died_lived (is_live w i) (is_live v i) (sym (has_died w v c changed kept done i) ∙ (λ j. list_any (λ u. ties i u j) (dead changed)) ∙ has_number (dead changed) i d)
      | inr f ↦ elim (Contains-append_cases (map (λ (k : Key). k.0) changed.came) (map (λ (k : Key). k.0) changed.went) i f) [
        | inl m ↦ came_lived (from_map (λ (k : Key). k.0) changed.came i m)
        | inr g ↦ went_lived (from_map (λ (k : Key). k.0) changed.went i g)
      ]
    ]
  ]
    where
      came_lived : ((k : Key) × Contains changed.came k × (k.0 ≡ i)) → is_live w i ≡ true
      came_lived m =
          let k = m.0 in
          let held = came_there (holds w k.0 k.1) (holds v k.0 k.1) (sym (is_new w v c changed kept done k) ∙ among changed.came k m.1) in
          old_lived old (sym (ap (is_live v) m.2) ∙ ((kept_now.live).facts k.0 k.1 held).0)

      went_lived : ((k : Key) × Contains changed.went k × (k.0 ≡ i)) → is_live w i ≡ true
      went_lived g =
          let k = g.0 in
          let held = died_lived (holds w k.0 k.1) (holds v k.0 k.1) (sym (has_gone w v c changed kept done k) ∙ among changed.went k g.1) in
          sym (ap (is_live w) g.2) ∙ ((kept.live).facts k.0 k.1 held).0

  lived_before : contains (view_before v changed).entities i ≡ is_live w i
  lived_before = ap (λ es. contains es i) (shown_before w v c changed kept done).0 ∙ listed_lives w i

  -- what is listed of it
  pub new_is_told : is_born changed i ≡ true → held_in (view_before v changed) i ≡ None
  new_is_told new = ap (λ b. if b then Some ((view_before v changed).ids i) else None) (lived_before ∙ born_fresh w i v c changed done new)

  pub old_is_told : is_born changed i ≡ false → Contains (indexes_of changed) i → held_in (view_before v changed) i ≡ Some (ids_of w i)
  old_is_told old h =
      ap (λ b. if b then Some ((view_before v changed).ids i) else None) (lived_before ∙ touched_lived old h)
      ∙ ap (λ (is : List Id). Some is) ((shown_before w v c changed kept done).1 i)

  -- who was not touched
  module _ (other : Contains (indexes_of changed) i → ⊥) where
    not_born : is_born changed i ≡ false
    not_born = refuted (is_born changed i) (λ h. other (first_there changed.born (dead changed ++ fact_indexes) i h))

    not_listed : Contains (dead changed ++ fact_indexes) i → ⊥
    not_listed h = other (among_rest (option_map (λ e. e.index) changed.born) (dead changed ++ fact_indexes) i h)

    not_dead : list_any (eq_by_cmp nat_cmp i) (dead changed) ≡ false
    not_dead =
        refuted (list_any (eq_by_cmp nat_cmp i) (dead changed))
        (λ h. not_listed (Contains-append_left (dead changed) fact_indexes i (Contains-from_any (λ x y e. nat_cmp-IsAntisymmetric x y ((Equal-is (nat_cmp x y)).0 e)) i (dead changed) h)))

    not_come : (x : Id) → list_any (key_eq (i, x)) changed.came ≡ false
    not_come x =
        refuted (list_any (key_eq (i, x)) changed.came)
        (λ h. not_listed (Contains-append_right (dead changed) fact_indexes i
        (Contains-append_left (map (λ (k : Key). k.0) changed.came) (map (λ (k : Key). k.0) changed.went) i (in_map (λ (k : Key). k.0) changed.came (i, x) (is_among changed.came (i, x) h)))))

    not_gone : (x : Id) → list_any (key_eq (i, x)) changed.went ≡ false
    not_gone x =
        refuted (list_any (key_eq (i, x)) changed.went)
        (λ h. not_listed (Contains-append_right (dead changed) fact_indexes i
        (Contains-append_right (map (λ (k : Key). k.0) changed.came) (map (λ (k : Key). k.0) changed.went) i (in_map (λ (k : Key). k.0) changed.went (i, x) (is_among changed.went (i, x) h)))))

    pub other_lives : contains (view_before v changed).entities i ≡ contains (entities v) i
    other_lives =
        lived_before
        ∙ neither_way (is_live w i) (is_live v i) (sym (has_died w v c changed kept done i) ∙ not_dead) (old_lived not_born)
        ∙ sym (listed_lives v i)

    pub other_holds : (view_before v changed).ids i ≡ ids_of v i
    other_holds = (shown_before w v c changed kept done).1 i ∙ same_ids w v c changed kept done i kept_now not_come not_gone

indexes_back : (f : ℕ → Touch) → ((i : ℕ) → (f i).index ≡ i) → (is : List ℕ) → map (λ t. t.index) (map f is) ≡ is
indexes_back f own [] = refl
indexes_back f own (i ∷ is) = λ j. own i j ∷ indexes_back f own is j

-- so these are all that were touched
pub are_touched : (w v : WorldState) (c : Command) (changed : Changed) → IsWellFormed w → IsWellFormed v → step w c ≡ Ok (v, changed) → (is : List ℕ)
    → ((i : ℕ) → Contains (indexes_of changed) i → Contains is i)
    → AreTouched (map (touch_at (view_before v changed) (view_of v)) is) (view_before v changed) (view_of v)
are_touched w v c changed kept kept_now done is all = record {
  told_before = λ t h. let i = from_map at is t h in subst (λ t. t.before ≡ held_in (view_before v changed) t.index) i.2 refl;
  told_after = λ t h. let i = from_map at is t h in subst (λ t. t.after ≡ held_in (view_of v) t.index) i.2 refl;
  others_live = λ i h. other_lives w v c changed kept kept_now done i (missing i h);
  others_hold = λ i h. other_holds w v c changed kept kept_now done i (missing i h);
}
  where
    at : ℕ → Touch
    at = touch_at (view_before v changed) (view_of v)

    missing : (i : ℕ) → not (contains (map (λ t. t.index) (map at is)) i) ≡ true → Contains (indexes_of changed) i → ⊥
    missing i h m = true≢false (sym h ∙ ap not (ap (λ xs. contains xs i) (indexes_back at (λ i. refl) is) ∙ has_number is i (all i m)))

-- the indexes of all that has changed, as they are listed one kind after another
pub listed_in_turn : (born : Option EntityId) (died came went first second all : List ℕ)
    → first ≡ cons_option (option_map (λ e. e.index) born) [] ++ died → second ≡ first ++ came → all ≡ second ++ went
    → all ≡ cons_option (option_map (λ e. e.index) born) (died ++ (came ++ went))
listed_in_turn born died came went first second all begun more most = most ∙ ap (λ is. is ++ went) (more ∙ ap (λ is. is ++ came) begun) ∙ by born
  where
    by : (o : Option EntityId) → cons_option (option_map (λ e. e.index) o) [] ++ died ++ came ++ went ≡ cons_option (option_map (λ e. e.index) o) (died ++ (came ++ went))
    by None = append_assoc died came went
    by (Some e) = ap (λ is. e.index ∷ is) (append_assoc died came went)

-- a list of each of these indexes in turn
pub number_at : (is : List ℕ) (k : ℕ) → k < length is → Contains is (get_or is k 0)
number_at is k within = (k, within, get_or_default is k (get_or is k 0) 0 within)

pub one_more : {X T : Type 0} (f : X → T) (at : ℕ → T) (ts : List X) (t : X) (is : List ℕ) (k : ℕ) → k < length is → map f ts ≡ map at (take k is)
    → f t ≡ at (get_or is k 0)
    → map f (ts ++ t ∷ []) ≡ map at (take (k + 1) is)
one_more f at ts t is k within done told =
    map_push f ts t
    ∙ (λ j. done j ++ told j ∷ [])
    ∙ sym (ap (map at) (take_more is k 0 within) ∙ map_push at (take k is) (get_or is k 0))

module _ {A : Type 0} (before after : View) (ts : List (Touched A)) (is : List ℕ) (told : map touch_of ts ≡ map (touch_at before after) is) where
  own_indexes : (ts : List (Touched A)) → map (λ t. t.index) ts ≡ map (λ t. t.index) (map touch_of ts)
  own_indexes [] = refl
  own_indexes (t ∷ ts) = ap (λ is. t.index ∷ is) (own_indexes ts)

  pub indexes_told : map (λ t. t.index) ts ≡ is
  indexes_told = own_indexes ts ∙ ap (map (λ t. t.index)) told ∙ indexes_back (touch_at before after) (λ i. refl) is
