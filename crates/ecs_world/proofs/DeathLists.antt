-- Lists of the dead, and what is forgotten of them, one after another.
use Rattle.std.proofs.Common.{◌≡◌, ◌≢◌, ◌↔◌, ◌⊎◌, ℕ, ◌+◌, ◌<◌, ◌==◌, Bool, true, false, ◌||◌, List, [], ◌∷◌, ◌++◌, length, get_or, take, Option, Some, None, Result, Ok, Err, is_ok, is_err, if◌then◌else◌, refl, sym, ap, ◌∙◌, inl, inr, arith, true≢false}
use Rattle.std.specs.Prelude.{filter_map, map, slice_get}
use Rattle.std.proofs.lemmas.List.{take_more}
use Rattle.std.proofs.lemmas.List.Elements.{Contains-append_left, Contains-append_right, Contains-push_cases, filter_map-append}
use Rattle.std.proofs.lemmas.List.Folds.{list_any-append}
use Rattle.std.specs.BTreeMap.{is_at}
use Rattle.std.specs.FinMap as finite
use Rattle.std.specs.List.{Contains, cons_option, list_any}
use Rattle.std.specs.Map.{remove_entry}
use Rattle.std.specs.Ordering.{nat_cmp}
use Rattle.std.proofs.Math.Bool.{or-false}
use Rattle.rel_traits.proofs.DeletedSets.{flipped}
use Rattle.ecs_id.specs.declared.EntityId.{EntityId}
use Rattle.ecs_model.specs.Map.{IsMap, Map, without}
use Rattle.ecs_model.specs.World.{WorldState, name_of}
use Rattle.ecs_model.proofs.steps.Deletions.{nat_IsMap-without}
use Rattle.name_index.specs.Names.{IsUnnamed, Names, OthersKeepTheirs, entity_eq}
use Rattle.ecs_world.specs.Changes.{with_names}
use Rattle.ecs_world.specs.State.{listed}
use Rattle.ecs_world.proofs.DeletionEffects.{without_none, without_twice}
use Rattle.ecs_world.proofs.Entities.{entity_eq_true, same_entity}
use Rattle.ecs_world.proofs.OrderedMaps.{remove_without}

pub pushed : {T E X : Type 0} (r : Result T E) (xs ys : List X) (x : X) → is_err r ≡ false → ys ≡ (if is_ok r then xs ++ x ∷ [] else xs) → ys ≡ xs ++ x ∷ []
pushed (Ok t) xs ys x done is = is
pushed (Err e) xs ys x done is = absurd (true≢false done)

one_listed : {X : Type 0} (o : Option X) → cons_option o [] ≡ listed o
one_listed None = refl
one_listed (Some x) = refl

map-join : {X Y : Type 0} (f : X → Y) (xs ys : List X) → map f (xs ++ ys) ≡ map f xs ++ map f ys
map-join f [] ys = refl
map-join f (x ∷ xs) ys = ap (λ zs. f x ∷ zs) (map-join f xs ys)

module _ {X : Type 0} (f : ℕ → Option X) (is : List ℕ) (k d : ℕ) (inside : k < length is) (o : Option X) (at : o ≡ f (get_or is k d)) where
  -- one more, if there is one
  pub listed_more : filter_map f (take (k + 1) is) ≡ filter_map f (take k is) ++ listed o
  listed_more =
      ap (filter_map f) (take_more is k d inside) ∙ filter_map-append f (take k is) (get_or is k d ∷ [])
      ∙ ap (λ es. filter_map f (take k is) ++ es) (one_listed (f (get_or is k d)) ∙ ap listed (sym at))

none_more : {X : Type 0} (xs : List X) → xs ++ [] ≡ xs
none_more [] = refl
none_more (x ∷ xs) = ap (λ ys. x ∷ ys) (none_more xs)

pub listed_same : {X : Type 0} (f : ℕ → Option X) (is : List ℕ) (k d : ℕ) → k < length is → None ≡ f (get_or is k d) → filter_map f (take (k + 1) is) ≡ filter_map f (take k is)
listed_same f is k d inside at = listed_more f is k d inside None at ∙ none_more (filter_map f (take k is))

-- one entity more, with its name
pub deaths_more : (w : WorldState) (es : List EntityId) (k : ℕ) (d : EntityId) → k < length es → with_names w (take (k + 1) es) ≡ with_names w (take k es) ++ (get_or es k d, name_of w (get_or es k d).index) ∷ []
deaths_more w es k d inside = ap (with_names w) (take_more es k d inside) ∙ map-join (λ e. (e, name_of w e.index)) (take k es) (get_or es k d ∷ [])

-- the first of a list of one fact at most
pub few_listed : {X : Type 0} (xs : List X) → length xs < 2 → listed (slice_get xs 0) ≡ xs
few_listed [] few = refl
few_listed (x ∷ []) few = refl
few_listed (x ∷ y ∷ xs) few = absurd (omega arith)

-- the names and fields of these entities are forgotten, and no others
pub record AreForgotten {X : Type 0} (old new : Names) (fields left : Map ℕ X) (dead : List EntityId) : Type 0 where
  pub names : (n : List ℕ) (e : EntityId) → (finite.get new n ≡ Some e) ↔ ((finite.get old n ≡ Some e) × (Contains dead e → ⊥))
  pub schemas : IsMap nat_cmp fields → left ≡ without nat_cmp fields (λ i. list_any (λ e. e.index == i) dead)

pub forgotten_none : {X : Type 0} (names : Names) (fields : Map ℕ X) → AreForgotten names names fields fields []
forgotten_none names fields = record {
  names = λ n e. (λ p. (p, λ c. absurd (omega (arith, c.1))), λ p. p.0);
  schemas = λ h. sym (without_none nat_cmp fields);
}

same_or_not : (e f : EntityId) → (e ≡ f) ⊎ (e ≢ f)
same_or_not e f = by (entity_eq e f) refl
  where
    by : (b : Bool) → entity_eq e f ≡ b → (e ≡ f) ⊎ (e ≢ f)
    by true p = inl (same_entity e f p)
    by false p = inr (λ q. true≢false (sym (entity_eq_true e f q) ∙ p))

pub forgotten_more : {X : Type 0} (old mid new : Names) (fields between left : Map ℕ X) (dead : List EntityId) (e : EntityId) → AreForgotten old mid fields between dead
    → IsUnnamed new e → OthersKeepTheirs mid new e → left ≡ remove_entry (is_at (nat_cmp e.index)) between → AreForgotten old new fields left (dead ++ e ∷ [])
forgotten_more {X} old mid new fields between left dead e so_far freed others taken = record { names = λ n f. (named n f, still n f); schemas = fields_left }
  where
    named : (n : List ℕ) (f : EntityId) → finite.get new n ≡ Some f → (finite.get old n ≡ Some f) × (Contains (dead ++ e ∷ []) f → ⊥)
    named n f p = elim (same_or_not f e) [
      | inl same ↦ absurd (freed n (p ∙ ap Some same))
      | inr other ↦
          let before = (so_far.names n f).0 ((others n f other).0 p) in
          (before.0, λ c. elim (Contains-push_cases dead e f c) [ inl i ↦ before.1 i | inr is ↦ other (sym is) ])
    ]

    still : (n : List ℕ) (f : EntityId) → ((finite.get old n ≡ Some f) × (Contains (dead ++ e ∷ []) f → ⊥)) → finite.get new n ≡ Some f
    still n f p =
        let other : f ≢ e = λ same. p.1 (Contains-append_right dead (e ∷ []) f (0, omega arith, sym same)) in
        (others n f other).1 ((so_far.names n f).1 (p.0, λ c. p.1 (Contains-append_left dead (e ∷ []) f c)))

    fields_left : IsMap nat_cmp fields → left ≡ without nat_cmp fields (λ i. list_any (λ e. e.index == i) (dead ++ e ∷ []))
    fields_left h =
        let is = so_far.schemas h in
        taken ∙ ap (λ m. remove_entry (is_at (nat_cmp e.index)) m) is
        ∙ remove_without (without nat_cmp fields (λ i. list_any (λ e. e.index == i) dead)) e.index (nat_IsMap-without fields (λ i. list_any (λ e. e.index == i) dead) h)
        ∙ without_twice nat_cmp fields (λ i. list_any (λ e. e.index == i) dead) (λ j. j == e.index)
        ∙ (λ k. without nat_cmp fields (λ i. same i k))
      where
        same : (i : ℕ) → (list_any (λ e. e.index == i) dead || i == e.index) ≡ list_any (λ e. e.index == i) (dead ++ e ∷ [])
        same i =
            ap (λ b. list_any (λ e. e.index == i) dead || b) (flipped i e.index ∙ sym (or-false (e.index == i)))
            ∙ sym (list_any-append (λ e. e.index == i) dead (e ∷ []))
