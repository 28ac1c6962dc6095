-- What accepted commands answer is what has changed.
use Rattle.std.proofs.Common.{◌≡◌, ℕ, Bool, true, false, cond, not, ◌||◌, ℤ, List, [], ◌∷◌, Some, None, is_some, Ok, if◌then◌else◌, refl, sym, ap, subst, ◌∙◌}
use Rattle.std.specs.Prelude.{filter}
use Rattle.std.specs.List.{list_any}
use Rattle.std.specs.FinMap.Entries.{below_all, is_sorted}
use Rattle.std.specs.Cmp.{Equal-is, eq_by_cmp_equiv}
use Rattle.ecs_id.specs.declared.EntityId.{EntityId}
use Rattle.ecs_id.specs.Id.{Id, plain}
use Rattle.ecs_model.specs.Schema.{Schema}
use Rattle.ecs_model.specs.steps.WellFormed.{IsWellFormed}
use Rattle.ecs_model.specs.Map.{IsMap, Map, has_key, keys, value_at}
use Rattle.ecs_model.specs.Refusal.{first_reason}
use Rattle.ecs_model.specs.World.{WorldState, Key, component, holds, ids_of, key_cmp, key_eq}
use Rattle.ecs_model.specs.steps.FactChanges.{coming, removed}
use Rattle.ecs_model.specs.steps.Outcomes.{Changed, AnswersStep, counted, differences, next_entity}
use Rattle.ecs_model.specs.steps.Step.{Fresh, Entity, Component, Add, SetValue, Remove, reasons, effect, step, written_by}
use Rattle.ecs_model.proofs.StepAnswers.{answers_accepted}
use Rattle.ecs_model.proofs.Differences.{differences_of_birth, differences_of_named_birth, differences_of_component}
use Rattle.ecs_model.proofs.Maps.{absent_below, both_true, key_cmp_same, key_cmp_total}
use Rattle.ecs_model.proofs.steps.AddEffects.{differences_of_add, differences_of_set}
use Rattle.ecs_model.proofs.steps.Differences.{differences_of_remove}
use Rattle.ecs_model.proofs.steps.ReplacedFacts.{is_replaced}
use Rattle.ecs_world.proofs.JudgedCommands.{add_of_set, judged-add}
use Rattle.ecs_world.proofs.SimpleFacts.{alone_comes, new_there, old_there, only_comes, removed_alone, replaced_none, replaced_one}
use Rattle.rel_traits.specs.Simple.{ComesAlone, ComesInPlace, is_unmirrored}
use Rattle.ecs_world.specs.State.{arrival, birth, no_change}

-- where none passes, none is left
pub filter_none : {A : Type 0} (xs : List A) → filter (λ x. false) xs ≡ []
filter_none [] = refl
filter_none (x ∷ xs) = filter_none xs

-- of the keys of a map one alone passes a test for it, if it is there
one_passes : {X : Type 0} (m : Map Key X) (k : Key) → IsMap key_cmp m → filter (λ q. list_any (key_eq q) (k ∷ [])) (keys m) ≡ (if has_key key_cmp m k then k ∷ [] else [])
one_passes [] k sorted = refl
one_passes (y ∷ ys) k sorted =
    let parts = both_true (below_all key_cmp y.0 ys) (is_sorted key_cmp ys) sorted in
    by (key_eq y.0 k) refl parts.0 (one_passes ys k parts.1)
  where
    rest : List Key
    rest = filter (λ q. list_any (key_eq q) (k ∷ [])) (keys ys)

    turned : (b : Bool) → key_eq y.0 k ≡ b → key_eq k y.0 ≡ b
    turned b p = (eq_by_cmp_equiv key_cmp_total).symm k y.0 ∙ p

    alone : y.0 ≡ k → below_all key_cmp y.0 ys ≡ true → has_key key_cmp ys k ≡ false
    alone is low = ap is_some (absent_below key_cmp key_cmp_total k ys (subst (λ x. below_all key_cmp x ys ≡ true) is low))

    by : (b : Bool) → key_eq y.0 k ≡ b → below_all key_cmp y.0 ys ≡ true → rest ≡ (if has_key key_cmp ys k then k ∷ [] else [])
        → filter (λ q. list_any (key_eq q) (k ∷ [])) (keys (y ∷ ys)) ≡ (if has_key key_cmp (y ∷ ys) k then k ∷ [] else [])
    by true p low left =
        let is : y.0 ≡ k = key_cmp_same y.0 k ((Equal-is (key_cmp y.0 k)).0 p) in
        let none : rest ≡ [] = left ∙ ap (λ b. if b then k ∷ [] else []) (alone is low) in
        ap (λ b. cond (b || false) (y.0 ∷ rest) rest) p ∙ (λ j. is j ∷ none j) ∙ sym (ap (λ b. if is_some (cond b (Some y.1) (value_at key_cmp ys k)) then k ∷ [] else []) (turned true p))
    by false p low left =
        ap (λ b. cond (b || false) (y.0 ∷ rest) rest) p ∙ left ∙ sym (ap (λ b. if is_some (cond b (Some y.1) (value_at key_cmp ys k)) then k ∷ [] else []) (turned false p))

module _ (v : WorldState) (e : EntityId) (i : Id) where
  -- a fact that comes alone comes, if it isn't held
  comes_alone : ComesAlone (ids_of v) (e.index, i) → filter (λ k. not (holds v k.0 k.1)) (keys (coming v e.index i)) ≡ (if holds v e.index i then [] else (e.index, i) ∷ [])
  comes_alone alone = ap (filter (λ k. not (holds v k.0 k.1))) (alone_comes v e.index i alone) ∙ by (holds v e.index i)
    where
      by : (b : Bool) → cond {A = List Key} (not b) ((e.index, i) ∷ []) [] ≡ (if b then [] else (e.index, i) ∷ [])
      by true = refl
      by false = refl

  -- and nothing gives way
  none_goes : ComesAlone (ids_of v) (e.index, i) → filter (is_replaced v e.index i) (keys v.facts) ≡ []
  none_goes alone = ap (λ ks. filter (λ k. list_any (key_eq k) ks) (keys v.facts)) (replaced_none v e.index i alone) ∙ filter_none (keys v.facts)

  -- a fact that comes in the place of another comes, and the other goes
  module _ (old : Id) (in_place : ComesInPlace (ids_of v) (e.index, i) old) where
    comes_for : filter (λ k. not (holds v k.0 k.1)) (keys (coming v e.index i)) ≡ (e.index, i) ∷ []
    comes_for = ap (filter (λ k. not (holds v k.0 k.1))) (only_comes v e.index i in_place.brings in_place.no_copies) ∙ ap (λ b. cond {A = List Key} (not b) ((e.index, i) ∷ []) []) (new_there v e.index i old in_place)

    goes_for : IsWellFormed v → filter (is_replaced v e.index i) (keys v.facts) ≡ (e.index, old) ∷ []
    goes_for sound =
        ap (λ ks. filter (λ k. list_any (key_eq k) ks) (keys v.facts)) (replaced_one v e.index i old in_place)
        ∙ one_passes v.facts (e.index, old) (sound.in_order).facts ∙ ap (λ b. if b then (e.index, old) ∷ [] else []) (old_there v e.index i old in_place)

  -- a fact without mirror goes alone, if it is held
  goes_alone : IsWellFormed v → is_unmirrored (ids_of v) i ≡ true
      → filter (λ k. list_any (key_eq k) (removed v e.index i)) (keys v.facts) ≡ (if holds v e.index i then (e.index, i) ∷ [] else [])
  goes_alone sound alone = ap (λ ks. filter (λ k. list_any (key_eq k) ks) (keys v.facts)) (removed_alone v e.index i alone) ∙ one_passes v.facts (e.index, i) (sound.in_order).facts

  abbrev with_changes : List Key → List Key → List Key → Changed
  with_changes came went written = record { born = None; died = []; came = came; went = went; written = written }

  alone_added : IsWellFormed v → ComesAlone (ids_of v) (e.index, i) → first_reason (reasons v (Add e i)) ≡ None
      → differences v (counted (effect v (Add e i))) (written_by (Add e i)) ≡ arrival v e.index i
  alone_added sound alone none =
      let can = judged-add v e i alone.no_trait none in
      differences_of_add v e i sound can.mentions ∙ (λ j. with_changes (comes_alone alone j) (none_goes alone j) [])

  replaced_added : (old : Id) → IsWellFormed v → ComesInPlace (ids_of v) (e.index, i) old → first_reason (reasons v (Add e i)) ≡ None
      → differences v (counted (effect v (Add e i))) (written_by (Add e i)) ≡ record no_change { came = (e.index, i) ∷ []; went = (e.index, old) ∷ [] }
  replaced_added old sound in_place none =
      let can = judged-add v e i in_place.no_trait none in
      differences_of_add v e i sound can.mentions ∙ (λ j. with_changes (comes_for old in_place j) (goes_for old in_place sound j) [])

  alone_set : (vs : List ℤ) → IsWellFormed v → ComesAlone (ids_of v) (e.index, i) → first_reason (reasons v (SetValue e i vs)) ≡ None
      → differences v (counted (effect v (SetValue e i vs))) (written_by (SetValue e i vs)) ≡ record (arrival v e.index i) { written = (e.index, i) ∷ [] }
  alone_set vs sound alone none =
      let can = judged-add v e i alone.no_trait (add_of_set v e i vs none).1 in
      differences_of_set v e i vs sound can.mentions ∙ (λ j. with_changes (comes_alone alone j) (none_goes alone j) ((e.index, i) ∷ []))

module _ (v u : WorldState) (told : Changed) where
  pub told_fresh : (e : EntityId) → next_entity v ≡ Some e → first_reason (reasons v Fresh) ≡ None → u ≡ counted (effect v Fresh) → told ≡ birth e → AnswersStep (Ok told) (step v Fresh) v u
  told_fresh e next none left is = answers_accepted v Fresh told u none left (is ∙ sym (differences_of_birth v e next))

  pub told_entity : (n : List ℕ) (e : EntityId) → next_entity v ≡ Some e → first_reason (reasons v (Entity n)) ≡ None → u ≡ counted (effect v (Entity n)) → told ≡ birth e
      → AnswersStep (Ok told) (step v (Entity n)) v u
  told_entity n e next none left is = answers_accepted v (Entity n) told u none left (is ∙ sym (differences_of_named_birth v n e next))

  pub told_component : (n : List ℕ) (s : Schema) (e : EntityId) → IsWellFormed v → next_entity v ≡ Some e → first_reason (reasons v (Component n s)) ≡ None → u ≡ counted (effect v (Component n s))
      → told ≡ record (birth e) { came = (e.index, plain component) ∷ [] } → AnswersStep (Ok told) (step v (Component n s)) v u
  told_component n s e sound next none left is = answers_accepted v (Component n s) told u none left (is ∙ sym (differences_of_component v n s e sound next))

  module _ (e : EntityId) (i : Id) (sound : IsWellFormed v) where
    pub told_add : ComesAlone (ids_of v) (e.index, i) → first_reason (reasons v (Add e i)) ≡ None → u ≡ counted (effect v (Add e i)) → told ≡ arrival v e.index i → AnswersStep (Ok told) (step v (Add e i)) v u
    told_add alone none left is = answers_accepted v (Add e i) told u none left (is ∙ sym (alone_added v e i sound alone none))

    pub told_replacing : (old : Id) → ComesInPlace (ids_of v) (e.index, i) old → first_reason (reasons v (Add e i)) ≡ None → u ≡ counted (effect v (Add e i))
        → told ≡ record no_change { came = (e.index, i) ∷ []; went = (e.index, old) ∷ [] } → AnswersStep (Ok told) (step v (Add e i)) v u
    told_replacing old in_place none left is = answers_accepted v (Add e i) told u none left (is ∙ sym (replaced_added v e i old sound in_place none))

    pub told_set : (vs : List ℤ) → ComesAlone (ids_of v) (e.index, i) → first_reason (reasons v (SetValue e i vs)) ≡ None → u ≡ counted (effect v (SetValue e i vs))
        → told ≡ record (arrival v e.index i) { written = (e.index, i) ∷ [] } → AnswersStep (Ok told) (step v (SetValue e i vs)) v u
    told_set vs alone none left is = answers_accepted v (SetValue e i vs) told u none left (is ∙ sym (alone_set v e i vs sound alone none))

    pub told_remove : (b : Bool) → is_unmirrored (ids_of v) i ≡ true → holds v e.index i ≡ b → first_reason (reasons v (Remove e i)) ≡ None → u ≡ counted (effect v (Remove e i))
        → told ≡ record no_change { went = if b then (e.index, i) ∷ [] else [] } → AnswersStep (Ok told) (step v (Remove e i)) v u
    told_remove b alone held none left is =
        answers_accepted v (Remove e i) told u none left
        (is ∙ ap (λ c. record no_change { went = if c then (e.index, i) ∷ [] else [] }) (sym held)
        ∙ sym (differences_of_remove v e i ∙ ap (λ went. record no_change { went = went }) (goes_alone v e i sound alone)))
