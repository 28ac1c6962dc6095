-- The order of refusals of commands with traits is their number, and what an accepted command leaves.
use Rattle.std.specs.Prelude.{◌≡◌, ℕ, List, ◌∷◌, ◌++◌, ℤ, Option, Some, None, Result, Ok, Err}
use Rattle.std.specs.List.Sorted.{IsStrictlySortedBy}
use Rattle.std.specs.Option.{option_map_or}
use Rattle.std.specs.Ordering.{nat_cmp}
use Rattle.std.proofs.Common.{rules, sym, ap, refl}
use Rattle.ecs_id.specs.Id.{Id}
use Rattle.ecs_model.specs.declared.faults.Refusal.{Refusal}
use Rattle.ecs_model.specs.steps.Outcomes.{Changed, value_reasons, counted, differences}
use Rattle.ecs_model.specs.Refusal.{first_reason}
use Rattle.ecs_model.specs.Schema.{Schema}
use Rattle.ecs_model.specs.World.{WorldState, type_of_id}
use Rattle.ecs_model.specs.steps.Step.{Command, Fresh, Entity, Component, Add, SetValue, Remove, Delete, add_reasons, reasons, effect, written_by, step}
use Rattle.ecs_model.specs.steps.StepLaws.{ReasonsAscend, FirstReasonIsLeast}
use Rattle.ecs_model.proofs.RefusalOrder.{numbers, least}

-- the reasons against `set`, by whether its id has fields
values_ascend : (o : Option Schema) (vs : List ℤ) (w : WorldState) (e : ℕ) (i : Id)
    → IsStrictlySortedBy nat_cmp (1 ∷ 5 ∷ numbers (value_reasons o vs ++ add_reasons w e i))
unfolding IsStrictlySortedBy
values_ascend None vs w e i = search rules
values_ascend (Some fs) vs w e i = search rules

pub reasons_ascend : ReasonsAscend
unfolding reasons IsStrictlySortedBy
reasons_ascend w Fresh = search rules
reasons_ascend w (Entity n) = search rules
reasons_ascend w (Component n s) = search rules
reasons_ascend w (Add e i) = search rules
reasons_ascend w (SetValue e i vs) = values_ascend (type_of_id w i) vs w e.index i
reasons_ascend w (Remove e i) = search rules
reasons_ascend w (Delete e) = search rules

pub first_reason_is_least : FirstReasonIsLeast
first_reason_is_least w c r s first (k, within, at) = least (reasons w c) (reasons_ascend w c) r s first k within at

-- an accepted command has no reason against it, its world is that of its effect, counted, and it has changed what differs
pub accepted_step : (w v : WorldState) (c : Command) (changed : Changed) → step w c ≡ Ok (v, changed)
    → (first_reason (reasons w c) ≡ None) × (v ≡ counted (effect w c)) × (changed ≡ differences w (counted (effect w c)) (written_by c))
unfolding step
accepted_step w v c changed e = by (first_reason (reasons w c)) refl e
  where
    next : WorldState
    next = counted (effect w c)

    pair : WorldState × Changed
    pair = (next, differences w next (written_by c))

    answer : Result (WorldState × Changed) Refusal
    answer = Ok pair

    asked : WorldState × Changed
    asked = (v, changed)

    by : (o : Option Refusal) → first_reason (reasons w c) ≡ o → option_map_or Err o answer ≡ Ok asked
        → (first_reason (reasons w c) ≡ None) × (v ≡ next) × (changed ≡ differences w next (written_by c))
    by None p q = let same : pair ≡ asked = cc in (p, sym (ap (λ a. a.0) same), sym (ap (λ a. a.1) same))
    by (Some r) p q = cc
