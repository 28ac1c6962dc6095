-- Entities that a command touched, by what they held before it and hold after it.
use Rattle.std.specs.Prelude.{◌≡◌, ℕ, true, not, List, Option, Some, None, Contains, map, option_map, if◌then◌else◌}
use Rattle.ecs_id.specs.Id.{Id}
use Rattle.ecs_model.specs.rows.View.{View}
use Rattle.query_meaning.specs.Variables.{contains}
use Rattle.query_local.specs.declared.touched.Touched.{Touched}

-- an entity, by its index, with its ids before and after: None where it doesn't live
pub record Touch : Type 0 where
  pub index : ℕ
  pub before : Option (List Id)
  pub after : Option (List Id)

abbrev pub touch_of : {A : Type 0} → Touched A → Touch
touch_of t = record { index = t.index; before = option_map (λ ids. ids.items) t.before; after = option_map (λ ids. ids.now) t.after }

-- what a view shows of an entity: its ids, if it lives
abbrev pub held_in : View → ℕ → Option (List Id)
held_in w i = if contains w.entities i then Some (w.ids i) else None

-- these entities have the listed ids in two views, and all others live in both or in neither, with the same ids
pub record AreTouched (touched : List Touch) (before after : View) : Type 0 where
  pub told_before : (t : Touch) → Contains touched t → t.before ≡ held_in before t.index
  pub told_after : (t : Touch) → Contains touched t → t.after ≡ held_in after t.index
  pub others_live : (i : ℕ) → not (contains (map (λ t. t.index) touched) i) ≡ true → contains before.entities i ≡ contains after.entities i
  pub others_hold : (i : ℕ) → not (contains (map (λ t. t.index) touched) i) ≡ true → before.ids i ≡ after.ids i
