-- The value of a fact, by the bytes that mean it.
use Rattle.std.proofs.Common.{◌≡◌, ℕ, List, Bool, true, false, refl, subst}
use Rattle.std.specs.Prelude.{Option, Some, None, is_some, option_map, if◌then◌else◌}
use Rattle.ecs_id.specs.Id.{Id}
use Rattle.ecs_model.specs.Bytes.{values_in}
use Rattle.ecs_model.specs.Schema.{Schema}
use Rattle.ecs_model.specs.World.{WorldState, type_of_id, value_of}
use Rattle.ecs_model.specs.rows.View.{view_of}
use Rattle.ecs_world.specs.State.{value_in}

module _ (w : WorldState) (e : ℕ) (i : Id) where
  -- an id without fields
  pub untyped : None ≡ type_of_id w i → None ≡ (view_of w).value e i
  untyped is = subst (λ (t : Option Schema). None ≡ (if is_some t then value_of w e i else None)) is refl

  -- a fact that isn't there
  pub missing : None ≡ value_of w e i → None ≡ (view_of w).value e i
  missing none = by (is_some (type_of_id w i))
    where
      by : (b : Bool) → None ≡ (if b then value_of w e i else None)
      by true = none
      by false = refl

  -- bytes with the fields of the id
  pub typed : (fs : Schema) (bytes : List ℕ) → Some fs ≡ type_of_id w i → option_map (value_in (type_of_id w i)) (Some bytes) ≡ value_of w e i → Some (values_in fs bytes) ≡ (view_of w).value e i
  typed fs bytes is = subst (λ (t : Option Schema). option_map (value_in t) (Some bytes) ≡ value_of w e i → Some (values_in fs bytes) ≡ (if is_some t then value_of w e i else None)) is (λ h. h)
