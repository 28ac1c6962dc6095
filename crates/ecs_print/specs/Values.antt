-- The pieces of a printed value.
use Rattle.std.specs.Prelude.{ℕ, ℤ, List, ◌∷◌, ◌++◌, codes, Some}
use Rattle.std.specs.Fmt.{signed_decimal}
use Rattle.ecs_id.specs.Id.{Id}
use Rattle.ecs_model.specs.Print.{id_text, value_text}
use Rattle.ecs_model.specs.World.{WorldState, type_of_id}
use Rattle.ecs_world.specs.State.{value_in}

-- a number after a comma
abbrev pub behind_comma : ℤ → List ℕ
behind_comma n = 44 ∷ signed_decimal n

-- the value that these bytes mean, and the separator of facts
abbrev pub ended_text : WorldState → Id → List ℕ → List ℕ
ended_text w i bytes = value_text (Some (value_in (type_of_id w i) bytes)) ++ codes "] ["

-- an id, its value by these bytes, and the separator of facts
abbrev pub held_text : WorldState → Id → List ℕ → List ℕ
held_text w i bytes = id_text w i ++ ended_text w i bytes
