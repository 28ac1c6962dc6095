-- The names of a small world.
use Rattle.std.specs.Prelude.{ℕ, List, Option, Some, None, bytes_eq, codes, if◌then◌else◌}
use Rattle.ecs_id.specs.declared.EntityId.{EntityId}

abbrev pub entity : ℕ → Option EntityId
entity i = Some (record { index = i; generation = 0 })

abbrev pub named : List ℕ → Option EntityId
named n =
    if bytes_eq n (codes "ChildOf") then entity 1
    else if bytes_eq n (codes "IsA") then entity 2
    else if bytes_eq n (codes "Sun") then entity 64
    else if bytes_eq n (codes "Moon") then entity 65
    else if bytes_eq n (codes "Planet") then entity 66
    else if bytes_eq n (codes "Position") then entity 67
    else if bytes_eq n (codes "Likes") then entity 68
    else None
