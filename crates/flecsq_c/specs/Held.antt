-- What a handle holds and owns: an engine on the heap, with the right to free its block, or nothing.
use Rattle.std.specs.Prelude.{Bool, true, false, Option, None, Some}
use base.Fml.{Fml, ftrue, ffalse}
use denote.RattleType.{RattleType}
use denote.RawPtr.{Ptr}
use Rattle.flecsq_c.specs.contracts.engine.Engine as engine
use Rattle.std_heap.specs.contracts.GlobalAllocator.TheImpl.{ghosts}
use Rattle.std_alloc.specs.Box.Ownership.{box_owns}
use mir.Syntax.{Ty}

abbrev pub Row : RattleType
Row = engine.the_row

-- the right to free a block, which reads nothing of the heap's handle
abbrev pub token : Ty → Ptr → Fml
token = ghosts.dealloc_token (record { memory = record { seal = tt } })

-- an open handle owns its engine
abbrev pub held : Bool → Ptr → Option Row.Denot → Fml
held true p (Some x) = box_owns token Row p x
held true p None = ffalse
held false p x = ftrue

-- an open handle holds its engine, and one that is closed none
abbrev pub holds_if : {T : Type 0} → Bool → Option T → Option T
holds_if true x = x
holds_if false x = None
