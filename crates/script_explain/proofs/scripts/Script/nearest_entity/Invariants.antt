use Rattle.std.proofs.Common.{IfSome}
use Rattle.script_explain.specs.Nearness.{IsFound}
use Rattle.script_explain.proofs.scripts.Script.nearest_entity.Given as goal

abbrev pub invariant-loop-name : goal.invariant-loop-name
invariant-loop-name g l = IfSome l.found (IsFound l.fn.word)

abbrev pub invariant-loop-made : goal.invariant-loop-made
invariant-loop-made g l = IfSome l.found (IsFound l.fn.word)

abbrev pub invariant-loop-made-2 : goal.invariant-loop-made-2
invariant-loop-made-2 g l = IfSome l.found (IsFound l.fn.word)
