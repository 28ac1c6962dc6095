use Rattle.std.proofs.Common.{IfSome}
use Rattle.script_explain.specs.Nearness.{IsFound}
use Rattle.script_explain.proofs.scripts.Script.nearest_query.Given as goal

abbrev pub invariant-loop-made : goal.invariant-loop-made
invariant-loop-made g l = IfSome l.found (IsFound l.fn.word)
