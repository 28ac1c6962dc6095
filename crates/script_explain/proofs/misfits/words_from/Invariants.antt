use Rattle.std.proofs.Common.{◌≤◌, length}
use Rattle.script_explain.proofs.misfits.words_from.Given as goal

abbrev pub invariant-loop : goal.invariant-loop
invariant-loop l = l.at ≤ length l.fn.line
