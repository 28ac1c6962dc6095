use Rattle.std.proofs.Common.{◌≤◌, length}
use Rattle.script_explain.proofs.findings.value_outside.Given as goal

abbrev pub invariant-loop : goal.invariant-loop
invariant-loop l = (l.field_at ≤ length l.fn.fields) × (l.at ≤ length l.fn.line)
