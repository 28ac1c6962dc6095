use Rattle.std.proofs.Common.{rules, refl, arith}
use Rattle.std.proofs.lemmas.Bool.Decides.{nat_tests}
use Rattle.ecs_schema.proofs.Repeats.{schema_fault-given}
use Rattle.ecs_schema.proofs.given.fault_of.Goals as goal
use Rattle.ecs_schema.proofs.given.fault_of.Goals.{then-not-are_named-via-then-not-are_named, then-not-are_named-via-else-not-are_named+then-repeats_name}

pub returns-then-not-are_named : goal.returns-then-not-are_named
returns-then-not-are_named c = elim c.then-not-are_named.branch [
  | then-not-are_named-via-then-not-are_named w ↦ rw (schema_fault-given _ _ _ c.are_named.ensures refl, w.if-not-are_named.true) (grind (arith, nat_tests))
  | then-not-are_named-via-else-not-are_named+then-repeats_name w ↦ rw (schema_fault-given _ _ _ c.are_named.ensures w.repeats_name.ensures, w.if-not-are_named.false, w.if-repeats_name.true) (grind (arith, nat_tests))
]

pub returns : goal.returns
returns c = rw (schema_fault-given _ _ _ c.are_named.ensures c.repeats_name.ensures) (search rules)
