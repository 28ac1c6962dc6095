-- Without bytes the id has no type, and prints nothing.
use Rattle.std.proofs.Common.{◌≡◌, length, arith}
use Rattle.std.proofs.lemmas.Bool.Decides.{nat_tests}
use Rattle.std.specs.Prelude.{codes}
use Rattle.ecs_print.specs.Values.{ended_text}
use Rattle.ecs_print.proofs.Fields.{appended}
use Rattle.ecs_print.proofs.HeldFacts.{nothing_printed}
use Rattle.ecs_print.proofs.facts.write_bytes.Goals as goal

pub returns-then-is_empty-clause-written : goal.returns-then-is_empty-clause-written
returns-then-is_empty-clause-written g c =
    let none : length c.args.bytes.now ≡ 0 = grind (arith, nat_tests) in
    let extended = c.extend_from_slice in
    appended extended.result (c.args.out.now).items extended.new.self.items (codes "] [") (ended_text c.args.world.now.state c.args.id c.args.bytes.now) extended.ensures.items
    (nothing_printed c.args.world.now.state c.keeps.ensures c.args.id c.args.bytes.now c.requires none)
