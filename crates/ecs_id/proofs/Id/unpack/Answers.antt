-- The number that is unpacked is the packing of the id that it gives.
use Rattle.std.proofs.Common.{refl, arith}
use Rattle.std.proofs.lemmas.Grind.{common_steps}
use Rattle.std.proofs.lemmas.Bool.Decides.{nat_tests}
use Rattle.ecs_id.specs.Id.{id_of, packed-id_of, IsId}
use Rattle.ecs_id.proofs.Id.unpack.Goals as goal

pub returns-then-bits-le-LAST-clause-exact : goal.returns-then-bits-le-LAST-clause-exact
returns-then-bits-le-LAST-clause-exact c =
    let valid : IsId (id_of c.args.bits) = grind (arith, common_steps, nat_tests) in ((λ _. (id_of c.args.bits, valid, packed-id_of c.args.bits)), λ _. refl)

pub returns-then-target-le-LAST-clause-exact : goal.returns-then-target-le-LAST-clause-exact
returns-then-target-le-LAST-clause-exact c =
    let valid : IsId (id_of c.args.bits) = grind (arith, common_steps, nat_tests) in ((λ _. (id_of c.args.bits, valid, packed-id_of c.args.bits)), λ _. refl)
