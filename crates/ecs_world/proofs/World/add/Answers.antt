use Rattle.std.proofs.Common.{arith}
use Rattle.ecs_world.proofs.World.add.Goals as goal

pub add_single-requires : goal.add_single-requires
add_single-requires g c = grind arith

pub add_in_place-requires : goal.add_in_place-requires
add_in_place-requires g c = grind arith

pub returns-in-Alone-clause-answers : goal.returns-in-Alone-clause-answers
returns-in-Alone-clause-answers g c = grind arith

pub returns-in-Alone-clause-goes_on : goal.returns-in-Alone-clause-goes_on
returns-in-Alone-clause-goes_on g c = grind arith

pub returns-in-Alone-clause-stay : goal.returns-in-Alone-clause-stay
returns-in-Alone-clause-stay g c = grind arith

pub returns-in-InPlaceOf-clause-answers : goal.returns-in-InPlaceOf-clause-answers
returns-in-InPlaceOf-clause-answers g c = grind arith

pub returns-in-InPlaceOf-clause-goes_on : goal.returns-in-InPlaceOf-clause-goes_on
returns-in-InPlaceOf-clause-goes_on g c = grind arith

pub returns-in-InPlaceOf-clause-stay : goal.returns-in-InPlaceOf-clause-stay
returns-in-InPlaceOf-clause-stay g c = grind arith

pub returns-in-WithOthers-clause-answers : goal.returns-in-WithOthers-clause-answers
returns-in-WithOthers-clause-answers g c = grind arith

pub returns-in-WithOthers-clause-goes_on : goal.returns-in-WithOthers-clause-goes_on
returns-in-WithOthers-clause-goes_on g c = grind arith

pub returns-in-WithOthers-clause-stay : goal.returns-in-WithOthers-clause-stay
returns-in-WithOthers-clause-stay g c = grind arith
