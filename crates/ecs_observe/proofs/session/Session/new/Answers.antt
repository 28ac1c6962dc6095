use Rattle.std.proofs.Common.{map, refl, ap}
use Rattle.ecs_observe.specs.Parts.{held_of}
use Rattle.ecs_observe.proofs.KeptLists.{none_lists}
use Rattle.ecs_observe.proofs.FirstSession.{first_is_first, first_is_session}
use Rattle.ecs_observe.proofs.session.Session.new.Goals as goal

pub invariant_of-result : goal.invariant_of-result
invariant_of-result g c = (first_is_session _ c.in-Ok.ensures (ap (map held_of) c.new-2.ensures.none) refl, none_lists _ _ c.new-2.ensures.none, c.new-2.ensures.stored)

pub returns-clause-first : goal.returns-clause-first
returns-clause-first g c = first_is_first _ c.in-Ok.ensures (ap (map held_of) c.new-2.ensures.none) refl
