use Rattle.std.proofs.Common.{arith}
use Rattle.std.proofs.Common.{◌||◌, refl, subst, ◌∙◌}
use Rattle.std.specs.List.{list_any}
use Rattle.ecs_archetypes.specs.Housing.{holdings_of}
use Rattle.ecs_archetypes.specs.Staying.{TablesStay, stay_all, stay_then}
use Rattle.ecs_archetypes.proofs.TableMoves.{alike_then}
use Rattle.ecs_world.specs.Releases.{indexes_of, mentions_one}
use Rattle.ecs_world.proofs.DeletionEffects.{buried_is, dead_can_go, indexes_are, losing_rise, losing_settled, none_rise, unburied, unheld, whatever}
use Rattle.ecs_world.proofs.ReleasedTables.{left_holdings}
use Rattle.ecs_world.proofs.Standings.{state_is, staying_on}
use Rattle.ecs_world.proofs.World.bury.Goals as goal

pub change_facts-requires-clause-came_ascend : goal.change_facts-requires-clause-came_ascend
change_facts-requires-clause-came_ascend g c = none_rise

pub change_facts-requires-clause-went_ascend : goal.change_facts-requires-clause-went_ascend
change_facts-requires-clause-went_ascend g c =
    losing_rise c.self.invariant (state_is c.self.view_is) c.args.entity c.requires.judged c.deref.result.now (c.deref.ensures.value ∙ c.requires.lost)
    c.as_slice-dead.result.now (c.as_slice-dead.ensures.value ∙ c.requires.dead)

pub change_facts-requires-clause-settled : goal.change_facts-requires-clause-settled
change_facts-requires-clause-settled g c =
    losing_settled c.self.invariant (state_is c.self.view_is) c.args.entity c.requires.judged c.deref.result.now (c.deref.ensures.value ∙ c.requires.lost)
    c.as_slice-dead.result.now (c.as_slice-dead.ensures.value ∙ c.requires.dead)

pub change_facts-requires-clause-dead : goal.change_facts-requires-clause-dead
change_facts-requires-clause-dead g c =
    dead_can_go c.self.invariant (state_is c.self.view_is) c.args.entity c.requires.judged c.deref.result.now (c.deref.ensures.value ∙ c.requires.lost)
    c.as_slice-dead.result.now (c.as_slice-dead.ensures.value ∙ c.requires.dead)

pub invariant_of-self : goal.invariant_of-self
invariant_of-self g c =
    (unburied c.self.invariant (state_is c.self.view_is) (holdings_of c.change_facts.new.self) c.change_facts.ensures.kept.holdings c.in_err-change_facts.ensures.refused c.change_facts.ensures.kept.sizes).0

pub returns-in_err-change_facts-clause-refused : goal.returns-in_err-change_facts-clause-refused
returns-in_err-change_facts-clause-refused g c =
    whatever c.from_residual.result
    (unburied c.self.invariant (state_is c.self.view_is) (holdings_of c.change_facts.new.self) c.change_facts.ensures.kept.holdings c.in_err-change_facts.ensures.refused c.change_facts.ensures.kept.sizes).1

pub release_dead-requires : goal.release_dead-requires
release_dead-requires g c = record {
  unheld = unheld c.self.invariant (state_is c.self.view_is) c.args.entity c.requires.judged c.deref.result.now (c.deref.ensures.value ∙ c.requires.lost)
      c.as_slice-dead.result.now (c.as_slice-dead.ensures.value ∙ c.requires.dead)
      (holdings_of c.change_facts.new.self) c.change_facts.ensures.kept.holdings c.in_ok-change_facts.ensures.changed;
  whole = c.change_facts.ensures.kept.whole;
}

pub invariant_of-self-2 : goal.invariant_of-self-2
invariant_of-self-2 g c =
    (buried_is c.self.invariant (state_is c.self.view_is) c.args.entity c.requires.judged c.deref.result.now (c.deref.ensures.value ∙ c.requires.lost)
    c.as_slice-dead.result.now (c.as_slice-dead.ensures.value ∙ c.requires.dead)
    (holdings_of c.release_dead.new.archetypes) (left_holdings _ _ _ c.release_dead.ensures) (alike_then _ _ _ c.release_dead.ensures.held c.in_ok-change_facts.ensures.changed)
    c.forget.new.schemas.entries c.forget.ensures.schemas c.forget.new.names c.forget.ensures.names
    (λ test t. c.release_dead.ensures.sizes test (c.change_facts.ensures.kept.sizes (λ x. mentions_one (indexes_of c.as_slice-dead.result.now) x.0 || test x) t refl))).0

pub returns-clause-buried : goal.returns-clause-buried
returns-clause-buried g c =
    (buried_is c.self.invariant (state_is c.self.view_is) c.args.entity c.requires.judged c.deref.result.now (c.deref.ensures.value ∙ c.requires.lost)
    c.as_slice-dead.result.now (c.as_slice-dead.ensures.value ∙ c.requires.dead)
    (holdings_of c.release_dead.new.archetypes) (left_holdings _ _ _ c.release_dead.ensures) (alike_then _ _ _ c.release_dead.ensures.held c.in_ok-change_facts.ensures.changed)
    c.forget.new.schemas.entries c.forget.ensures.schemas c.forget.new.names c.forget.ensures.names
    (λ test t. c.release_dead.ensures.sizes test (c.change_facts.ensures.kept.sizes (λ x. mentions_one (indexes_of c.as_slice-dead.result.now) x.0 || test x) t refl))).1

pub returns-in_err-change_facts-clause-kept : goal.returns-in_err-change_facts-clause-kept
returns-in_err-change_facts-clause-kept g c = whatever c.from_residual.result (staying_on c.self.view_is c.change_facts.ensures.kept.stay)

pub returns-clause-stay : goal.returns-clause-stay
returns-clause-stay g c =
    staying_on c.self.view_is (stay_then _ _ _ _ (stay_all c.change_facts.ensures.kept.stay)
    (subst (λ dead. TablesStay (list_any (mentions_one dead)) c.change_facts.new.self.tables c.release_dead.new.archetypes.tables)
    (indexes_are c.self.invariant (state_is c.self.view_is) c.args.entity c.requires.judged c.deref.result.now (c.deref.ensures.value ∙ c.requires.lost)
    c.as_slice-dead.result.now (c.as_slice-dead.ensures.value ∙ c.requires.dead)) c.release_dead.ensures.stay))

pub slice_bounds-change_facts-end : goal.slice_bounds-change_facts-end
slice_bounds-change_facts-end g c = grind arith

pub change_facts-requires-clause-unheld : goal.change_facts-requires-clause-unheld
change_facts-requires-clause-unheld g c = grind arith

pub change_facts-requires-clause-small : goal.change_facts-requires-clause-small
change_facts-requires-clause-small g c = grind arith

pub change_facts-requires-clause-agree : goal.change_facts-requires-clause-agree
change_facts-requires-clause-agree g c = grind arith

pub returns-in_err-change_facts-clause-buried : goal.returns-in_err-change_facts-clause-buried
returns-in_err-change_facts-clause-buried g c = grind arith

pub returns-in_err-change_facts-clause-goes_on : goal.returns-in_err-change_facts-clause-goes_on
returns-in_err-change_facts-clause-goes_on g c = grind arith

pub returns-in_err-change_facts-clause-stay : goal.returns-in_err-change_facts-clause-stay
returns-in_err-change_facts-clause-stay g c = grind arith

pub returns-clause-goes_on : goal.returns-clause-goes_on
returns-clause-goes_on g c = grind arith
