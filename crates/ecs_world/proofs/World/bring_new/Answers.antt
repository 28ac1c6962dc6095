use Rattle.std.proofs.Common.{arith}
use Rattle.std.proofs.Common.{subst, sym, ap, ◌∙◌}
use Rattle.std.specs.List.{list_any}
use Rattle.ecs_archetypes.specs.Housing.{holdings_of}
use Rattle.ecs_archetypes.specs.Staying.{TablesStay, stay_all, stay_then}
use Rattle.ecs_world.specs.Changes.{sized_by}
use Rattle.ecs_world.specs.Releases.{gets_no_data}
use Rattle.ecs_world.proofs.AdditionEffects.{all_agree, all_settled, came_ascend, listed, none_held, state_brought, state_kept, untagged, went_ascend, world_brought, world_kept}
use Rattle.ecs_world.proofs.ChangedWorlds.{alike_then, when_err}
use Rattle.ecs_world.proofs.ReleasedTables.{left_holdings}
use Rattle.ecs_world.proofs.Standings.{state_is, staying_on}
use Rattle.ecs_world.proofs.World.bring_new.Goals as goal

pub change_facts-requires-clause-came_ascend : goal.change_facts-requires-clause-came_ascend
change_facts-requires-clause-came_ascend g c =
    came_ascend c.self.invariant c.args.entity c.args.id
    (listed (state_is c.self.view_is) c.args.entity c.args.id c.requires.judged c.requires.tells.came_are (c.deref-3.ensures.value ∙ c.requires.tells.went_are)
    (c.deref-2.ensures.value ∙ c.in_ok-size_facts.ensures.sized ∙ ap (sized_by c.args.self.now.state) c.deref.ensures.value))

pub change_facts-requires-clause-went_ascend : goal.change_facts-requires-clause-went_ascend
change_facts-requires-clause-went_ascend g c =
    went_ascend c.self.invariant c.args.entity c.args.id
    (listed (state_is c.self.view_is) c.args.entity c.args.id c.requires.judged c.requires.tells.came_are (c.deref-3.ensures.value ∙ c.requires.tells.went_are)
    (c.deref-2.ensures.value ∙ c.in_ok-size_facts.ensures.sized ∙ ap (sized_by c.args.self.now.state) c.deref.ensures.value))

pub change_facts-requires-clause-settled : goal.change_facts-requires-clause-settled
change_facts-requires-clause-settled g c =
    all_settled c.self.invariant c.args.entity c.args.id
    (listed (state_is c.self.view_is) c.args.entity c.args.id c.requires.judged c.requires.tells.came_are (c.deref-3.ensures.value ∙ c.requires.tells.went_are)
    (c.deref-2.ensures.value ∙ c.in_ok-size_facts.ensures.sized ∙ ap (sized_by c.args.self.now.state) c.deref.ensures.value))

pub change_facts-requires-clause-unheld : goal.change_facts-requires-clause-unheld
change_facts-requires-clause-unheld g c =
    none_held c.self.invariant c.args.entity c.args.id
    (listed (state_is c.self.view_is) c.args.entity c.args.id c.requires.judged c.requires.tells.came_are (c.deref-3.ensures.value ∙ c.requires.tells.went_are)
    (c.deref-2.ensures.value ∙ c.in_ok-size_facts.ensures.sized ∙ ap (sized_by c.args.self.now.state) c.deref.ensures.value))

pub change_facts-requires-clause-agree : goal.change_facts-requires-clause-agree
change_facts-requires-clause-agree g c =
    all_agree c.self.invariant c.args.entity c.args.id
    (listed (state_is c.self.view_is) c.args.entity c.args.id c.requires.judged c.requires.tells.came_are (c.deref-3.ensures.value ∙ c.requires.tells.went_are)
    (c.deref-2.ensures.value ∙ c.in_ok-size_facts.ensures.sized ∙ ap (sized_by c.args.self.now.state) c.deref.ensures.value))

pub invariant_of-self : goal.invariant_of-self
invariant_of-self g c =
    world_kept c.self.invariant c.args.entity c.args.id
    (listed (state_is c.self.view_is) c.args.entity c.args.id c.requires.judged c.requires.tells.came_are (c.deref-3.ensures.value ∙ c.requires.tells.went_are)
    (c.deref-2.ensures.value ∙ c.in_ok-size_facts.ensures.sized ∙ ap (sized_by c.args.self.now.state) c.deref.ensures.value))
    (holdings_of c.change_facts.new.self) c.in_err-change_facts.ensures.refused c.change_facts.ensures.kept.holdings c.change_facts.ensures.kept.sizes

pub returns-in_err-change_facts-clause-refused : goal.returns-in_err-change_facts-clause-refused
returns-in_err-change_facts-clause-refused g c =
    when_err c.from_residual-in_err-change_facts.result (state_kept c.self.invariant c.args.entity c.args.id
    (listed (state_is c.self.view_is) c.args.entity c.args.id c.requires.judged c.requires.tells.came_are (c.deref-3.ensures.value ∙ c.requires.tells.went_are)
    (c.deref-2.ensures.value ∙ c.in_ok-size_facts.ensures.sized ∙ ap (sized_by c.args.self.now.state) c.deref.ensures.value))
    (holdings_of c.change_facts.new.self) c.in_err-change_facts.ensures.refused (state_is c.self.view_is))

pub release_tag_pairs-requires : goal.release_tag_pairs-requires
release_tag_pairs-requires g c =
    record {
      unheld = untagged c.self.invariant c.args.entity c.args.id
          (listed (state_is c.self.view_is) c.args.entity c.args.id c.requires.judged c.requires.tells.came_are (c.deref-3.ensures.value ∙ c.requires.tells.went_are)
          (c.deref-2.ensures.value ∙ c.in_ok-size_facts.ensures.sized ∙ ap (sized_by c.args.self.now.state) c.deref.ensures.value))
          (holdings_of c.change_facts.new.self) c.in_ok-change_facts.ensures.changed c.deref-4.result.now (c.deref-4.ensures.value ∙ sym c.deref-2.ensures.value);
      whole = c.change_facts.ensures.kept.whole;
    }

pub invariant_of-self-2 : goal.invariant_of-self-2
invariant_of-self-2 g c =
    world_brought c.self.invariant c.args.entity c.args.id
    (listed (state_is c.self.view_is) c.args.entity c.args.id c.requires.judged c.requires.tells.came_are (c.deref-3.ensures.value ∙ c.requires.tells.went_are)
    (c.deref-2.ensures.value ∙ c.in_ok-size_facts.ensures.sized ∙ ap (sized_by c.args.self.now.state) c.deref.ensures.value))
    (holdings_of c.release_tag_pairs.new.archetypes) (alike_then c.release_tag_pairs.ensures.held c.in_ok-change_facts.ensures.changed) (holdings_of c.change_facts.new.self) c.deref-4.result.now
    (c.deref-4.ensures.value ∙ sym c.deref-2.ensures.value) c.change_facts.ensures.kept.sizes c.release_tag_pairs.ensures.sizes (left_holdings _ _ _ c.release_tag_pairs.ensures)

pub returns-clause-brought : goal.returns-clause-brought
returns-clause-brought g c =
    state_brought c.self.invariant c.args.entity c.args.id
    (listed (state_is c.self.view_is) c.args.entity c.args.id c.requires.judged c.requires.tells.came_are (c.deref-3.ensures.value ∙ c.requires.tells.went_are)
    (c.deref-2.ensures.value ∙ c.in_ok-size_facts.ensures.sized ∙ ap (sized_by c.args.self.now.state) c.deref.ensures.value))
    (holdings_of c.release_tag_pairs.new.archetypes) (alike_then c.release_tag_pairs.ensures.held c.in_ok-change_facts.ensures.changed) (holdings_of c.change_facts.new.self) c.deref-4.result.now
    (c.deref-4.ensures.value ∙ sym c.deref-2.ensures.value) c.change_facts.ensures.kept.sizes c.release_tag_pairs.ensures.sizes (left_holdings _ _ _ c.release_tag_pairs.ensures) (state_is c.self.view_is)

pub returns-in_err-change_facts-clause-kept : goal.returns-in_err-change_facts-clause-kept
returns-in_err-change_facts-clause-kept g c = when_err c.from_residual-in_err-change_facts.result (staying_on c.self.view_is c.change_facts.ensures.kept.stay)

pub returns-clause-stay : goal.returns-clause-stay
returns-clause-stay g c =
    let came = c.deref-4.ensures.value ∙ c.in_ok-size_facts.ensures.sized ∙ ap (sized_by c.args.self.now.state) c.deref.ensures.value in
    staying_on c.self.view_is (stay_then _ _ _ _ (stay_all c.change_facts.ensures.kept.stay)
    (subst (λ ks. TablesStay (list_any (gets_no_data ks)) c.change_facts.new.self.tables c.release_tag_pairs.new.archetypes.tables) came c.release_tag_pairs.ensures.stay))

pub returns-in_err-size_facts-clause-brought : goal.returns-in_err-size_facts-clause-brought
returns-in_err-size_facts-clause-brought g c = grind arith

pub returns-in_err-size_facts-clause-refused : goal.returns-in_err-size_facts-clause-refused
returns-in_err-size_facts-clause-refused g c = grind arith

pub returns-in_err-size_facts-clause-goes_on : goal.returns-in_err-size_facts-clause-goes_on
returns-in_err-size_facts-clause-goes_on g c = grind arith

pub returns-in_err-size_facts-clause-stay : goal.returns-in_err-size_facts-clause-stay
returns-in_err-size_facts-clause-stay g c = grind arith

pub returns-in_err-size_facts-clause-kept : goal.returns-in_err-size_facts-clause-kept
returns-in_err-size_facts-clause-kept g c = grind arith

pub change_facts-requires-clause-small : goal.change_facts-requires-clause-small
change_facts-requires-clause-small g c = grind arith

pub change_facts-requires-clause-dead : goal.change_facts-requires-clause-dead
change_facts-requires-clause-dead g c = grind arith

pub returns-in_err-change_facts-clause-brought : goal.returns-in_err-change_facts-clause-brought
returns-in_err-change_facts-clause-brought g c = grind arith

pub returns-in_err-change_facts-clause-goes_on : goal.returns-in_err-change_facts-clause-goes_on
returns-in_err-change_facts-clause-goes_on g c = grind arith

pub returns-in_err-change_facts-clause-stay : goal.returns-in_err-change_facts-clause-stay
returns-in_err-change_facts-clause-stay g c = grind arith

pub returns-clause-goes_on : goal.returns-clause-goes_on
returns-clause-goes_on g c = grind arith
