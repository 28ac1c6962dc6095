use Rattle.std.proofs.Common.{ap, arith, refl, subst, sym, ◌<◌, ◌∙◌}
use Rattle.std.specs.Prelude.{length}
use Rattle.ecs_observe.specs.Commands.{order_of}
use Rattle.ecs_observe.specs.Standing.{session_of}
use Rattle.ecs_observe.proofs.CommandLists.{lists_stay, of_done, of_refused, one_more_told, one_more_waits, one_of_world, stops_here}
use Rattle.ecs_world.specs.Standing as world
use Rattle.table_store.specs.Going.{TablesGoOn, goes_on_same, goes_on_then}
use Rattle.ecs_observe.proofs.session.Session.apply_all.Goals as goal

pub loop-done-init : goal.loop-done-init
loop-done-init g c = record { applied = refl; lists = λ all. refl; goes_on = goes_on_same c.args.self.now.world.tables; grows = omega arith }

-- the command isn't carried out
pub returns-in-Err-clause-answers : goal.returns-in-Err-clause-answers
returns-in-Err-clause-answers g c =
    let within : c.loop-done.done < length c.args.commands.now = omega arith in
    stops_here (session_of c.args.self.now, c.args.output.now.items) c.args.commands.now c.loop-done.done c.index-commands-done.result within
    c.index-commands-done.is (session_of c.loop-done.self) c.loop-done.output.items c.loop-done.invariant.applied
    c.in-Err.error c.loop-done.self c.apply_copy.new.self refl c.in-Err.ensures.answers

pub returns-in-Err-clause-lists : goal.returns-in-Err-clause-lists
returns-in-Err-clause-lists g c =
    let within : c.loop-done.done < length c.args.commands.now = omega arith in
    let command = c.index-commands-done.result in
    λ all. lists_stay (order_of command) c.apply_copy.result c.loop-done.self c.apply_copy.new.self
    (one_of_world c.args.commands.now c.loop-done.done command within c.index-commands-done.is all) c.apply_copy.ensures.lists
    ∙ c.loop-done.invariant.lists all

pub returns-in-Err-clause-goes_on : goal.returns-in-Err-clause-goes_on
returns-in-Err-clause-goes_on g c = goes_on_then _ _ _ c.loop-done.invariant.goes_on c.apply_copy.ensures.goes_on

-- its events aren't delivered
pub returns-then-is_err-clause-answers : goal.returns-then-is_err-clause-answers
returns-then-is_err-clause-answers g c =
    let within : c.loop-done.done < length c.args.commands.now = omega arith in
    let refused = sym c.is_err.ensures.value ∙ c.if-is_err.true in
    one_more_waits (session_of c.args.self.now, c.args.output.now.items) c.args.commands.now c.loop-done.done c.index-commands-done.result within
    c.index-commands-done.is (session_of c.loop-done.self) c.loop-done.output.items c.loop-done.invariant.applied
    _ c.apply_copy.new.self c.deliver.new.self c.deliver.new.output.items c.in_default.ensures.answers
    (of_refused c.deliver.result refused c.deliver.ensures.refused) (of_refused c.deliver.result refused c.deliver.ensures.unwritten)

pub returns-then-is_err-clause-lists : goal.returns-then-is_err-clause-lists
returns-then-is_err-clause-lists g c =
    let within : c.loop-done.done < length c.args.commands.now = omega arith in
    let command = c.index-commands-done.result in
    λ all. c.deliver.ensures.lists ∙ (lists_stay (order_of command) c.apply_copy.result c.loop-done.self c.apply_copy.new.self
    (one_of_world c.args.commands.now c.loop-done.done command within c.index-commands-done.is all) c.apply_copy.ensures.lists
    ∙ c.loop-done.invariant.lists all)

pub returns-then-is_err-clause-goes_on : goal.returns-then-is_err-clause-goes_on
returns-then-is_err-clause-goes_on g c =
    goes_on_then _ _ _ c.loop-done.invariant.goes_on
    (subst (TablesGoOn c.loop-done.self.world.tables) (sym (ap (λ (w : world.Standing). w.tables) c.deliver.ensures.world)) c.apply_copy.ensures.goes_on)

-- both are done
pub loop-done-preserved : goal.loop-done-preserved
loop-done-preserved g c =
    let within : c.loop-done.done < length c.args.commands.now = omega arith in
    let command = c.index-commands-done.result in
    let done = sym c.is_err.ensures.value ∙ c.if-is_err.false in
    record {
      applied =
          one_more_told (session_of c.args.self.now, c.args.output.now.items) c.args.commands.now c.loop-done.done command within
          c.index-commands-done.is (session_of c.loop-done.self) c.loop-done.output.items c.loop-done.invariant.applied
          _ c.apply_copy.new.self c.deliver.new.self c.deliver.new.output.items c.in_default.ensures.answers
          (of_done c.deliver.result done c.deliver.ensures.after) (of_done c.deliver.result done c.deliver.ensures.written);
      lists =
          λ all. c.deliver.ensures.lists ∙ (lists_stay (order_of command) c.apply_copy.result c.loop-done.self c.apply_copy.new.self
          (one_of_world c.args.commands.now c.loop-done.done command within c.index-commands-done.is all) c.apply_copy.ensures.lists
          ∙ c.loop-done.invariant.lists all);
      goes_on =
          goes_on_then _ _ _ c.loop-done.invariant.goes_on
          (subst (TablesGoOn c.loop-done.self.world.tables) (sym (ap (λ (w : world.Standing). w.tables) c.deliver.ensures.world)) c.apply_copy.ensures.goes_on);
      grows = omega (arith, c.apply_copy.ensures.grows, c.deliver.ensures.grows, c.loop-done.invariant.grows);
    }
