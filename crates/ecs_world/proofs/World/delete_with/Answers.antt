use Rattle.std.proofs.Common.{refl, sym, ap, ◌∙◌, arith}
use Rattle.std.specs.Prelude.{filter}
use Rattle.std.proofs.lemmas.Result.{err_from_is_err_and}
use Rattle.ecs_archetypes.specs.Staying.{stay_all}
use Rattle.ecs_model.specs.Map.{keys}
use Rattle.ecs_model.specs.Refusal.{first_reason}
use Rattle.ecs_model.specs.steps.FactChanges.{deleted}
use Rattle.ecs_model.specs.steps.Step.{Delete, reasons, without_entities}
use Rattle.rel_traits.specs.Deletions.{is_lost}
use Rattle.ecs_world.specs.Changes.{entities_at, with_names}
use Rattle.ecs_world.specs.State.{no_change}
use Rattle.ecs_world.proofs.AcceptedCommands.{on_err, on_ok}
use Rattle.ecs_world.proofs.CommandCounts.{counted_state, counted_world}
use Rattle.ecs_world.proofs.FirstReasons.{answers_undeleted, delete_otherwise}
use Rattle.ecs_world.proofs.ForgottenTables.{deleted_stay, going_to}
use Rattle.ecs_world.proofs.Standings.{state_is}
use Rattle.ecs_world.proofs.ToldDeletions.{deletion_told, effect-delete}
use Rattle.ecs_world.proofs.World.delete_with.Goals as goal

pub returns-in_err-find_deletion-clause-answers : goal.returns-in_err-find_deletion-clause-answers
returns-in_err-find_deletion-clause-answers g c =
    let p = err_from_is_err_and c.from_residual.result c.from_residual.ensures.1 in
    rw (p.1, p.2)
    (answers_undeleted c.args.self.now.state c.args.entity c.find_deletion.new.self.state c.in_err-find_deletion.field-0.0 c.requires.alive c.requires.own c.in_err-find_deletion.ensures.refused (state_is c.in_err-find_deletion.ensures.same))

pub bury-requires-clause-judged : goal.bury-requires-clause-judged
bury-requires-clause-judged g c =
    let none = delete_otherwise c.args.self.now.state c.args.entity c.requires.alive c.requires.own ∙ c.in_ok-find_deletion.ensures.judged in
    ap (λ u. first_reason (reasons u (Delete c.args.entity))) (state_is c.in_ok-find_deletion.ensures.same) ∙ none

pub bury-requires-clause-dead : goal.bury-requires-clause-dead
bury-requires-clause-dead g c =
    ap (λ v. v.items) c.tell_deletion.ensures.dead ∙ c.in_ok-find_deletion.ensures.dead ∙ ap (λ u. entities_at u (keys (deleted u c.args.entity.index))) (sym (state_is c.in_ok-find_deletion.ensures.same))

pub bury-requires-clause-lost : goal.bury-requires-clause-lost
bury-requires-clause-lost g c =
    ap (λ v. v.items) c.tell_deletion.ensures.lost ∙ c.in_ok-find_deletion.ensures.lost ∙ ap (λ u. filter (is_lost u c.args.entity.index) (keys u.facts)) (sym (state_is c.in_ok-find_deletion.ensures.same))

pub overflow_add-self : goal.overflow_add-self
overflow_add-self g c =
    let none = delete_otherwise c.args.self.now.state c.args.entity c.requires.alive c.requires.own ∙ c.in_ok-find_deletion.ensures.judged in
    let seen = state_is c.in_ok-find_deletion.ensures.same in
    let left = state_is c.self.view_is ∙ on_ok c.bury.result c.bury.ensures.buried (sym c.is_err.ensures.value ∙ c.if-is_err.false) ∙ ap (λ u. without_entities u (deleted u c.args.entity.index)) seen ∙ sym (effect-delete c.args.self.now.state c.args.entity) in
    omega (arith, ((counted_world c.self.invariant c.args.self.now.state (Delete c.args.entity) left c.keeps.ensures tt none).sound).counted)

pub invariant_of-self : goal.invariant_of-self
invariant_of-self g c =
    let none = delete_otherwise c.args.self.now.state c.args.entity c.requires.alive c.requires.own ∙ c.in_ok-find_deletion.ensures.judged in
    let seen = state_is c.in_ok-find_deletion.ensures.same in
    let left = state_is c.self.view_is ∙ on_ok c.bury.result c.bury.ensures.buried (sym c.is_err.ensures.value ∙ c.if-is_err.false) ∙ ap (λ u. without_entities u (deleted u c.args.entity.index)) seen ∙ sym (effect-delete c.args.self.now.state c.args.entity) in
    counted_world c.self.invariant c.args.self.now.state (Delete c.args.entity) left c.keeps.ensures tt none

pub returns-clause-answers : goal.returns-clause-answers
returns-clause-answers g c =
    let none = delete_otherwise c.args.self.now.state c.args.entity c.requires.alive c.requires.own ∙ c.in_ok-find_deletion.ensures.judged in
    let seen = state_is c.in_ok-find_deletion.ensures.same in
    let left = state_is c.self.view_is ∙ on_ok c.bury.result c.bury.ensures.buried (sym c.is_err.ensures.value ∙ c.if-is_err.false) ∙ ap (λ u. without_entities u (deleted u c.args.entity.index)) seen ∙ sym (effect-delete c.args.self.now.state c.args.entity) in
    deletion_told c.args.self.now.state _ c.in-Ok.changes c.args.entity c.keeps.ensures c.requires.alive none (counted_state c.self.invariant c.args.self.now.state (Delete c.args.entity) left c.keeps.ensures tt none)
    (c.in-Ok.ensures.told ∙ (λ k. record no_change { died = with_names (seen k) (c.in_ok-find_deletion.ensures.dead k); went = c.in_ok-find_deletion.ensures.went k }))

pub returns-clause-stay : goal.returns-clause-stay
returns-clause-stay g c =
    let none = delete_otherwise c.args.self.now.state c.args.entity c.requires.alive c.requires.own ∙ c.in_ok-find_deletion.ensures.judged in
    let seen = state_is c.in_ok-find_deletion.ensures.same in
    let left = state_is c.self.view_is ∙ on_ok c.bury.result c.bury.ensures.buried (sym c.is_err.ensures.value ∙ c.if-is_err.false) ∙ ap (λ u. without_entities u (deleted u c.args.entity.index)) seen ∙ sym (effect-delete c.args.self.now.state c.args.entity) in
    let buried_stay = on_ok c.bury.result c.bury.ensures.stay (sym c.is_err.ensures.value ∙ c.if-is_err.false) in
    going_to c.in_ok-find_deletion.ensures.same c.bury.new.self (sym (ap (λ s. s.tables) c.self.view_is))
    (deleted_stay c.args.self.now.state _ c.args.entity c.requires.alive (counted_state c.self.invariant c.args.self.now.state (Delete c.args.entity) left c.keeps.ensures tt none)
    _ (ap (λ u. keys (deleted u c.args.entity.index)) seen)
    c.find_deletion.new.self.tables c.bury.new.self.tables buried_stay)

pub returns-then-is_err-clause-stay : goal.returns-then-is_err-clause-stay
returns-then-is_err-clause-stay g c =
    going_to c.in_ok-find_deletion.ensures.same c.bury.new.self refl (stay_all (on_err c.bury.result c.bury.ensures.kept (sym c.is_err.ensures.value ∙ c.if-is_err.true)))

pub find_deletion-requires : goal.find_deletion-requires
find_deletion-requires g c = grind arith

pub returns-in_err-find_deletion-clause-goes_on : goal.returns-in_err-find_deletion-clause-goes_on
returns-in_err-find_deletion-clause-goes_on g c = grind arith

pub returns-in_err-find_deletion-clause-stay : goal.returns-in_err-find_deletion-clause-stay
returns-in_err-find_deletion-clause-stay g c = grind arith

pub returns-in_default-clause-answers : goal.returns-in_default-clause-answers
returns-in_default-clause-answers g c = grind arith

pub returns-in_default-clause-goes_on : goal.returns-in_default-clause-goes_on
returns-in_default-clause-goes_on g c = grind arith

pub returns-in_default-clause-stay : goal.returns-in_default-clause-stay
returns-in_default-clause-stay g c = grind arith

pub returns-then-is_err-clause-answers : goal.returns-then-is_err-clause-answers
returns-then-is_err-clause-answers g c = grind arith

pub returns-then-is_err-clause-goes_on : goal.returns-then-is_err-clause-goes_on
returns-then-is_err-clause-goes_on g c = grind arith

pub returns-clause-goes_on : goal.returns-clause-goes_on
returns-clause-goes_on g c = grind arith
