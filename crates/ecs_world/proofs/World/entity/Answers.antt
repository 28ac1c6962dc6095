use Rattle.std.proofs.Common.{[], refl, sym, ap, ◌∙◌, arith}
use Rattle.ecs_archetypes.specs.Housing.{holdings_of}
use Rattle.std.proofs.lemmas.Result.{err_from_is_err_and}
use Rattle.ecs_model.proofs.Additions.{not_spent}
use Rattle.ecs_archetypes.specs.Holdings.{HoldAlike, upcoming, with_cells, with_entity}
use Rattle.ecs_archetypes.specs.Staying.{none_goes, stay_same}
use Rattle.table_store.specs.Going.{goes_on_same}
use Rattle.ecs_world.proofs.AcceptedCommands.{failed, kept, made_is, named_left, next_some, next_unnamed, on_err, unchanged}
use Rattle.ecs_world.proofs.NameReasons.{none_entity, unbound_entity}
use Rattle.ecs_world.proofs.JudgedCommands.{births, entity_refusal}
use Rattle.ecs_world.proofs.NameLists.{freed}
use Rattle.ecs_world.proofs.PinChanges.{further}
use Rattle.ecs_world.proofs.ToldChanges.{told_entity}
use Rattle.ecs_world.proofs.Standings.{going_on, state_is, staying_on}
use Rattle.ecs_model.specs.steps.Outcomes.{next_entity}
use Rattle.ecs_model.specs.steps.Step.{Entity}
use Rattle.ecs_model.proofs.StepAnswers.{step-refused}
use Rattle.ecs_world.proofs.World.entity.Goals as goal

pub returns-in-Err-clause-answers : goal.returns-in-Err-clause-answers
returns-in-Err-clause-answers g c = (step-refused c.args.self.now.state (Entity c.args.name.now) c.in-Err.refusal (sym (c.in-Err.ensures.refused ∙ entity_refusal c.args.self.now.state c.args.name.now)), refl)

pub returns-in-Err-clause-goes_on : goal.returns-in-Err-clause-goes_on
returns-in-Err-clause-goes_on g c = goes_on_same _

pub returns-in-Err-clause-stay : goal.returns-in-Err-clause-stay
returns-in-Err-clause-stay g c = stay_same none_goes _

pub bind-requires : goal.bind-requires
bind-requires g c = next_unnamed c.self.invariant (state_is c.self.view_is) c.in-Ok.entity c.in-Ok.ensures.next

pub invariant_of-self : goal.invariant_of-self
invariant_of-self g c =
    let roomy = further c.self.invariant (state_is c.self.view_is) c.bind.new.pins c.bind.ensures.entries c.bind.ensures.further in
    (kept roomy.0 roomy.1 (holdings_of c.self.inside.archetypes) c.bind.new.names c.self.inside.schemas.entries (unchanged roomy.0 roomy.1) c.in_err-bind.ensures.err refl).0

pub returns-in_err-bind-clause-answers : goal.returns-in_err-bind-clause-answers
returns-in_err-bind-clause-answers g c =
    let roomy = further c.self.invariant (state_is c.self.view_is) c.bind.new.pins c.bind.ensures.entries c.bind.ensures.further in
    let p = err_from_is_err_and c.from_residual.result c.from_residual.ensures.1 in
    rw (p.1, p.2) (unbound_entity roomy.0 roomy.1 c.args.name.now _ c.in_err-bind.ensures.refused _ (kept roomy.0 roomy.1 (holdings_of c.self.inside.archetypes) c.bind.new.names c.self.inside.schemas.entries (unchanged roomy.0 roomy.1) c.in_err-bind.ensures.err refl).1)

pub returns-in_err-bind-clause-goes_on : goal.returns-in_err-bind-clause-goes_on
returns-in_err-bind-clause-goes_on g c = going_on c.self.view_is (goes_on_same _)

pub returns-in_err-bind-clause-stay : goal.returns-in_err-bind-clause-stay
returns-in_err-bind-clause-stay g c = staying_on c.self.view_is (stay_same none_goes _)

pub slice_bounds-create-end : goal.slice_bounds-create-end
slice_bounds-create-end g c = refl

pub create-requires-clause-left : goal.create-requires-clause-left
create-requires-clause-left g c =
    let roomy = further c.self.invariant (state_is c.self.view_is) c.bind.new.pins c.bind.ensures.entries c.bind.ensures.further in
    next_some roomy.0 roomy.1 (births c.args.self.now.state c.in-Ok.ensures.room)

pub create-requires-clause-ascend : goal.create-requires-clause-ascend
create-requires-clause-ascend g c = refl

pub create-requires-clause-small : goal.create-requires-clause-small
create-requires-clause-small g c = refl

pub create-requires-clause-agree : goal.create-requires-clause-agree
create-requires-clause-agree g c = refl

pub invariant_of-self-then-is_err : goal.invariant_of-self-then-is_err
invariant_of-self-then-is_err g c =
    let roomy = further c.self.invariant (state_is c.self.view_is) c.bind.new.pins c.bind.ensures.entries c.bind.ensures.further in
    let w = c.self.inside in
    (kept roomy.0 roomy.1 (holdings_of c.create.new.self) c.unbind.new.self w.schemas.entries
    (failed roomy.0 roomy.1 [] refl (holdings_of c.create.new.self) c.create.ensures.kept.holdings (on_err c.create.result c.create.ensures.refused (sym c.is_err.ensures.value ∙ c.if-is_err.true)) c.create.ensures.kept.sizes)
    (freed w.names c.bind.new.names c.unbind.new.self c.args.name.now c.in-Ok.entity c.in_ok-bind.ensures.free.1 c.in_ok-bind.ensures.bound c.unbind.ensures.named) refl).0

pub returns-then-is_err-clause-answers : goal.returns-then-is_err-clause-answers
returns-then-is_err-clause-answers g c =
    let roomy = further c.self.invariant (state_is c.self.view_is) c.bind.new.pins c.bind.ensures.entries c.bind.ensures.further in
    let w = c.self.inside in
    (kept roomy.0 roomy.1 (holdings_of c.create.new.self) c.unbind.new.self w.schemas.entries
    (failed roomy.0 roomy.1 [] refl (holdings_of c.create.new.self) c.create.ensures.kept.holdings (on_err c.create.result c.create.ensures.refused (sym c.is_err.ensures.value ∙ c.if-is_err.true)) c.create.ensures.kept.sizes)
    (freed w.names c.bind.new.names c.unbind.new.self c.args.name.now c.in-Ok.entity c.in_ok-bind.ensures.free.1 c.in_ok-bind.ensures.bound c.unbind.ensures.named) refl).1

pub returns-then-is_err-clause-goes_on : goal.returns-then-is_err-clause-goes_on
returns-then-is_err-clause-goes_on g c = going_on c.self.view_is c.create.ensures.kept.goes_on

pub returns-then-is_err-clause-stay : goal.returns-then-is_err-clause-stay
returns-then-is_err-clause-stay g c = staying_on c.self.view_is c.create.ensures.kept.stay

pub overflow_add-self : goal.overflow_add-self
overflow_add-self g c =
    let spent = rw (← state_is c.self.view_is) at ((births c.args.self.now.state c.in-Ok.ensures.room).room) in
    omega (arith, not_spent c.self.inside.accepted spent)

pub invariant_of-self-2 : goal.invariant_of-self-2
invariant_of-self-2 g c =
    let roomy = further c.self.invariant (state_is c.self.view_is) c.bind.new.pins c.bind.ensures.entries c.bind.ensures.further in
    let w = c.self.inside in
    let born = made_is (upcoming (holdings_of w.archetypes)) (λ f. HoldAlike (holdings_of c.create.new.self) (with_cells (with_entity (holdings_of w.archetypes) f) f.index [])) c.create.result c.in-Ok.entity c.create.ensures.next c.create.ensures.born (sym c.is_err.ensures.value ∙ c.if-is_err.false) (ap next_entity (state_is c.self.view_is) ∙ c.in-Ok.ensures.next) in
    (named_left roomy.0 roomy.1 c.in-Ok.entity c.in-Ok.ensures.next c.in_ok-bind.ensures.covers c.args.name.now (none_entity roomy.0 roomy.1 c.args.name.now c.in_ok-bind.ensures.free c.in-Ok.ensures.room) c.in_ok-bind.ensures.free.1 c.bind.new.names c.in_ok-bind.ensures.bound (holdings_of c.create.new.self) c.create.ensures.kept.holdings born c.create.ensures.kept.sizes).0

pub returns-clause-answers : goal.returns-clause-answers
returns-clause-answers g c =
    let roomy = further c.self.invariant (state_is c.self.view_is) c.bind.new.pins c.bind.ensures.entries c.bind.ensures.further in
    let w = c.self.inside in
    let born = made_is (upcoming (holdings_of w.archetypes)) (λ f. HoldAlike (holdings_of c.create.new.self) (with_cells (with_entity (holdings_of w.archetypes) f) f.index [])) c.create.result c.in-Ok.entity c.create.ensures.next c.create.ensures.born (sym c.is_err.ensures.value ∙ c.if-is_err.false) (ap next_entity (state_is c.self.view_is) ∙ c.in-Ok.ensures.next) in
    told_entity c.args.self.now.state _ c.of.result c.args.name.now c.in-Ok.entity c.in-Ok.ensures.next (none_entity roomy.0 roomy.1 c.args.name.now c.in_ok-bind.ensures.free c.in-Ok.ensures.room)
    (named_left roomy.0 roomy.1 c.in-Ok.entity c.in-Ok.ensures.next c.in_ok-bind.ensures.covers c.args.name.now (none_entity roomy.0 roomy.1 c.args.name.now c.in_ok-bind.ensures.free c.in-Ok.ensures.room) c.in_ok-bind.ensures.free.1 c.bind.new.names c.in_ok-bind.ensures.bound (holdings_of c.create.new.self) c.create.ensures.kept.holdings born c.create.ensures.kept.sizes).1
    c.of.ensures

pub returns-clause-goes_on : goal.returns-clause-goes_on
returns-clause-goes_on g c = going_on c.self.view_is c.create.ensures.kept.goes_on

pub returns-clause-stay : goal.returns-clause-stay
returns-clause-stay g c = staying_on c.self.view_is c.create.ensures.kept.stay
