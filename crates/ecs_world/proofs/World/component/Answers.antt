use Rattle.std.proofs.Common.{[], ◌∷◌, refl, sym, ap, subst, ◌∙◌, arith}
use Rattle.ecs_archetypes.specs.Housing.{holdings_of}
use Rattle.std.proofs.lemmas.Result.{err_from_is_err_and}
use Rattle.ecs_id.specs.Id.{plain}
use Rattle.ecs_model.specs.steps.WellFormed.{IsWellFormed}
use Rattle.ecs_model.specs.World.{component}
use Rattle.ecs_model.proofs.Additions.{not_spent}
use Rattle.ecs_archetypes.specs.Holdings.{HoldAlike, upcoming, with_cells, with_entity}
use Rattle.ecs_archetypes.specs.Staying.{none_goes, stay_same}
use Rattle.table_store.specs.Going.{goes_on_same}
use Rattle.ecs_world.specs.State.{birth}
use Rattle.ecs_world.proofs.AcceptedCommands.{component_agrees, component_fits, component_left, failed, kept, made_is, next_plain, next_some, next_unnamed, on_err, on_ok, unchanged}
use Rattle.ecs_world.proofs.NameReasons.{none_component, unbound_component}
use Rattle.ecs_world.proofs.JudgedCommands.{births, component_refusal}
use Rattle.ecs_world.proofs.NameLists.{freed}
use Rattle.ecs_world.proofs.OrderedMaps.{insert_put, removed_again}
use Rattle.ecs_world.proofs.PinChanges.{further}
use Rattle.ecs_world.proofs.ToldChanges.{told_component}
use Rattle.ecs_world.proofs.Standings.{going_on, state_is, staying_on}
use Rattle.ecs_model.specs.steps.Outcomes.{next_entity}
use Rattle.ecs_model.specs.steps.Step.{Component}
use Rattle.ecs_model.proofs.StepAnswers.{step-refused}
use Rattle.ecs_world.proofs.World.component.Goals as goal

pub returns-in-Err-clause-answers : goal.returns-in-Err-clause-answers
returns-in-Err-clause-answers g c = (step-refused c.args.self.now.state (Component c.args.name.now c.args.schema) c.in-Err.refusal (sym (c.in-Err.ensures.refused ∙ component_refusal c.args.self.now.state c.args.name.now c.args.schema)), refl)

pub returns-in-Err-clause-goes_on : goal.returns-in-Err-clause-goes_on
returns-in-Err-clause-goes_on g c = goes_on_same _

pub returns-in-Err-clause-stay : goal.returns-in-Err-clause-stay
returns-in-Err-clause-stay g c = stay_same none_goes _

pub bind-requires : goal.bind-requires
bind-requires g c = next_unnamed c.self.invariant (state_is c.self.view_is) c.in-Ok.entity c.in-Ok.ensures.next

pub invariant_of-self : goal.invariant_of-self
invariant_of-self g c =
    let roomy = further c.self.invariant (state_is c.self.view_is) c.bind.new.pins c.bind.ensures.entries c.bind.ensures.further in
    (kept roomy.0 roomy.1 (holdings_of c.self.inside.archetypes) c.bind.new.names c.self.inside.schemas.entries (unchanged roomy.0 roomy.1) c.in_err-bind.ensures.err refl).0

pub returns-in_err-bind-clause-answers : goal.returns-in_err-bind-clause-answers
returns-in_err-bind-clause-answers g c =
    let roomy = further c.self.invariant (state_is c.self.view_is) c.bind.new.pins c.bind.ensures.entries c.bind.ensures.further in
    let p = err_from_is_err_and c.from_residual.result c.from_residual.ensures.1 in
    rw (p.1, p.2) (unbound_component roomy.0 roomy.1 c.args.name.now c.args.schema _ c.in_err-bind.ensures.refused _ (kept roomy.0 roomy.1 (holdings_of c.self.inside.archetypes) c.bind.new.names c.self.inside.schemas.entries (unchanged roomy.0 roomy.1) c.in_err-bind.ensures.err refl).1)

pub returns-in_err-bind-clause-goes_on : goal.returns-in_err-bind-clause-goes_on
returns-in_err-bind-clause-goes_on g c = going_on c.self.view_is (goes_on_same _)

pub returns-in_err-bind-clause-stay : goal.returns-in_err-bind-clause-stay
returns-in_err-bind-clause-stay g c = staying_on c.self.view_is (stay_same none_goes _)

pub same-schema : goal.same-schema
same-schema g c = refl

pub invariant_of-self-then-is_err : goal.invariant_of-self-then-is_err
invariant_of-self-then-is_err g c =
    let roomy = further c.self.invariant (state_is c.self.view_is) c.bind.new.pins c.bind.ensures.entries c.bind.ensures.further in
    let w = c.self.inside in
    (kept roomy.0 roomy.1 (holdings_of w.archetypes) c.unbind.new.self c.insert.new.self.entries (unchanged roomy.0 roomy.1)
    (freed w.names c.bind.new.names c.unbind.new.self c.args.name.now c.in-Ok.entity c.in_ok-bind.ensures.free.1 c.in_ok-bind.ensures.bound c.unbind.ensures.named)
    (on_err c.insert.result c.insert.ensures.err (sym c.is_err.ensures.value ∙ c.if-is_err.true))).0

pub returns-then-is_err-clause-answers : goal.returns-then-is_err-clause-answers
returns-then-is_err-clause-answers g c =
    let roomy = further c.self.invariant (state_is c.self.view_is) c.bind.new.pins c.bind.ensures.entries c.bind.ensures.further in
    let w = c.self.inside in
    (kept roomy.0 roomy.1 (holdings_of w.archetypes) c.unbind.new.self c.insert.new.self.entries (unchanged roomy.0 roomy.1)
    (freed w.names c.bind.new.names c.unbind.new.self c.args.name.now c.in-Ok.entity c.in_ok-bind.ensures.free.1 c.in_ok-bind.ensures.bound c.unbind.ensures.named)
    (on_err c.insert.result c.insert.ensures.err (sym c.is_err.ensures.value ∙ c.if-is_err.true))).1

pub returns-then-is_err-clause-goes_on : goal.returns-then-is_err-clause-goes_on
returns-then-is_err-clause-goes_on g c = going_on c.self.view_is (goes_on_same _)

pub returns-then-is_err-clause-stay : goal.returns-then-is_err-clause-stay
returns-then-is_err-clause-stay g c = staying_on c.self.view_is (stay_same none_goes _)

pub plain-component-requires : goal.plain-component-requires
plain-component-requires g c = (omega arith, omega arith)

pub shared_whole_as_slice-create : goal.shared_whole_as_slice-create
shared_whole_as_slice-create g c = omega arith

pub create-requires-clause-left : goal.create-requires-clause-left
create-requires-clause-left g c =
    let roomy = further c.self.invariant (state_is c.self.view_is) c.bind.new.pins c.bind.ensures.entries c.bind.ensures.further in
    next_some roomy.0 roomy.1 (births c.args.self.now.state c.in-Ok.ensures.room)

pub create-requires-clause-ascend : goal.create-requires-clause-ascend
create-requires-clause-ascend g c = refl

pub create-requires-clause-small : goal.create-requires-clause-small
create-requires-clause-small g c = rw (c.tag.ensures) refl

pub create-requires-clause-agree : goal.create-requires-clause-agree
create-requires-clause-agree g c =
    let roomy = further c.self.invariant (state_is c.self.view_is) c.bind.new.pins c.bind.ensures.entries c.bind.ensures.further in
    rw (c.tag.ensures, c.plain-component.ensures) (component_agrees roomy.0 roomy.1)

pub invariant_of-self-then-is_err-2 : goal.invariant_of-self-then-is_err-2
invariant_of-self-then-is_err-2 g c =
    let roomy = further c.self.invariant (state_is c.self.view_is) c.bind.new.pins c.bind.ensures.entries c.bind.ensures.further in
    let w = c.self.inside in
    let inserted = on_ok c.insert.result c.insert.ensures.entries (sym c.is_err.ensures.value ∙ c.if-is_err.false) in
    (kept roomy.0 roomy.1 (holdings_of c.create.new.self) c.unbind-then-is_err-2.new.self c.remove.new.self.entries
    (failed roomy.0 roomy.1 ((plain component, 0) ∷ []) (component_fits roomy.0 roomy.1) (holdings_of c.create.new.self) c.create.ensures.kept.holdings (on_err c.create.result c.create.ensures.refused (sym c.is_err-2.ensures.value ∙ c.if-is_err-2.true)) (rw (c.tag.ensures, c.plain-component.ensures) at c.create.ensures.kept.sizes))
    (freed w.names c.bind.new.names c.unbind-then-is_err-2.new.self c.args.name.now c.in-Ok.entity c.in_ok-bind.ensures.free.1 c.in_ok-bind.ensures.bound c.unbind-then-is_err-2.ensures.named)
    (rw (c.remove.ensures.entries, inserted) (removed_again w.schemas.entries c.in-Ok.entity.index c.args.schema (next_plain roomy.0 roomy.1 c.in-Ok.entity c.in-Ok.ensures.next)))).0

pub returns-then-is_err-2-clause-answers : goal.returns-then-is_err-2-clause-answers
returns-then-is_err-2-clause-answers g c =
    let roomy = further c.self.invariant (state_is c.self.view_is) c.bind.new.pins c.bind.ensures.entries c.bind.ensures.further in
    let w = c.self.inside in
    let inserted = on_ok c.insert.result c.insert.ensures.entries (sym c.is_err.ensures.value ∙ c.if-is_err.false) in
    (kept roomy.0 roomy.1 (holdings_of c.create.new.self) c.unbind-then-is_err-2.new.self c.remove.new.self.entries
    (failed roomy.0 roomy.1 ((plain component, 0) ∷ []) (component_fits roomy.0 roomy.1) (holdings_of c.create.new.self) c.create.ensures.kept.holdings (on_err c.create.result c.create.ensures.refused (sym c.is_err-2.ensures.value ∙ c.if-is_err-2.true)) (rw (c.tag.ensures, c.plain-component.ensures) at c.create.ensures.kept.sizes))
    (freed w.names c.bind.new.names c.unbind-then-is_err-2.new.self c.args.name.now c.in-Ok.entity c.in_ok-bind.ensures.free.1 c.in_ok-bind.ensures.bound c.unbind-then-is_err-2.ensures.named)
    (rw (c.remove.ensures.entries, inserted) (removed_again w.schemas.entries c.in-Ok.entity.index c.args.schema (next_plain roomy.0 roomy.1 c.in-Ok.entity c.in-Ok.ensures.next)))).1

pub returns-then-is_err-2-clause-goes_on : goal.returns-then-is_err-2-clause-goes_on
returns-then-is_err-2-clause-goes_on g c = going_on c.self.view_is c.create.ensures.kept.goes_on

pub returns-then-is_err-2-clause-stay : goal.returns-then-is_err-2-clause-stay
returns-then-is_err-2-clause-stay g c = staying_on c.self.view_is c.create.ensures.kept.stay

pub overflow_add-self : goal.overflow_add-self
overflow_add-self g c =
    let spent = rw (← state_is c.self.view_is) at ((births c.args.self.now.state c.in-Ok.ensures.room).room) in
    omega (arith, not_spent c.self.inside.accepted spent)

pub invariant_of-self-2 : goal.invariant_of-self-2
invariant_of-self-2 g c =
    let roomy = further c.self.invariant (state_is c.self.view_is) c.bind.new.pins c.bind.ensures.entries c.bind.ensures.further in
    let w = c.self.inside in
    let inserted = on_ok c.insert.result c.insert.ensures.entries (sym c.is_err.ensures.value ∙ c.if-is_err.false) in
    let born = made_is (upcoming (holdings_of w.archetypes)) (λ f. HoldAlike (holdings_of c.create.new.self) (with_cells (with_entity (holdings_of w.archetypes) f) f.index ((plain component, []) ∷ []))) c.create.result c.in-Ok.entity c.create.ensures.next (rw (c.tag.ensures, c.plain-component.ensures) at c.create.ensures.born) (sym c.is_err-2.ensures.value ∙ c.if-is_err-2.false) (ap next_entity (state_is c.self.view_is) ∙ c.in-Ok.ensures.next) in
    (component_left roomy.0 roomy.1 c.in-Ok.entity c.in-Ok.ensures.next c.in_ok-bind.ensures.covers c.args.name.now c.args.schema c.fields.ensures.sound (none_component roomy.0 roomy.1 c.args.name.now c.args.schema c.in_ok-bind.ensures.free c.in-Ok.ensures.room) c.in_ok-bind.ensures.free.1 c.bind.new.names c.in_ok-bind.ensures.bound c.insert.new.self.entries (inserted ∙ insert_put w.schemas.entries c.in-Ok.entity.index c.args.schema)
    (holdings_of c.create.new.self) c.create.ensures.kept.holdings born (rw (c.tag.ensures, c.plain-component.ensures) at c.create.ensures.kept.sizes)).0

pub returns-clause-answers : goal.returns-clause-answers
returns-clause-answers g c =
    let roomy = further c.self.invariant (state_is c.self.view_is) c.bind.new.pins c.bind.ensures.entries c.bind.ensures.further in
    let w = c.self.inside in
    let inserted = on_ok c.insert.result c.insert.ensures.entries (sym c.is_err.ensures.value ∙ c.if-is_err.false) in
    let born = made_is (upcoming (holdings_of w.archetypes)) (λ f. HoldAlike (holdings_of c.create.new.self) (with_cells (with_entity (holdings_of w.archetypes) f) f.index ((plain component, []) ∷ []))) c.create.result c.in-Ok.entity c.create.ensures.next (rw (c.tag.ensures, c.plain-component.ensures) at c.create.ensures.born) (sym c.is_err-2.ensures.value ∙ c.if-is_err-2.false) (ap next_entity (state_is c.self.view_is) ∙ c.in-Ok.ensures.next) in
    let sound : IsWellFormed c.args.self.now.state = subst IsWellFormed (state_is c.self.view_is) c.self.invariant.sound in
    told_component c.args.self.now.state _ c.of.result c.args.name.now c.args.schema c.in-Ok.entity sound c.in-Ok.ensures.next (none_component roomy.0 roomy.1 c.args.name.now c.args.schema c.in_ok-bind.ensures.free c.in-Ok.ensures.room)
    (component_left roomy.0 roomy.1 c.in-Ok.entity c.in-Ok.ensures.next c.in_ok-bind.ensures.covers c.args.name.now c.args.schema c.fields.ensures.sound (none_component roomy.0 roomy.1 c.args.name.now c.args.schema c.in_ok-bind.ensures.free c.in-Ok.ensures.room) c.in_ok-bind.ensures.free.1 c.bind.new.names c.in_ok-bind.ensures.bound c.insert.new.self.entries (inserted ∙ insert_put w.schemas.entries c.in-Ok.entity.index c.args.schema)
    (holdings_of c.create.new.self) c.create.ensures.kept.holdings born (rw (c.tag.ensures, c.plain-component.ensures) at c.create.ensures.kept.sizes)).1
    (c.of.ensures
    ∙ (λ k. record (birth (record { index = (c.new-fact.ensures k).0; generation = c.in-Ok.entity.generation })) { came = c.new-fact.ensures k ∷ [] })
    ∙ (λ k. record (birth c.in-Ok.entity) { came = (c.in-Ok.entity.index, c.plain-component.ensures k) ∷ [] }))

pub returns-clause-goes_on : goal.returns-clause-goes_on
returns-clause-goes_on g c = going_on c.self.view_is c.create.ensures.kept.goes_on

pub returns-clause-stay : goal.returns-clause-stay
returns-clause-stay g c = staying_on c.self.view_is c.create.ensures.kept.stay
