-- One error is judged after another, and the world sets the values.
use Rattle.std.proofs.Common.{arith}
use Rattle.std.specs.List.{list_any}
use Rattle.std.specs.Prelude.{option_map}
use Rattle.std.proofs.Common.{◌≡◌, true, false, is_some, length, sym, ap, ◌∙◌}
use Rattle.std.proofs.lemmas.Result.{err_from_is_err_and}
use Rattle.ecs_world.specs.Columns.{column_fault}
use Rattle.ecs_observe.specs.Standing.{Standing}
use Rattle.ecs_observe.specs.Stored.{entries_of, made_of}
use Rattle.ecs_observe.specs.declared.errors.SetColumnError.TheVariants.{OfWorld}
use Rattle.ecs_observe.proofs.KeptLists.{lists_later}
use Rattle.ecs_observe.proofs.WholeColumns.{any_held, column_left, hears, tells_of_world, tells_watched}
use Rattle.ecs_observe.proofs.session.Session.set_column.Goals as goal

pub returns-then-may_tell_set-clause-judged : goal.returns-then-may_tell_set-clause-judged
returns-then-may_tell_set-clause-judged g c =
    let now = c.args.self.now in
    let free : is_some now.waiting ≡ false = sym c.has_events.ensures ∙ c.if-has_events.false in
    let told : list_any (hears c.args.id) now.stored ≡ true
    = ap (λ (x : Standing). list_any (hears c.args.id) x.stored) (sym c.self.view_is) ∙ any_held c.args.id (made_of c.self.inside.stored) ∙ sym c.may_tell_set.ensures ∙ c.if-may_tell_set.true in
    tells_watched now c.args.key c.args.id (length c.args.bytes.now) free told

pub returns-in_err-set_column-clause-judged : goal.returns-in_err-set_column-clause-judged
returns-in_err-set_column-clause-judged g c =
    let now = c.args.self.now in let k = c.args.key in let i = c.args.id in let n = length c.args.bytes.now in
    let free : is_some now.waiting ≡ false = sym c.has_events.ensures ∙ c.if-has_events.false in
    let quiet : list_any (hears c.args.id) now.stored ≡ false
    = ap (λ (x : Standing). list_any (hears c.args.id) x.stored) (sym c.self.view_is) ∙ any_held c.args.id (made_of c.self.inside.stored) ∙ sym c.may_tell_set.ensures ∙ c.if-may_tell_set.false in
    let p = err_from_is_err_and c.from_residual.result c.from_residual.ensures.1 in
    rw (p.1, p.2)
    (tells_of_world now k i n free quiet
    ∙ ap (option_map OfWorld) (ap (λ (x : Standing). column_fault x.world k i n) (sym c.self.view_is) ∙ c.in_err-set_column.ensures.judged))

pub invariant_of-self-2 : goal.invariant_of-self-2
invariant_of-self-2 g c =
    let free : is_some (c.args.self.now).waiting ≡ false = sym c.has_events.ensures ∙ c.if-has_events.false in
    let quiet = any_held c.args.id (made_of c.self.inside.stored) ∙ sym c.may_tell_set.ensures ∙ c.if-may_tell_set.false in (
      (column_left _ c.args.self.now c.self.view_is free c.self.invariant.0 c.keeps.ensures c.set_column.new.self c.args.key c.args.id c.args.bytes.now quiet c.in_ok-set_column.ensures.set).0,
      lists_later c.self.inside.world.tables c.set_column.new.self.tables c.set_column.ensures.goes_on (entries_of c.self.inside.stored) c.self.invariant.1,
      c.self.invariant.2,
    )

pub returns-clause-set : goal.returns-clause-set
returns-clause-set g c =
    let free : is_some (c.args.self.now).waiting ≡ false = sym c.has_events.ensures ∙ c.if-has_events.false in
    let quiet = any_held c.args.id (made_of c.self.inside.stored) ∙ sym c.may_tell_set.ensures ∙ c.if-may_tell_set.false in
    (column_left _ c.args.self.now c.self.view_is free c.self.invariant.0 c.keeps.ensures c.set_column.new.self c.args.key c.args.id c.args.bytes.now quiet c.in_ok-set_column.ensures.set).1

pub returns-clause-judged : goal.returns-clause-judged
returns-clause-judged g c =
    let now = c.args.self.now in let k = c.args.key in let i = c.args.id in let n = length c.args.bytes.now in
    let free : is_some now.waiting ≡ false = sym c.has_events.ensures ∙ c.if-has_events.false in
    let quiet : list_any (hears c.args.id) now.stored ≡ false
    = ap (λ (x : Standing). list_any (hears c.args.id) x.stored) (sym c.self.view_is) ∙ any_held c.args.id (made_of c.self.inside.stored) ∙ sym c.may_tell_set.ensures ∙ c.if-may_tell_set.false in
    tells_of_world now k i n free quiet
    ∙ ap (option_map OfWorld) (ap (λ (x : Standing). column_fault x.world k i n) (sym c.self.view_is) ∙ c.in_ok-set_column.ensures.judged)

pub returns-then-has_events-clause-judged : goal.returns-then-has_events-clause-judged
returns-then-has_events-clause-judged g c = grind arith

pub returns-then-has_events-clause-unchanged : goal.returns-then-has_events-clause-unchanged
returns-then-has_events-clause-unchanged g c = grind arith

pub returns-then-has_events-clause-rest : goal.returns-then-has_events-clause-rest
returns-then-has_events-clause-rest g c = grind arith

pub returns-then-has_events-clause-goes_on : goal.returns-then-has_events-clause-goes_on
returns-then-has_events-clause-goes_on g c = grind arith

pub returns-then-has_events-clause-stay : goal.returns-then-has_events-clause-stay
returns-then-has_events-clause-stay g c = grind arith

pub may_tell_set-requires : goal.may_tell_set-requires
may_tell_set-requires g c = grind arith

pub returns-then-may_tell_set-clause-unchanged : goal.returns-then-may_tell_set-clause-unchanged
returns-then-may_tell_set-clause-unchanged g c = grind arith

pub returns-then-may_tell_set-clause-rest : goal.returns-then-may_tell_set-clause-rest
returns-then-may_tell_set-clause-rest g c = grind arith

pub returns-then-may_tell_set-clause-goes_on : goal.returns-then-may_tell_set-clause-goes_on
returns-then-may_tell_set-clause-goes_on g c = grind arith

pub returns-then-may_tell_set-clause-stay : goal.returns-then-may_tell_set-clause-stay
returns-then-may_tell_set-clause-stay g c = grind arith

pub invariant_of-self : goal.invariant_of-self
invariant_of-self g c = grind arith

pub returns-in_err-set_column-clause-set : goal.returns-in_err-set_column-clause-set
returns-in_err-set_column-clause-set g c = grind arith

pub returns-in_err-set_column-clause-unchanged : goal.returns-in_err-set_column-clause-unchanged
returns-in_err-set_column-clause-unchanged g c = grind arith

pub returns-in_err-set_column-clause-rest : goal.returns-in_err-set_column-clause-rest
returns-in_err-set_column-clause-rest g c = grind arith

pub returns-in_err-set_column-clause-goes_on : goal.returns-in_err-set_column-clause-goes_on
returns-in_err-set_column-clause-goes_on g c = grind arith

pub returns-in_err-set_column-clause-stay : goal.returns-in_err-set_column-clause-stay
returns-in_err-set_column-clause-stay g c = grind arith

pub returns-clause-rest : goal.returns-clause-rest
returns-clause-rest g c = grind arith

pub returns-clause-goes_on : goal.returns-clause-goes_on
returns-clause-goes_on g c = grind arith

pub returns-clause-stay : goal.returns-clause-stay
returns-clause-stay g c = grind arith
