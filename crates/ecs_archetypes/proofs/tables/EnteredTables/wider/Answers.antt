-- The table with one more id is entered, and all tables keep their sizes.
use Rattle.std.proofs.Common.{◌∙◌, ◌∷◌, [], ap, subst, sym}
use Rattle.std.specs.Option.{IsSome}
use Rattle.table_store.specs.Store.{shape_at, table_at, with_id}
use Rattle.ecs_archetypes.specs.Housing.{AreEntered}
use Rattle.ecs_archetypes.proofs.KnownIds.{has_size, wider_kept, shape_stands, shape_there, shaped_self}
use Rattle.ecs_archetypes.proofs.EnteredTables.{kept_same, made_empty, made_fresh}
use Rattle.ecs_archetypes.proofs.tables.EnteredTables.wider.Goals as goal

pub with-requires-clause-sizes : goal.with-requires-clause-sizes
with-requires-clause-sizes g c = rw c.self.view_is (has_size c.args.self.now c.args.id c.args.size c.requires.agree)

pub returns-in_err-to-clause-kept : goal.returns-in_err-to-clause-kept
returns-in_err-to-clause-kept g c =
    let stands : IsSome (table_at c.self.inside.store c.args.key) = rw c.self.view_is c.requires.stands in
    let f = shape_there c.self.inside.store c.args.key stands in
    rw (← c.self.view_is) (kept_same ((c.args.id, c.args.size) ∷ []) c.self.inside.store c.with.new.self (c.in_err-to.ensures f.0 f.1).err (c.with.ensures f.0 f.1).whole)

pub enter_made-requires-clause-stands : goal.enter_made-requires-clause-stands
enter_made-requires-clause-stands g c =
    let stands : IsSome (table_at c.self.inside.store c.args.key) = rw c.self.view_is c.requires.stands in
    let f = shape_there c.self.inside.store c.args.key stands in
    shape_stands c.with.new.self c.in_ok-to.to (with_id f.0 c.args.id c.args.size) (shaped_self c.self.inside.store c.with.new.self c.in_ok-to.to (with_id f.0 c.args.id c.args.size) (c.in_ok-to.ensures f.0 f.1).ok.shapes)

pub enter_made-requires-clause-fresh : goal.enter_made-requires-clause-fresh
enter_made-requires-clause-fresh g c =
    let stands : IsSome (table_at c.self.inside.store c.args.key) = rw c.self.view_is c.requires.stands in
    let f = shape_there c.self.inside.store c.args.key stands in
    made_fresh c.self.inside.store c.with.new.self c.in_ok-to.to (with_id f.0 c.args.id c.args.size) (sym c.last-last.ensures) (c.in_ok-to.ensures f.0 f.1).ok c.self.inside.index c.self.invariant

pub enter_made-requires-clause-empty : goal.enter_made-requires-clause-empty
enter_made-requires-clause-empty g c =
    let stands : IsSome (table_at c.self.inside.store c.args.key) = rw c.self.view_is c.requires.stands in
    let f = shape_there c.self.inside.store c.args.key stands in
    made_empty c.self.inside.store c.with.new.self c.in_ok-to.to (with_id f.0 c.args.id c.args.size) (sym c.last-last.ensures) (c.in_ok-to.ensures f.0 f.1).ok

pub returns-in_err-enter_made-clause-kept : goal.returns-in_err-enter_made-clause-kept
returns-in_err-enter_made-clause-kept g c =
    let stands : IsSome (table_at c.self.inside.store c.args.key) = rw c.self.view_is c.requires.stands in
    let f = shape_there c.self.inside.store c.args.key stands in
    let put = c.in_ok-to.ensures f.0 f.1 in
    rw (← c.self.view_is) (c.enter_made.ensures.kept c.self.inside.store (with_id f.0 c.args.id c.args.size) ((c.args.id, c.args.size) ∷ []) (sym c.last-last.ensures) put.ok c.self.invariant (wider_kept c.self.inside.store c.with.new.self c.args.key c.in_ok-to.to f.0 c.args.id c.args.size put.whole.0 f.1 put.ok.shapes)).0

pub returns-clause-kept : goal.returns-clause-kept
returns-clause-kept g c =
    let stands : IsSome (table_at c.self.inside.store c.args.key) = rw c.self.view_is c.requires.stands in
    let f = shape_there c.self.inside.store c.args.key stands in
    let put = c.in_ok-to.ensures f.0 f.1 in
    rw (← c.self.view_is) (c.enter_made.ensures.kept c.self.inside.store (with_id f.0 c.args.id c.args.size) ((c.args.id, c.args.size) ∷ []) (sym c.last-last.ensures) put.ok c.self.invariant (wider_kept c.self.inside.store c.with.new.self c.args.key c.in_ok-to.to f.0 c.args.id c.args.size put.whole.0 f.1 put.ok.shapes)).0

pub returns-clause-shape : goal.returns-clause-shape
returns-clause-shape g c = λ f at.
    let there = ap (λ s. shape_at s c.args.key) c.self.view_is ∙ at in
    c.in_ok-enter_made.ensures.shapes c.in_ok-to.to ∙ shaped_self c.self.inside.store c.with.new.self c.in_ok-to.to (with_id f c.args.id c.args.size) (c.in_ok-to.ensures f there).ok.shapes

pub invariant_of-self : goal.invariant_of-self
invariant_of-self g c =
    let stands : IsSome (table_at c.self.inside.store c.args.key) = rw c.self.view_is c.requires.stands in
    let f = shape_there c.self.inside.store c.args.key stands in
    subst (λ s. AreEntered s c.self.inside.index) (sym (c.in_err-to.ensures f.0 f.1).err) c.self.invariant

pub invariant_of-self-2 : goal.invariant_of-self-2
invariant_of-self-2 g c =
    let stands : IsSome (table_at c.self.inside.store c.args.key) = rw c.self.view_is c.requires.stands in
    let f = shape_there c.self.inside.store c.args.key stands in
    let put = c.in_ok-to.ensures f.0 f.1 in
    (c.enter_made.ensures.kept c.self.inside.store (with_id f.0 c.args.id c.args.size) ((c.args.id, c.args.size) ∷ []) (sym c.last-last.ensures) put.ok c.self.invariant (wider_kept c.self.inside.store c.with.new.self c.args.key c.in_ok-to.to f.0 c.args.id c.args.size put.whole.0 f.1 put.ok.shapes)).1

pub invariant_of-self-in_err-enter_made : goal.invariant_of-self-in_err-enter_made
invariant_of-self-in_err-enter_made g c =
    let stands : IsSome (table_at c.self.inside.store c.args.key) = rw c.self.view_is c.requires.stands in
    let f = shape_there c.self.inside.store c.args.key stands in
    let put = c.in_ok-to.ensures f.0 f.1 in
    (c.enter_made.ensures.kept c.self.inside.store (with_id f.0 c.args.id c.args.size) ((c.args.id, c.args.size) ∷ []) (sym c.last-last.ensures) put.ok c.self.invariant (wider_kept c.self.inside.store c.with.new.self c.args.key c.in_ok-to.to f.0 c.args.id c.args.size put.whole.0 f.1 put.ok.shapes)).1
