use Rattle.std.proofs.Common.{IsSome, sym, ap, subst, option_map, rules}
use Rattle.table_store.specs.Store.{HasSize, shape_of, table_at, with_id}
use Rattle.table_store.proofs.Changes.{there}
use Rattle.test_store.specs.Sizes.{IsOfSizes}
use Rattle.test_store.proofs.SizeLemmas.{has_size, sized_after, sized_with}
use Rattle.test_store.proofs.sized.Sized.with.Goals as goal

pub with-requires-clause-sizes : goal.with-requires-clause-sizes
with-requires-clause-sizes g c = subst (HasSize c.args.self.now.store c.args.id) (sym c.bytes.ensures.value) (has_size c.args.self.now.store c.args.self.now.sized c.args.id)

pub invariant_of-self : goal.invariant_of-self
invariant_of-self g c =
    let stands : IsSome (table_at c.args.self.now.store c.args.key) = search rules in
    let t = there (table_at c.args.self.now.store c.args.key) stands in let f = shape_of t.0 in let at = ap (option_map shape_of) t.1 in
    record { sized = sized_after c.args.self.now.store c.with.new.self c.with.result (with_id f c.args.id c.bytes.result) (subst (λ n. IsOfSizes (with_id f c.args.id n)) (sym c.bytes.ensures.value) (sized_with f c.args.id (c.args.self.now.sized c.args.key f at))) (c.with.ensures f at) c.args.self.now.sized }
