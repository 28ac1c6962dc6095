use Rattle.std.proofs.Common.{IsSome, ap, option_map, rules}
use Rattle.table_store.specs.Store.{shape_of, table_at, without_id}
use Rattle.table_store.proofs.Changes.{there}
use Rattle.test_store.proofs.SizeLemmas.{sized_after, sized_without}
use Rattle.test_store.proofs.sized.Sized.without.Goals as goal

pub invariant_of-self : goal.invariant_of-self
invariant_of-self g c =
    let stands : IsSome (table_at c.args.self.now.store c.args.key) = search rules in
    let t = there (table_at c.args.self.now.store c.args.key) stands in let f = shape_of t.0 in let at = ap (option_map shape_of) t.1 in
    record { sized = sized_after c.args.self.now.store c.without.new.self c.without.result (without_id f c.args.id) (sized_without f c.args.id (c.args.self.now.sized c.args.key f at)) (c.without.ensures f at) c.args.self.now.sized }
