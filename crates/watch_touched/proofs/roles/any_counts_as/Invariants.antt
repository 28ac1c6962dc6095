use Rattle.std.proofs.Common.{◌≡◌, ◌++◌, ◌==◌, drop}
use Rattle.std.specs.Prelude.{map}
use Rattle.watch_asked.specs.Asked.{any_counts_as}
use Rattle.watch_touched.proofs.roles.any_counts_as.Given as goal

abbrev pub invariant-loop-one : goal.invariant-loop-one
invariant-loop-one g l =
    any_counts_as (λ v. v == l.variable) l.others (l.ids ++ map (λ k. k.1) l.facts) l.id ≡ any_counts_as (λ v. v == l.variable) (drop l.one-index l.others) (l.ids ++ map (λ k. k.1) l.facts) l.id
