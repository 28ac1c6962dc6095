use Rattle.std.proofs.Common.{◌≡◌, ◌&&◌, drop}
use Rattle.std.specs.List.{list_any}
use Rattle.id_pattern.specs.Patterns.{matches}
use Rattle.watch_touched.specs.Leaning.{is_sought, pairs_to}
use Rattle.watch_touched.proofs.leaning.lean.Given as goal

abbrev pub invariant-loop-id : goal.invariant-loop-id
invariant-loop-id g l =
    list_any (λ i. matches (pairs_to l.target) i && is_sought l.sought l.query l.ids i) l.ids ≡ list_any (λ i. matches (pairs_to l.target) i && is_sought l.sought l.query l.ids i) (drop l.id-index l.ids)
