use Rattle.std.proofs.Common.{◌≡◌, ◌&&◌, ◌++◌, ◌==◌, drop}
use Rattle.std.specs.Prelude.{map}
use Rattle.std.specs.List.{list_any}
use Rattle.id_pattern.specs.Patterns.{matches}
use Rattle.watch_asked.specs.Asked.{any_counts_as}
use Rattle.watch_touched.specs.Leaning.{pairs_to}
use Rattle.watch_touched.proofs.roles.Walk.leads_from_other.Given as goal

abbrev pub invariant-loop-id : goal.invariant-loop-id
invariant-loop-id g l =
    list_any (λ i. matches (pairs_to l.back.entity) i && (matches l.back.step.now.asked i && any_counts_as (λ v. v == l.back.step.now.from) (l.self.asked.now).others.items (l.ids ++ map (λ k. k.1) l.self.changes.now.went) i)) l.ids
    ≡ list_any (λ i. matches (pairs_to l.back.entity) i && (matches l.back.step.now.asked i && any_counts_as (λ v. v == l.back.step.now.from) (l.self.asked.now).others.items (l.ids ++ map (λ k. k.1) l.self.changes.now.went) i)) (drop l.id-index l.ids)
