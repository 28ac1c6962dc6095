use Rattle.std.proofs.Common.{◌≡◌, ◌++◌, drop, map}
use Rattle.query_model.specs.Levels.{Path, alternatives, level_of}
use Rattle.query_model.specs.Query.{checked_term}
use Rattle.query_model.specs.Seen.{seen_part}
use Rattle.query_check.specs.Places.{IsRooted}
use Rattle.query_check.specs.Seen.{seen_occurrence, seen_variable}
use Rattle.query_check.proofs.query.add_alternatives.Given as goal

abbrev pub invariant-loop-part : goal.invariant-loop-part
invariant-loop-part g l =
    (path : Path) → l.level ≡ level_of path → IsRooted l.scope.places.now path
    → let term_at = checked_term (g.W.Lookup.known l.world) (map seen_occurrence l.scope.found.now) (map seen_variable l.scope.numbered.now) path in
    l.all.items ++ map term_at (alternatives (drop l.part-index (map seen_part l.parts))) ≡ l.initial.all.items ++ map term_at (alternatives (map seen_part l.parts))
