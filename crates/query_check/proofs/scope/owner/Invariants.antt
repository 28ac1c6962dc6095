use Rattle.std.proofs.Common.{◌≡◌, ◌≤◌, length, map}
use Rattle.query_check.specs.Places.{IsRooted}
use Rattle.query_check.specs.Seen.{seen_occurrence}
use Rattle.query_model.specs.Levels.{Path, level_of}
use Rattle.query_model.specs.Scope.{occurs_in}
use Rattle.query_check.proofs.LevelWalks.{IsWalked}
use Rattle.query_check.proofs.scope.owner.Given as goal

abbrev pub invariant-loop-inner : goal.invariant-loop-inner
invariant-loop-inner l = (l.inner ≤ length l.places) × ((path : Path) → l.level ≡ level_of path → IsRooted l.places path → IsWalked (occurs_in (map seen_occurrence l.occurrences) l.name) l.places path l.inner l.owner)

abbrev pub decreases-loop-inner : goal.decreases-loop-inner
decreases-loop-inner l = l.inner
