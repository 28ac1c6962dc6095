use Rattle.std.proofs.Common.{◌≡◌, ◌≤◌, vec_len}
use Rattle.component_index.proofs.places.Places.close_up.Given as goal

abbrev pub invariant-loop-number : goal.invariant-loop-number
invariant-loop-number g l = (l.kept_heads ≤ l.number) × (vec_len l.self.heads ≡ vec_len l.initial.self.heads)
