use Rattle.std.proofs.Common.{ℕ, ◌-◌, ◌<◌, get_or}
use Rattle.script_line.proofs.are_ascii.Given as goal

-- the bytes that were looked at are ASCII
abbrev pub invariant-words : goal.invariant-words
invariant-words l = record { looked_at : (i : ℕ) → i < l.at → get_or l.bytes i 0 < 128 }

abbrev pub decreases-words : goal.decreases-words
decreases-words l = l.last - l.at
