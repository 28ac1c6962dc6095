use Rattle.std.proofs.Common.{◌≡◌, ◌-◌, ◌≤◌, ◌++◌, replicate, vec_capacity, vec_len}
use Rattle.rel_travel.proofs.found.add_blank.Given as goal

abbrev pub invariant-loop-blank : goal.invariant-loop-blank
invariant-loop-blank g l = record {
  filled : l.words.items ≡ l.fn.words.items ++ replicate (vec_len l.words - vec_len l.fn.words) 0;
  longer : vec_len l.fn.words ≤ vec_len l.words;
  within : vec_len l.words ≤ l.count;
  room : l.count ≤ vec_capacity l.words;
}

abbrev pub decreases-loop-blank : goal.decreases-loop-blank
decreases-loop-blank g l = l.count - vec_len l.words
