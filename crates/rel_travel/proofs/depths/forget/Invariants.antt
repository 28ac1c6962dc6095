use Rattle.std.proofs.Common.{◌≡◌, ℕ, get_or, take}
use Rattle.std.specs.List.{Contains}
use Rattle.rel_travel.specs.Words.{IsNotedOf}
use Rattle.rel_travel.proofs.depths.forget.Given as goal

abbrev pub invariant-loop-index : goal.invariant-loop-index
invariant-loop-index l = record {
  taken : (i : ℕ) → Contains (take l.index-index l.noted) i → get_or l.words i 0 ≡ 0;
  noted : IsNotedOf l.noted l.words;
}
