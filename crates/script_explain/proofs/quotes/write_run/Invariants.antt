use Rattle.std.proofs.Common.{◌≡◌, ◌++◌, flat_map, take}
use Rattle.script_explain.specs.Places.{mark}
use Rattle.script_explain.proofs.quotes.write_run.Given as goal

abbrev pub invariant-loop-byte : goal.invariant-loop-byte
invariant-loop-byte g l = l.out.items ≡ l.fn.out.items ++ flat_map (mark l.fn.is_text) (take l.byte-index l.fn.bytes)
