use Rattle.std.proofs.Common.{◌≡◌, ◌++◌, map, take}
use Rattle.script_explain.specs.Places.{shown}
use Rattle.script_explain.proofs.quotes.write_quote.Given as goal

abbrev pub invariant-loop-byte : goal.invariant-loop-byte
invariant-loop-byte g l = l.out.items ≡ l.fn.out.items ++ map (shown l.fn.is_text) (take l.byte-index l.fn.line)
