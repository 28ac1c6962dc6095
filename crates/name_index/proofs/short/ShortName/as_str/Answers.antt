use Rattle.std.proofs.Common.{subst, sym, take}
use Rattle.std.specs.Str.{IsUtf8}
use Rattle.name_index.proofs.short.ShortName.as_str.Goals as goal

pub from_utf8_unchecked-requires : goal.from_utf8_unchecked-requires
from_utf8_unchecked-requires c = subst (λ n. IsUtf8 (take n c.self.inside.bytes)) (sym c.from-count.ensures) c.self.invariant.utf8
