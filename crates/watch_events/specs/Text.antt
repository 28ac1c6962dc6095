-- What a contract sees of a text.
use Rattle.std.specs.Prelude.{List, ℕ}
use Rattle.watch_events.specs.declared.text.Kept.{Kept}
use Rattle.watch_events.specs.declared.text.Kept.TheVariants.{Few, Many}

abbrev pub kept_bytes : {A : Type 0} → Kept A → List ℕ
kept_bytes (Few few) = few.items
kept_bytes (Many many) = many.items
