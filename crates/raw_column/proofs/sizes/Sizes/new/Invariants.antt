use Rattle.std.proofs.Common.{◌≡◌, take}
use Rattle.raw_column.specs.Sizes.{IsSpread, sizes_of}
use Rattle.raw_column.proofs.sizes.Sizes.new.Given as goal

abbrev pub invariant-loop-size : goal.invariant-loop-size
invariant-loop-size g l = record {
  sizes : sizes_of l.spans.items ≡ take l.size-index l.sizes;
  spread : IsSpread l.spans.items l.width;
}
