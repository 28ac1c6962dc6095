-- What holds of the spans of a block's columns.
use Rattle.std.specs.Prelude.{◌≡◌, ℕ, ◌^◌, ◌<◌, ◌≤◌, List, length, map, take, slice_index, slice_index_or}
use Rattle.std.specs.List.{sum}
use Rattle.raw_column.specs.declared.sizes.Span.{Span}

abbrev pub sizes_of : List Span → List ℕ
sizes_of spans = map (λ p. p.size) spans

-- each span has the bytes of the columns before it, and the width is that of all
pub record IsSpread (spans : List Span) (width : ℕ) : Type 0 where
  pub sized : (k : ℕ) → k < length (sizes_of spans) → (0 < slice_index (sizes_of spans) k) × (slice_index (sizes_of spans) k ≤ 64)
  pub before : (k : ℕ) (d : Span) → k < length spans → (slice_index_or spans k d).before ≡ sum (take k (sizes_of spans))
  pub whole : width ≡ sum (sizes_of spans)
  pub small : width < 2 ^ 32
