use Rattle.std.proofs.Common.{◌≡◌, ℕ, ◌+◌, ◌-◌, ◌<◌, List, [], length, map, take, slice_get, slice_index_or, Some, sym, ap, ap₂, ◌∙◌, arith, inl, inr}
use Rattle.std.proofs.lemmas.List.Sums.{fold_more}
use Rattle.std.proofs.lemmas.Bool.{cases_lt}
use Rattle.std.proofs.lemmas.Option.{same_Some, slice_get-get_or, slice_get_past}
use Rattle.raw_column.specs.Contents.{Contents, column_at, with_copied, with_item_in, with_zeros}
use Rattle.raw_column.proofs.RowLemmas.{copied_shape, same_size, zeros_shape}
use Rattle.raw_column.proofs.block.Block.move_row.Goals as goal

got : (xs : List (List ℕ)) (i : ℕ) (x : List ℕ) → slice_get xs i ≡ Some x → x ≡ slice_index_or xs i []
got xs i x e = elim (cases_lt i (length xs)) [
  | inl a ↦ same_Some x (slice_index_or xs i []) (sym e ∙ slice_get-get_or xs i [] a)
  | inr b ↦ let none = slice_get_past xs i b in cc
]

pub set-requires-clause-column : goal.set-requires-clause-column
set-requires-clause-column g c =
    let k = c.loop-from.from-index in let ps = c.args.pairs.now in let s = c.args.self.now in let t = c.args.other.now in let u = c.loop-from.other in
    let lt : k < length ps = omega arith in let p : ℕ × ℕ = slice_index_or ps k (0, 0) in let asks = c.requires.within k lt in
    let shape : map (λ v. v.size) u.columns ≡ map (λ v. v.size) t.columns = ap (λ (v : Contents). map (λ w. w.size) v.columns) c.loop-from.invariant ∙ (copied_shape s c.args.row (with_zeros t) (take k ps)).1 ∙ zeros_shape t in
    (same_size u.columns t.columns p.1 shape asks.1).0

pub set-requires-clause-row : goal.set-requires-clause-row
set-requires-clause-row g c =
    let s = c.args.self.now in let t = c.args.other.now in
    let last : c.other.inside.len ≡ t.len + 1 = ap (λ (v : Contents). v.len) (c.other.view_is ∙ c.push_zero.ensures) in
    let len : c.loop-from.other.len ≡ t.len + 1 = ap (λ (v : Contents). v.len) c.loop-from.invariant ∙ (copied_shape s c.args.row (with_zeros t) (take c.loop-from.from-index c.args.pairs.now)).0 in
    omega arith

pub set-requires-clause-size : goal.set-requires-clause-size
set-requires-clause-size g c =
    let k = c.loop-from.from-index in let ps = c.args.pairs.now in let s = c.args.self.now in let t = c.args.other.now in let u = c.loop-from.other in
    let lt : k < length ps = omega arith in let p : ℕ × ℕ = slice_index_or ps k (0, 0) in let asks = c.requires.within k lt in
    let shape : map (λ v. v.size) u.columns ≡ map (λ v. v.size) t.columns = ap (λ (v : Contents). map (λ w. w.size) v.columns) c.loop-from.invariant ∙ (copied_shape s c.args.row (with_zeros t) (take k ps)).1 ∙ zeros_shape t in
    c.get.ensures.len ∙ asks.2 ∙ sym (same_size u.columns t.columns p.1 shape asks.1).1

pub loop-from-preserved : goal.loop-from-preserved
loop-from-preserved g c =
    let k = c.loop-from.from-index in let ps = c.args.pairs.now in let s = c.args.self.now in let t = c.args.other.now in let row = c.args.row in
    let lt : k < length ps = omega arith in let p : ℕ × ℕ = slice_index_or ps k (0, 0) in
    let last : c.other.inside.len ≡ t.len + 1 = ap (λ (v : Contents). v.len) (c.other.view_is ∙ c.push_zero.ensures) in
    let len : c.loop-from.other.len ≡ t.len + 1 = ap (λ (v : Contents). v.len) c.loop-from.invariant ∙ (copied_shape s row (with_zeros t) (take k ps)).0 in
    let same : c.other.inside.len - 1 ≡ c.loop-from.other.len - 1 = omega arith in
    let value : c.get.result.now ≡ slice_index_or (column_at s p.0).items row [] = got (column_at s p.0).items row c.get.result.now c.get.ensures.value in
    c.set.ensures ∙ ap₂ (λ i x. with_item_in c.loop-from.other p.1 i x) same value ∙ ap (λ u. with_copied s row u p) c.loop-from.invariant
    ∙ sym (fold_more (with_copied s row) (with_zeros t) ps k (0, 0) lt)
