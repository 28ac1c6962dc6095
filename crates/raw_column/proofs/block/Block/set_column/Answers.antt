use Rattle.std.proofs.Common.{◌≡◌, ◌+◌, ◌-◌, ◌*◌, ◌<◌, ◌≤◌, ◌++◌, length, map, take, drop, sym, ap, ap₂, subst, ◌∙◌, arith}
use Rattle.std.specs.List.{All, sum}
use lib.ListN.{get_or}
use Rattle.raw_column.specs.Contents.{Contents, HasZeros, column_at, first_of, no_values, with_column}
use Rattle.raw_column.specs.Places.{columns_in, over, place_of}
use Rattle.raw_column.proofs.ColumnBytes.{column_fits}
use Rattle.raw_column.proofs.PlaceLemmas.{length_columns, length_over}
use Rattle.raw_column.proofs.RowLemmas.{contents, fits_most, length_shown, size_shown}
use Rattle.raw_column.proofs.WholeColumns.{column_seen, columns_over, zeros_seen}
use Rattle.raw_column.proofs.block.Block.set_column.Goals as goal

pub offset_of-at-requires-clause-column : goal.offset_of-at-requires-clause-column
offset_of-at-requires-clause-column g c =
    let a = c.self.inside in
    subst (λ m. c.args.column < m) (ap (λ (v : Contents). length v.columns) (sym c.self.view_is) ∙ length_shown a.capacity a.len a.sizes a.buffer) c.requires.column

pub offset_of-at-requires-clause-in_block : goal.offset_of-at-requires-clause-in_block
offset_of-at-requires-clause-in_block g c = fits_most c.self.inside.capacity (sum c.self.inside.sizes) c.self.invariant.in_block

pub write-requires : goal.write-requires
write-requires g c =
    let a = c.self.inside in let k = c.args.column in
    let lt : k < length a.sizes = subst (λ m. k < m) (ap (λ (v : Contents). length v.columns) (sym c.self.view_is) ∙ length_shown a.capacity a.len a.sizes a.buffer) c.requires.column in
    let long : length c.args.bytes.now ≡ a.len * get_or a.sizes k 0 =
    c.requires.size ∙ ap (λ (v : Contents). v.len * (column_at v k).size) (sym c.self.view_is) ∙ ap (λ n. a.len * n) (size_shown a.capacity a.len a.sizes a.buffer k lt) in
    omega (arith, c.offset_of-at.ensures.value, column_fits a.capacity a.len a.sizes k lt c.self.invariant.within, c.self.invariant.all)

pub invariant_of-self : goal.invariant_of-self
invariant_of-self g c =
    let a = c.self.inside in let h = c.self.invariant in let k = c.args.column in let ss = a.sizes in let bs = a.buffer in let ws = c.args.bytes.now in let t = a.len * get_or ss k 0 in
    let lt : k < length ss = subst (λ m. k < m) (ap (λ (v : Contents). length v.columns) (sym c.self.view_is) ∙ length_shown a.capacity a.len ss bs) c.requires.column in
    let long : length ws ≡ t = c.requires.size ∙ ap (λ (v : Contents). v.len * (column_at v k).size) (sym c.self.view_is) ∙ ap (λ n. a.len * n) (size_shown a.capacity a.len ss bs k lt) in
    let new : c.write.new.self ≡ over (place_of a.capacity ss k 0) t bs ws = c.write.ensures ∙ ap₂ (λ i j. take i bs ++ ws ++ drop (i + j) bs) c.offset_of-at.ensures.value long in
    let cols = columns_in a.capacity ss bs in let within : k < length cols = subst (λ m. k < m) (sym (length_columns a.capacity ss bs)) lt in
    let fits : place_of a.capacity ss k 0 + t ≤ length bs = omega (arith, column_fits a.capacity a.len ss k lt h.within, h.all) in
    record {
      sized = h.sized;
      all = ap length new ∙ length_over (place_of a.capacity ss k 0) t bs ws long fits ∙ h.all;
      within = h.within;
      in_block = h.in_block;
      zeros = subst (All (HasZeros a.capacity a.len)) (sym (ap (columns_in a.capacity ss) new ∙ columns_over a.capacity ss bs k a.len ws (no_values 0) lt h.within h.all long))
          (zeros_seen a.capacity a.len cols k ws (no_values 0) within h.zeros);
    }

pub returns : goal.returns
returns g c =
    let a = c.self.inside in let h = c.self.invariant in let k = c.args.column in let ss = a.sizes in let bs = a.buffer in let ws = c.args.bytes.now in let t = a.len * get_or ss k 0 in
    let lt : k < length ss = subst (λ m. k < m) (ap (λ (v : Contents). length v.columns) (sym c.self.view_is) ∙ length_shown a.capacity a.len ss bs) c.requires.column in
    let long : length ws ≡ t = c.requires.size ∙ ap (λ (v : Contents). v.len * (column_at v k).size) (sym c.self.view_is) ∙ ap (λ n. a.len * n) (size_shown a.capacity a.len ss bs k lt) in
    let new : c.write.new.self ≡ over (place_of a.capacity ss k 0) t bs ws = c.write.ensures ∙ ap₂ (λ i j. take i bs ++ ws ++ drop (i + j) bs) c.offset_of-at.ensures.value long in
    let cols = columns_in a.capacity ss bs in let within : k < length cols = subst (λ m. k < m) (sym (length_columns a.capacity ss bs)) lt in
    ap (contents a.len (a.capacity - a.len)) (ap (map (first_of a.len)) (ap (columns_in a.capacity ss) new ∙ columns_over a.capacity ss bs k a.len ws (no_values 0) lt h.within h.all long)
    ∙ column_seen a.capacity a.len cols k ws (no_values 0) within) ∙ ap (λ (v : Contents). with_column v k ws) c.self.view_is
