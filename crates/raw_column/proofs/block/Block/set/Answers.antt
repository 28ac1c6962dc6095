use Rattle.std.proofs.Common.{◌≡◌, ◌+◌, ◌-◌, ◌<◌, ◌≤◌, ◌++◌, length, map, take, drop, sym, ap, ap₂, subst, ◌∙◌, arith}
use Rattle.std.specs.List.{All, sum}
use lib.ListN.{get_or}
use Rattle.raw_column.specs.Contents.{Contents, HasZeros, column_at, first_of, no_values, with_item_in}
use Rattle.raw_column.specs.Places.{columns_in, over, place_of}
use Rattle.raw_column.proofs.PlaceLemmas.{columns_write, length_columns, length_over, place_inside}
use Rattle.raw_column.proofs.RowLemmas.{contents, fits_most, length_shown, rows_set, size_shown, zeros_set}
use Rattle.raw_column.proofs.block.Block.set.Goals as goal

pub offset_of-at-requires-clause-column : goal.offset_of-at-requires-clause-column
offset_of-at-requires-clause-column g c =
    let a = c.self.inside in
    subst (λ m. c.args.column < m) (ap (λ (v : Contents). length v.columns) (sym c.self.view_is) ∙ length_shown a.capacity a.len a.sizes a.buffer) c.requires.column

pub offset_of-at-requires-clause-row : goal.offset_of-at-requires-clause-row
offset_of-at-requires-clause-row g c =
    let below : c.args.row < c.self.inside.len = subst (λ (v : Contents). c.args.row < v.len) (sym c.self.view_is) c.requires.row in
    omega (arith, c.self.invariant.within)

pub offset_of-at-requires-clause-in_block : goal.offset_of-at-requires-clause-in_block
offset_of-at-requires-clause-in_block g c = fits_most c.self.inside.capacity (sum c.self.inside.sizes) c.self.invariant.in_block

pub write-requires : goal.write-requires
write-requires g c =
    let a = c.self.inside in let k = c.args.column in let row = c.args.row in
    let lt : k < length a.sizes = subst (λ m. k < m) (ap (λ (v : Contents). length v.columns) (sym c.self.view_is) ∙ length_shown a.capacity a.len a.sizes a.buffer) c.requires.column in
    let below : row < a.len = subst (λ (v : Contents). row < v.len) (sym c.self.view_is) c.requires.row in let free : row < a.capacity = omega (arith, c.self.invariant.within) in
    let width : length c.args.value.now ≡ get_or a.sizes k 0 = c.requires.size ∙ ap (λ (v : Contents). (column_at v k).size) (sym c.self.view_is) ∙ size_shown a.capacity a.len a.sizes a.buffer k lt in
    omega (arith, c.offset_of-at.ensures.inside free, c.self.invariant.all)

pub invariant_of-self : goal.invariant_of-self
invariant_of-self g c =
    let a = c.self.inside in let h = c.self.invariant in let k = c.args.column in let row = c.args.row in let ss = a.sizes in let bs = a.buffer in let ws = c.args.value.now in let t = get_or ss k 0 in
    let lt : k < length ss = subst (λ m. k < m) (ap (λ (v : Contents). length v.columns) (sym c.self.view_is) ∙ length_shown a.capacity a.len ss bs) c.requires.column in
    let below : row < a.len = subst (λ (v : Contents). row < v.len) (sym c.self.view_is) c.requires.row in let free : row < a.capacity = omega (arith, h.within) in
    let width : length ws ≡ t = c.requires.size ∙ ap (λ (v : Contents). (column_at v k).size) (sym c.self.view_is) ∙ size_shown a.capacity a.len ss bs k lt in
    let new : c.write.new.self ≡ over (place_of a.capacity ss k row) t bs ws = c.write.ensures ∙ ap₂ (λ i j. take i bs ++ ws ++ drop (i + j) bs) c.offset_of-at.ensures.value width in
    let cols = columns_in a.capacity ss bs in let within : k < length cols = subst (λ m. k < m) (sym (length_columns a.capacity ss bs)) lt in
    let fits : place_of a.capacity ss k row + t ≤ length bs = omega (arith, place_inside a.capacity ss k row lt free, h.all) in
    record {
      sized = h.sized;
      all = ap length new ∙ length_over (place_of a.capacity ss k row) t bs ws width fits ∙ h.all;
      within = h.within;
      in_block = h.in_block;
      zeros = subst (All (HasZeros a.capacity a.len)) (sym (ap (columns_in a.capacity ss) new ∙ columns_write a.capacity ss bs k row ws (no_values 0) lt free h.all width))
          (zeros_set a.capacity a.len h.within ss bs h.zeros k row ws (no_values 0) within below);
    }

pub returns : goal.returns
returns g c =
    let a = c.self.inside in let h = c.self.invariant in let k = c.args.column in let row = c.args.row in let ss = a.sizes in let bs = a.buffer in let ws = c.args.value.now in let t = get_or ss k 0 in
    let lt : k < length ss = subst (λ m. k < m) (ap (λ (v : Contents). length v.columns) (sym c.self.view_is) ∙ length_shown a.capacity a.len ss bs) c.requires.column in
    let below : row < a.len = subst (λ (v : Contents). row < v.len) (sym c.self.view_is) c.requires.row in let free : row < a.capacity = omega (arith, h.within) in
    let width : length ws ≡ t = c.requires.size ∙ ap (λ (v : Contents). (column_at v k).size) (sym c.self.view_is) ∙ size_shown a.capacity a.len ss bs k lt in
    let new : c.write.new.self ≡ over (place_of a.capacity ss k row) t bs ws = c.write.ensures ∙ ap₂ (λ i j. take i bs ++ ws ++ drop (i + j) bs) c.offset_of-at.ensures.value width in
    let cols = columns_in a.capacity ss bs in let within : k < length cols = subst (λ m. k < m) (sym (length_columns a.capacity ss bs)) lt in
    ap (contents a.len (a.capacity - a.len)) (ap (map (first_of a.len)) (ap (columns_in a.capacity ss) new ∙ columns_write a.capacity ss bs k row ws (no_values 0) lt free h.all width)
    ∙ rows_set a.capacity a.len h.within ss bs h.zeros k row ws (no_values 0) within) ∙ ap (λ (v : Contents). with_item_in v k row ws) c.self.view_is
