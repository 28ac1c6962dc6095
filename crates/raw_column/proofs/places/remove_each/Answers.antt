use Rattle.std.proofs.Common.{◌≡◌, ℕ, ◌*◌, ◌<◌, ◌≤◌, ◌++◌, length, List, map, replicate, take, drop, sym, ap, ap₂, subst, ◌∙◌, arith}
use Rattle.std.proofs.lemmas.List.{append-nil, drop_all, get_or_default, take_all}
use Rattle.std.proofs.lemmas.List.Edits.{map_over_more}
use Rattle.std.specs.List.{sum}
use lib.ListN.{get_or, set}
use Rattle.raw_column.specs.Contents.{no_values}
use Rattle.raw_column.specs.Places.{Values, columns_in, gap_filled, over, place_of}
use Rattle.raw_column.proofs.PlaceLemmas.{columns_filled, length_columns, place_apart, place_order}
use Rattle.raw_column.proofs.places.remove_each.Goals as goal

pub fill_gap-requires-clause-order : goal.fill_gap-requires-clause-order
fill_gap-requires-clause-order g c =
    let k = c.loop-column.column in let ss = c.args.sizes.now in let lt : k < length ss = omega arith in
    omega (arith, c.offset_of-to.ensures.value, c.offset_of-from.ensures.value, place_order c.args.capacity ss k c.args.row c.args.last lt c.requires.row.0)

pub fill_gap-requires-clause-apart : goal.fill_gap-requires-clause-apart
fill_gap-requires-clause-apart g c below =
    let k = c.loop-column.column in let ss = c.args.sizes.now in let lt : k < length ss = omega arith in
    let low : place_of c.args.capacity ss k c.args.row < place_of c.args.capacity ss k c.args.last = omega (arith, c.offset_of-to.ensures.value, c.offset_of-from.ensures.value) in
    omega (arith, c.offset_of-to.ensures.value, c.offset_of-from.ensures.value, c.size-size.ensures.size, place_apart c.args.capacity ss k c.args.row c.args.last lt c.requires.row.0 low)

abbrev written : List ℕ → ℕ → ℕ → ℕ → List ℕ
written bs q p t = over p t (over q t bs (take t (drop p bs))) (replicate t 0)

pub loop-column-preserved : goal.loop-column-preserved
loop-column-preserved g c =
    let k = c.loop-column.column in let ss = c.args.sizes.now in let bs = c.loop-column.bytes in let at = c.args.capacity in let row = c.args.row in let last = c.args.last in
    let lt : k < length ss = omega arith in let first = columns_in at ss c.args.bytes.now in let cols = columns_in at ss bs in
    let d : Values = no_values 0 in let v = get_or cols k d in
    let within : k < length cols = subst (λ n. k < n) (sym (length_columns at ss bs)) lt in let within2 : k < length first = subst (λ n. k < n) (sym (length_columns at ss c.args.bytes.now)) lt in
    let all : length bs ≡ at * sum ss = c.loop-column.auto.bytes ∙ c.requires.all.0 in
    let new : columns_in at ss c.fill_gap.new.bytes ≡ set cols k (gap_filled row last v) =
    ap (columns_in at ss) (c.fill_gap.ensures ∙ (λ i. written bs (c.offset_of-to.ensures.value i) (c.offset_of-from.ensures.value i) (c.size-size.ensures.size i)))
    ∙ columns_filled at ss bs k row last d lt c.requires.row.0 c.requires.row.1 all in
    new ∙ map_over_more (gap_filled row last) first cols k v within2 c.loop-column.invariant (get_or_default cols k d v within)

pub returns : goal.returns
returns g c =
    let k = c.loop-column.column in let ss = c.args.sizes.now in let first = columns_in c.args.capacity ss c.args.bytes.now in
    let past : length first ≤ k = omega (arith, length_columns c.args.capacity ss c.args.bytes.now) in let f = gap_filled c.args.row c.args.last in
    c.loop-column.invariant ∙ ap₂ (λ a b. map f a ++ b) (take_all k first past) (drop_all k first past) ∙ append-nil (map f first)
