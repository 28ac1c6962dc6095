use Rattle.std.proofs.Common.{ℕ, ◌<◌, ◌≤◌, List, slice_index, length, map, sym, ap, subst, ◌∙◌, arith}
use Rattle.std.specs.List.{sum}
use native.Mathlib.Nat.{zero-mul}
use Rattle.raw_column.specs.Contents.{no_values}
use Rattle.raw_column.proofs.RowLemmas.{contents, shown_none, zeros_none}
use Rattle.raw_column.proofs.block.Block.new.Goals as goal

pub invariant_of-result : goal.invariant_of-result
invariant_of-result g c =
    let ss = c.in_ok-new.field-0 in
    record {
      sized = subst (λ (l : List ℕ). (k : ℕ) → k < length l → (0 < slice_index l k) × (slice_index l k ≤ 64)) (sym c.in_ok-new.ensures) c.requires;
      all = ap length c.new-2.ensures ∙ sym (zero-mul (sum ss));
      within = omega arith;
      in_block = omega arith;
      zeros = zeros_none ss c.new-2.result;
    }

pub returns : goal.returns
returns g c = let ss = c.in_ok-new.field-0 in ap (contents 0 0) (shown_none ss c.new-2.result ∙ ap (map no_values) c.in_ok-new.ensures)
