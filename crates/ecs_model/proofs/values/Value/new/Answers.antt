-- The numbers stand before zeros, of which as many are left as places.
use Rattle.std.proofs.Common.{◌≡◌, ◌≤◌, List, ◌++◌, ℤ, pos, length, drop, replicate, arith, ◌∙◌, length-append, length-drop}
use Rattle.std.proofs.Math.Seq.{drop-append_seam}
use Rattle.std.proofs.lemmas.List.{drop-replicate}
use Rattle.ecs_model.specs.Values.{IsFilledUp}
use Rattle.ecs_model.proofs.values.Value.new.Goals as goal

-- few numbers over eight zeros
filled_up : (ns : List ℤ) → length ns ≤ 8 → IsFilledUp (ns ++ drop (length ns) (replicate 8 (pos 0))) (length ns)
filled_up ns h =
    let whole : length (ns ++ drop (length ns) (replicate 8 (pos 0))) ≡ 8 = rw (length-append, length-drop) (omega arith) in
    (h, whole, drop-append_seam ns (drop (length ns) (replicate 8 (pos 0))) ∙ drop-replicate (length ns) 8 (pos 0))

pub invariant_of-result : goal.invariant_of-result
invariant_of-result c = rw c.copy_from_slice.ensures.after (filled_up c.args.numbers.now c.requires)
