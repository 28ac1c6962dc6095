use Rattle.std.proofs.Common.{◌≡◌, ◌≤◌, List, [], ◌∷◌, ◌++◌, ◌∙◌, ap, arith, drop, length, refl, subst, take}
use Rattle.std.specs.Prelude.{Bool}
use Rattle.std.specs.List.{dedup}
use Rattle.std.specs.List.Sorted.{IsPermutation}
use Rattle.std.proofs.lemmas.List.{take_all, take-append-le}
use Rattle.std.proofs.lemmas.List.Sorted.{IsPermutation-refl}
use Rattle.short_list.proofs.few.put_few_in_order.Goals as goal

-- as many items as were there take their place
refilled : {X : Type 0} (xs ws : List X) → length ws ≡ length xs → take (length xs) (ws ++ drop (length ws) xs) ≡ ws
refilled xs ws e = take-append-le (length xs) ws (drop (length ws) xs) (omega arith) ∙ take_all (length xs) ws (omega arith)

one_once : {X : Type 0} (same : X → X → Bool) (xs : List X) → length xs ≤ 1 → xs ≡ dedup same xs
one_once same [] h = refl
one_once same (x ∷ []) h = refl
one_once same (x ∷ y ∷ ys) h = absurd (omega (arith, h))

pub returns-then-len-gt1 : goal.returns-then-len-gt1
returns-then-len-gt1 g c =
    let sorted = c.sort_unstable.new.self in
    record {
      sorted = sorted;
      permutation = subst (λ xs. IsPermutation xs sorted) c.deref_mut.ensures.value c.sort_unstable.ensures.permutation;
      rises = c.sort_unstable.ensures.sorted;
      once = c.each_once.ensures ∙ ap (dedup g.T.PartialEq.eq) (c.as_slice.ensures.value ∙ refilled c.args.few.now.items sorted (c.sort_unstable.ensures.len ∙ ap length c.deref_mut.ensures.value));
    }

pub returns-else-len-gt1 : goal.returns-else-len-gt1
returns-else-len-gt1 g c =
    let items = c.args.few.now.items in
    let few : length items ≤ 1 = omega (arith, c.len.ensures.value, c.if-len-gt1.false) in
    record {
      sorted = items;
      permutation = IsPermutation-refl items;
      rises = λ k d low high. absurd (omega (arith, few, high));
      once = one_once g.T.PartialEq.eq items few;
    }
