-- Lines as far as they are kept.
use Rattle.std.proofs.Common.{◌≡◌, ℕ, Bool, true, false, not, cond, true≢false, ◌+◌, ◌-◌, ◌≤◌, List, ◌++◌, length, take, min, sym, ◌∙◌, ap, arith}
use Rattle.std.proofs.lemmas.List.{take-take, take_min}
use Rattle.std.proofs.Math.Seq.{take-append-add}
use Rattle.script_streams.specs.Lines.{kept}

-- a front with more bytes, as far as they are kept
pub kept_added : (front bytes : List ℕ) → length front ≤ 4097 → front ++ take (min (4097 - length front) (length bytes)) bytes ≡ kept (front ++ bytes)
kept_added front bytes few =
    let room = 4097 - length front in
    let all : length front + room ≡ 4097 = omega (arith, few) in
    ap (λ l. front ++ l) (take_min room bytes) ∙ sym (take-append-add front bytes room) ∙ ap (λ n. take n (front ++ bytes)) all

-- what is kept of a line is kept again
pub kept_twice : (line : List ℕ) → kept (kept line) ≡ kept line
kept_twice line = take-take 4097 4097 line (omega arith)

-- of a line that came in more than one piece what is kept
pub kept_joined : (is_new : Bool) (joined other line : List ℕ) → not is_new ≡ true → joined ≡ kept line → kept (cond (not is_new) joined other) ≡ kept line
kept_joined false joined other line is e = ap kept e ∙ kept_twice line
kept_joined true joined other line is e = absurd (true≢false (sym is))
