-- A chunk that is put down, of which the first bytes count, two of them, and a value with what closes its field behind it.
use Rattle.std.specs.Prelude.{◌≡◌, ℕ, suc, ◌+◌, ◌-◌, ◌≤◌, Bool, true, false, List, ◌∷◌, ◌++◌, drop, length, replicate, take}
use Rattle.std.proofs.Common.{refl, ap, sym, ◌∙◌, arith, set}
use Rattle.std.proofs.Math.Seq.{take-append-add}
use Rattle.std.proofs.lemmas.List.{drop-replicate, drop-set-add, length-append, length-drop, length-replicate, length-take-le, take-take}
use Rattle.world_query.specs.Lines.{field_end}

pub chunk_put : (place count : ℕ) (old new text : List ℕ) → count ≤ 32 → place ≤ length old → take (place + 32) new ≡ take place old ++ take 32 text → take (place + count) new ≡ take place old ++ take count text
chunk_put place count old new text few within e =
    sym (take-take (place + count) (place + 32) new (omega arith))
    ∙ ap (take (place + count)) e
    ∙ ap (λ n. take (n + count) (take place old ++ take 32 text)) (sym (length-take-le place old within))
    ∙ take-append-add (take place old) (take 32 text) count
    ∙ ap (λ t. take place old ++ t) (take-take count 32 text few)

pub pair_put : (place count more : ℕ) (old between new text other : List ℕ) → count ≤ 32 → more ≤ 32 → place + 64 ≤ length old → length between ≡ length old
    → take (place + 32) between ≡ take place old ++ take 32 text → take (place + count + 32) new ≡ take (place + count) between ++ take 32 other
    → take (place + count + more) new ≡ (take place old ++ take count text) ++ take more other
pair_put place count more old between new text other few fewer within long first second =
    chunk_put (place + count) more between new other fewer (omega arith) second
    ∙ ap (λ t. t ++ take more other) (chunk_put place count old between text few (omega arith) first)

-- where a value is followed by the bracket that closes its field, and by the end of the line
abbrev pub behind_value : List ℕ
behind_value = 93 ∷ 10 ∷ replicate 30 93

pub closing_room : (text : List ℕ) → text ≡ replicate 208 93 → drop 176 (set text 177 10) ≡ behind_value
closing_room text is = drop-set-add 176 text 1 10 ∙ ap (λ t. set t 1 10) (ap (drop 176) is ∙ drop-replicate {X = ℕ} 176 208 93)

pub closing_short : (is_last : Bool) → length (field_end is_last) ≤ 32
closing_short true = omega arith
closing_short false = omega arith

closing_taken : (is_last : Bool) → take (length (field_end is_last)) behind_value ≡ field_end is_last
closing_taken true = refl
closing_taken false = refl

-- a value that ends right before them, with what closes its field
pub closed_value : (start : ℕ) (text value : List ℕ) (is_last : Bool) → start ≤ 176 → length text ≡ 208 → drop start text ≡ value ++ behind_value
    → take (176 + length (field_end is_last) - start) (drop start text) ≡ value ++ field_end is_last
closed_value start text value is_last few whole is =
    let more : ℕ = length (field_end is_last) in
    let dropped : length (drop start text) ≡ length text - start = length-drop start text in
    let tail : length behind_value ≡ 32 = ap (λ n. suc (suc n)) (length-replicate {A = ℕ} 30 93) in
    let both : length (drop start text) ≡ length value + 32 = ap length is ∙ length-append value behind_value ∙ ap (λ n. length value + n) tail in
    let count : 176 + more - start ≡ length value + more = omega arith in
    ap (λ n. take n (drop start text)) count ∙ ap (take (length value + more)) is ∙ take-append-add value behind_value more ∙ ap (λ t. value ++ t) (closing_taken is_last)
