use Rattle.std.proofs.Common.{◌≡◌, ℕ, ◌+◌, ◌-◌, ◌*◌, ◌≤◌, take, drop, replicate, sym, ap, ap₂, ◌∙◌, arith}
use native.Mathlib.Nat.{add-mul, mul-le-mul_right}
use lib.ListN.{get_or}
use Rattle.raw_column.specs.Places.{over, place_of}
use Rattle.raw_column.proofs.ShiftLemmas.{column_placed, place_end}
use Rattle.raw_column.proofs.places.place_column.Goals as goal

pub shift-requires : goal.shift-requires
shift-requires g c =
    let ss = c.args.sizes.now in let k = c.args.column in let s = get_or ss k 0 in let n = c.args.len in
    let size : n * c.size-size.result ≡ n * s = ap (λ j. n * j) c.size-size.ensures.size in
    let few : n * s ≤ c.args.from * s = mul-le-mul_right s c.requires.rows.0 in let few2 : n * s ≤ c.args.to * s = mul-le-mul_right s c.requires.rows.1 in (
      omega (arith, c.offset_of-had.ensures.value, place_end c.args.from ss k c.requires.column, c.requires.from.0),
      omega (arith, c.offset_of-at.ensures.value, place_end c.args.to ss k c.requires.column, c.requires.to.0),
    )

pub clear_at-requires : goal.clear_at-requires
clear_at-requires g c =
    let ss = c.args.sizes.now in let k = c.args.column in let s = get_or ss k 0 in let n = c.args.len in let d = c.args.to in let r : ℕ = d - n in
    let size : n * c.size-size.result ≡ n * s = ap (λ j. n * j) c.size-size.ensures.size in let size2 : r * c.size-size.result ≡ r * s = ap (λ j. r * j) c.size-size.ensures.size in
    let both : n + r ≡ d = omega (arith, c.requires.rows.1) in let parts : n * s + r * s ≡ d * s = sym (add-mul n r s) ∙ ap (λ j. j * s) both in
    omega (arith, c.offset_of-at.ensures.value, place_end d ss k c.requires.column, c.requires.to.0, c.shift.auto.bytes)

pub returns : goal.returns
returns g c =
    let ss = c.args.sizes.now in let k = c.args.column in let s = get_or ss k 0 in let n = c.args.len in let d = c.args.to in let r : ℕ = d - n in let bs = c.args.bytes.now in
    let p = place_of d ss k 0 in let i = place_of c.args.from ss k 0 in let w = take (n * s) (drop i bs) in
    let size : c.size-size.result ≡ s = c.size-size.ensures.size in let at : c.offset_of-at.result ≡ p = c.offset_of-at.ensures.value in let had : c.offset_of-had.result ≡ i = c.offset_of-had.ensures.value in
    let first : c.shift.new.bytes ≡ over p (n * s) bs w =
    c.shift.ensures ∙ ap₂ (λ x j. over x (n * j) bs (take (n * j) (drop c.offset_of-had.result bs))) at size ∙ ap (λ j. over p (n * s) bs (take (n * s) (drop j bs))) had in
    c.clear_at.ensures ∙ ap₂ (λ x j. over (x + n * j) (r * j) c.shift.new.bytes (replicate (r * j) 0)) at size ∙ ap (λ b. over (p + n * s) (r * s) b (replicate (r * s) 0)) first
    ∙ column_placed n c.args.from d ss k bs c.requires.rows.0 c.requires.rows.1 c.requires.column c.requires.from.0 c.requires.to.0
