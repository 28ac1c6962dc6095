use Rattle.std.proofs.Common.{◌≡◌, ℕ, ◌+◌, ◌≤◌, length, take, drop, ◌∙◌, sym, ap, arith, length-drop}
use Rattle.std.proofs.Math.Nat.{add-sub_cancel_left}
use Rattle.query_parser.specs.Token.{sign_of}
use Rattle.query_parser.proofs.TokenReads.{cut_behind_ascii, empty_from_no_first, next_is_sign, rest_of_bytes}
use Rattle.query_parser.proofs.lexer.next_token.Goals as goal

pub range_from-requires : goal.range_from-requires
range_from-requires c = λ some.
    let text = c.args.text.now in
    let start : ℕ = c.args.from + c.blanks_len.result in
    let r = rest_of_bytes c.as_bytes-bytes.result.now text start c.as_bytes-bytes.ensures.value in
    let e = rw r at c.in_default.ensures.value in
    let l = empty_from_no_first (drop start text) (sym e) in
    let n = length-drop start text in
    let b = rest_of_bytes c.as_bytes-bytes.result.now text c.args.from c.as_bytes-bytes.ensures.value in
    let w = rw b at c.blanks_len.ensures.within in
    let m = length-drop c.args.from text in
    (omega arith, λ before. absurd (omega arith))

pub range-requires-clause-end_boundary : goal.range-requires-clause-end_boundary
range-requires-clause-end_boundary c =
    let text = c.args.text.now in
    let start : ℕ = c.args.from + c.blanks_len.result in
    let r = rest_of_bytes c.as_bytes-bytes.result.now text start c.as_bytes-bytes.ensures.value in
    let a = rw r at c.in-Some-sign.ensures.ascii in
    let w = rw r at c.in-Some-sign.ensures.within in
    cut_behind_ascii text start c.in-Some-sign.len c.utf8.text w.0 (omega (arith, length-drop start text)) a

pub returns-clause-answers : goal.returns-clause-answers
returns-clause-answers c =
    let text = c.args.text.now in
    let from : ℕ = c.args.from in
    let start : ℕ = from + c.blanks_len.result in
    let r = rest_of_bytes c.as_bytes-bytes.result.now text start c.as_bytes-bytes.ensures.value in
    let f = rw r at c.in-Some-sign.ensures.found in
    let s = rw r at c.in-Some-sign.ensures.spells in
    let w = rw r at c.in-Some-sign.ensures.within in
    let b = rest_of_bytes c.as_bytes-bytes.result.now text from c.as_bytes-bytes.ensures.value in
    let n = rw b at c.blanks_len.ensures.count in
    let t : c.range.result.now ≡ take c.in-Some-sign.len (drop start text) = c.range.ensures.value ∙ ap (λ (k : ℕ). take k (drop start text)) (add-sub_cancel_left start c.in-Some-sign.len) in
    let l : start + c.in-Some-sign.len ≤ length text = omega (arith, length-drop start text) in
    rw t (next_is_sign text from c.blanks_len.result c.in-Some-sign.len (sign_of c.in-Some-sign.kind (take c.in-Some-sign.len (drop start text))) n w.0 l f s)
