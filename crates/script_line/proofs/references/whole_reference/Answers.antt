use Rattle.std.proofs.Common.{◌<◌, length, get_or, ap, sym, ◌∙◌, arith}
use Rattle.std.proofs.lemmas.Bool.{eqb-false}
use Rattle.std.proofs.lemmas.Str.{IsCharBoundary-after_ascii}
use Rattle.script_line.proofs.references.whole_reference.Goals as goal

pub range_from-requires : goal.range_from-requires
range_from-requires c =
    let word = c.args.word.now in
    let mark : get_or word 0 0 < 128 = omega (arith, ap (λ w. get_or w 0 0) (sym c.as_bytes.ensures.value) ∙ c.if-as_bytes-eq35.true) in
    let some : 0 < length word = omega (arith, eqb-false (length word) 0 (sym c.is_empty.ensures ∙ c.if-is_empty.false)) in
    λ _. IsCharBoundary-after_ascii word 0 c.utf8.word some mark
