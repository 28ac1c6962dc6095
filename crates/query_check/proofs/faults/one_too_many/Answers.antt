-- One more part at each turn.
use Rattle.std.proofs.Common.{◌≡◌, ◌+◌, ◌<◌, ◌∙◌, ap, arith, get_or, length, map, refl, subst, sym, ℕ}
use Rattle.std.specs.Prelude.{option_to_list}
use Rattle.std.proofs.lemmas.List.{get_or-map, length-map}
use Rattle.query_model.specs.Check.{counted_spans, most_terms}
use Rattle.query_model.specs.Seen.{seen_part}
use Rattle.query_check.proofs.ItemCounts.{IsCounting, last_counted, none_counted, none_found, one_counted}
use Rattle.query_check.proofs.AbsentElements.{no_part}
use Rattle.query_check.proofs.faults.one_too_many.Goals as goal
use Rattle.query_check.proofs.faults.one_too_many.Goals.{in-Some+else-left-eq0, in_default}

pub loop-part-init : goal.loop-part-init
loop-part-init c = record { same = refl }

pub returns-then-left-eq0 : goal.returns-then-left-eq0
returns-then-left-eq0 c =
    let parts = c.args.parts.now in
    let i = c.loop-part.part-index in
    let part = seen_part (get_or parts i no_part) in
    let within : i < length (map seen_part parts) = rw length-map c.loop-part-test.true in
    last_counted counted_spans most_terms (map seen_part parts) i c.loop-part.left c.loop-part.invariant part within c.in-Some.span
    (ap counted_spans (get_or-map seen_part parts i no_part part c.loop-part-test.true) ∙ sym c.counted_span.ensures ∙ ap option_to_list c.in-Some.is)
    (omega arith)

pub returns : goal.returns
returns c = none_found counted_spans most_terms (map seen_part c.args.parts.now) c.loop-part.part-index c.loop-part.left c.loop-part.invariant (rw length-map c.loop-part-test.false)

pub loop-part-preserved : goal.loop-part-preserved
loop-part-preserved c =
    let parts = c.args.parts.now in
    let i = c.loop-part.part-index in
    let part = seen_part (get_or parts i no_part) in
    let within : i < length (map seen_part parts) = rw length-map c.loop-part-test.true in
    let same : counted_spans (get_or (map seen_part parts) i part) ≡ option_to_list c.counted_span.result =
    ap counted_spans (get_or-map seen_part parts i no_part part c.loop-part-test.true) ∙ sym c.counted_span.ensures in
    let P : ℕ → Type 0 = λ left. IsCounting counted_spans most_terms (map seen_part parts) (i + 1) left in
    elim c.match-counted_span.branch [
      | in-Some+else-left-eq0 w ↦
          subst P (sym w.left-is)
          (one_counted counted_spans most_terms (map seen_part parts) i c.loop-part.left c.loop-part.invariant part within w.in-Some.span (same ∙ ap option_to_list w.in-Some.is) (omega (arith, w.if-left-eq0.false)))
      | in_default w ↦
          subst P (sym w.left-is) (none_counted counted_spans most_terms (map seen_part parts) i c.loop-part.left c.loop-part.invariant part within (same ∙ ap option_to_list w.in_default.is))
    ]
