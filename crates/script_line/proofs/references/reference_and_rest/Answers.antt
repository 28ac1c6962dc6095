use Rattle.std.proofs.Common.{not, take, ap, sym, ◌∙◌}
use Rattle.std.specs.List.{list_any, position_or_len}
use Rattle.ecs_model.specs.Script.{reference_of}
use Rattle.script_line.specs.Line.{ends_reference, followed_by}
use Rattle.script_line.proofs.Cuts.{cut_at_end}
use Rattle.script_line.proofs.Stops.{cut_read, no_blank_stands, none_ends, reference_unread}
use Rattle.script_line.proofs.references.reference_and_rest.Goals as goal

pub split_at-requires : goal.split_at-requires
split_at-requires c = rw (c.reference_len.ensures ∙ ap (position_or_len ends_reference) c.as_bytes.ensures.value) (cut_at_end c.args.text.now)

pub returns-then-not-is_apart : goal.returns-then-not-is_apart
returns-then-not-is_apart c =
    sym (reference_unread c.args.text.now c.split_at.result.1.now c.reference_len.result (c.reference_len.ensures ∙ ap (position_or_len ends_reference) c.as_bytes.ensures.value)
    c.split_at.ensures.back (sym c.is_apart.ensures ∙ c.if-not-is_apart.true))

pub whole_reference-requires : goal.whole_reference-requires
whole_reference-requires c =
    let text = c.args.text.now in
    ap (list_any ends_reference) (c.split_at.ensures.front ∙ ap (λ n. take n text) (c.reference_len.ensures ∙ ap (position_or_len ends_reference) c.as_bytes.ensures.value)) ∙ none_ends text

pub returns-in_err-whole_reference : goal.returns-in_err-whole_reference
returns-in_err-whole_reference c =
    let rest = c.split_at.result.1.now in
    let read = cut_read (λ b. not (ends_reference b)) no_blank_stands c.args.text.now rest c.reference_len.result (c.reference_len.ensures ∙ ap (position_or_len ends_reference) c.as_bytes.ensures.value)
    c.split_at.ensures.back reference_of c.split_at.result.0.now c.split_at.ensures.front (sym c.is_apart.ensures ∙ c.if-not-is_apart.false) in
    rw c.from_residual.ensures (ap (followed_by rest) c.in_err-whole_reference.ensures ∙ read)

pub returns : goal.returns
returns c =
    let rest = c.split_at.result.1.now in
    let read = cut_read (λ b. not (ends_reference b)) no_blank_stands c.args.text.now rest c.reference_len.result (c.reference_len.ensures ∙ ap (position_or_len ends_reference) c.as_bytes.ensures.value)
    c.split_at.ensures.back reference_of c.split_at.result.0.now c.split_at.ensures.front (sym c.is_apart.ensures ∙ c.if-not-is_apart.false) in
    ap (followed_by rest) c.in_ok-whole_reference.ensures ∙ read
