use Rattle.std.specs.Int.{w128}
use Rattle.std.proofs.lemmas.Int.{to_z-of_z}
use Rattle.std.proofs.Common.{SFits, rules, take, ap, sym, ◌∙◌}
use Rattle.std.specs.List.{list_all, prefix_len}
use Rattle.query_model.specs.Text.{is_digit}
use Rattle.script_line.specs.Line.{followed_by, unsigned_of_word}
use Rattle.script_line.proofs.Cuts.{cut_behind_digits}
use Rattle.script_line.proofs.Stops.{cut_read, front_passes, no_blank_digit, number_unread}
use Rattle.script_line.proofs.words.unsigned_and_rest.Goals as goal

pub split_at-requires : goal.split_at-requires
split_at-requires c = rw (c.digits_len.ensures ∙ ap (prefix_len is_digit) c.as_bytes.ensures.value) (cut_behind_digits c.args.text.now c.utf8.text)

pub returns-then-not-is_apart-clause-value : goal.returns-then-not-is_apart-clause-value
returns-then-not-is_apart-clause-value c =
    sym (number_unread c.args.text.now c.split_at.result.1.now c.digits_len.result (c.digits_len.ensures ∙ ap (prefix_len is_digit) c.as_bytes.ensures.value)
    c.split_at.ensures.back (sym c.is_apart.ensures ∙ c.if-not-is_apart.true))

pub unsigned_value-requires : goal.unsigned_value-requires
unsigned_value-requires c =
    let text = c.args.text.now in
    let len = c.digits_len.ensures ∙ ap (prefix_len is_digit) c.as_bytes.ensures.value in
    ap (list_all is_digit) (c.as_bytes-2.ensures.value ∙ c.split_at.ensures.front ∙ ap (λ n. take n text) len) ∙ front_passes is_digit text

pub returns-in_err-unsigned_value-clause-value : goal.returns-in_err-unsigned_value-clause-value
returns-in_err-unsigned_value-clause-value c =
    let rest = c.split_at.result.1.now in
    let read = cut_read is_digit no_blank_digit c.args.text.now rest c.digits_len.result (c.digits_len.ensures ∙ ap (prefix_len is_digit) c.as_bytes.ensures.value)
    c.split_at.ensures.back unsigned_of_word c.as_bytes-2.result.now (c.as_bytes-2.ensures.value ∙ c.split_at.ensures.front) (sym c.is_apart.ensures ∙ c.if-not-is_apart.false) in
    rw c.from_residual.ensures (ap (followed_by rest) c.in_err-unsigned_value.ensures.value ∙ read)

pub returns-clause-value : goal.returns-clause-value
returns-clause-value c =
    let rest = c.split_at.result.1.now in
    let read = cut_read is_digit no_blank_digit c.args.text.now rest c.digits_len.result (c.digits_len.ensures ∙ ap (prefix_len is_digit) c.as_bytes.ensures.value)
    c.split_at.ensures.back unsigned_of_word c.as_bytes-2.result.now (c.as_bytes-2.ensures.value ∙ c.split_at.ensures.front) (sym c.is_apart.ensures ∙ c.if-not-is_apart.false) in
    let fits : SFits w128 c.in_ok-unsigned_value.field-0 = search rules in
    rw (to_z-of_z w128 c.in_ok-unsigned_value.field-0 fits) (ap (followed_by rest) c.in_ok-unsigned_value.ensures.value ∙ read)
