use Rattle.std.proofs.Common.{◌≡◌, ◌∷◌, ◌++◌, Some, true, false, take, ap, sym, ◌∙◌, arith}
use Rattle.std.specs.List.{list_any, position_or_len}
use Rattle.std.proofs.lemmas.Str.Pattern.{strip_prefix_char}
use Rattle.ecs_model.specs.Script.{is_apart}
use Rattle.script_line.specs.Line.{ends_reference}
use Rattle.ecs_model.specs.References.{seen_reference}
use Rattle.script_line.proofs.ClosePairs.{cut_before_byte, read_close}
use Rattle.script_line.proofs.Cuts.{cut_at_end}
use Rattle.script_line.proofs.Stops.{none_ends}
use Rattle.script_line.proofs.references.close_pair_and_rest.Goals as goal

pub split_at-requires : goal.split_at-requires
split_at-requires c = rw (c.reference_len.ensures ∙ ap (position_or_len ends_reference) c.as_bytes.ensures.value) (cut_at_end c.args.text.now)

pub split_at-requires-2 : goal.split_at-requires-2
split_at-requires-2 c = rw (c.reference_len-2.ensures ∙ ap (position_or_len ends_reference) c.as_bytes-2.ensures.value) (cut_at_end c.in_ok-behind.behind.now)

pub whole_reference-requires : goal.whole_reference-requires
whole_reference-requires c =
    let text = c.args.text.now in
    ap (list_any ends_reference) (c.split_at.ensures.front ∙ ap (λ n. take n text) (c.reference_len.ensures ∙ ap (position_or_len ends_reference) c.as_bytes.ensures.value)) ∙ none_ends text

pub whole_reference-requires-2 : goal.whole_reference-requires-2
whole_reference-requires-2 c =
    let text = c.in_ok-behind.behind.now in
    ap (list_any ends_reference) (c.split_at-2.ensures.front ∙ ap (λ n. take n text) (c.reference_len-2.ensures ∙ ap (position_or_len ends_reference) c.as_bytes-2.ensures.value)) ∙ none_ends text

pub returns : goal.returns
returns c =
    let text = c.args.text.now in
    let behind = c.in_ok-behind.behind.now in
    let rest = c.in_ok-rest.rest.now in
    let first = c.split_at.result.0.now in
    let second = c.split_at-2.result.0.now in
    let r_stands : list_any ends_reference first ≡ false =
    ap (list_any ends_reference) (c.split_at.ensures.front ∙ ap (λ n. take n text) (c.reference_len.ensures ∙ ap (position_or_len ends_reference) c.as_bytes.ensures.value)) ∙ none_ends text in
    let t_stands : list_any ends_reference second ≡ false =
    ap (list_any ends_reference) (c.split_at-2.ensures.front ∙ ap (λ n. take n behind) (c.reference_len-2.ensures ∙ ap (position_or_len ends_reference) c.as_bytes-2.ensures.value)) ∙ none_ends behind in
    let comma : c.split_at.result.1.now ≡ 44 ∷ behind = strip_prefix_char 44 c.split_at.result.1.now (Some c.in_ok-behind.behind) c.in_ok-behind.ensures.cases (omega arith) in
    let bracket : c.split_at-2.result.1.now ≡ 41 ∷ rest = strip_prefix_char 41 c.split_at-2.result.1.now (Some c.in_ok-rest.rest) c.in_ok-rest.ensures.cases (omega arith) in
    let whole : text ≡ first ++ 44 ∷ (second ++ 41 ∷ rest) =
    cut_before_byte text first c.split_at.result.1.now behind c.reference_len.result 44 c.split_at.ensures.front c.split_at.ensures.back comma
    ∙ ap (λ w. first ++ 44 ∷ w) (cut_before_byte behind second c.split_at-2.result.1.now rest c.reference_len-2.result 41 c.split_at-2.ensures.front c.split_at-2.ensures.back bracket) in
    let apart : is_apart rest ≡ true = sym c.is_apart.ensures ∙ c.if-not-is_apart.false in
    read_close first second rest r_stands t_stands text (seen_reference c.in_ok-relationship.relationship) (seen_reference c.in_ok-target.target) whole apart c.in_ok-relationship.ensures c.in_ok-target.ensures
