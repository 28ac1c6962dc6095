-- Tokens, then parts, then the query; or the fault of the first of these.
use Rattle.std.proofs.Common.{Vec, map, ap, sym, ◌∙◌, Ok}
use Rattle.std.proofs.lemmas.Result.{err_from_is_err_and}
use Rattle.query_parser.specs.declared.lexer.Token.{Token}
use Rattle.query_parser.specs.Token.{seen, text_length}
use Rattle.query_model.specs.declared.syntax.Syntax.{Syntax}
use Rattle.query_model.specs.Seen.{seen_part}
use Rattle.world_query.proofs.Texts.{lex_fault, syntax_fault, as_checked}
use Rattle.world_query.proofs.reading.read_query.Goals as goal

pub returns-in_err-tokens : goal.returns-in_err-tokens
returns-in_err-tokens g c =
    let p = err_from_is_err_and c.from_residual.result c.from_residual.ensures.1 in
    rw (p.1, p.2) (lex_fault {T = Vec Token g.row.B.Denot} c.args.world.now.state c.args.text.now (λ tokens. map seen tokens.items) c.in_err-tokens.field-0.0 c.in_err-tokens.ensures.answers)

pub returns-in_err-syntax : goal.returns-in_err-syntax
returns-in_err-syntax g c =
    let p = err_from_is_err_and c.from_residual-in_err-syntax.result c.from_residual-in_err-syntax.ensures.1 in
    let tokens = c.as_slice.result.now in
    rw (p.1, p.2) (syntax_fault {T = Syntax g.row.B.Denot} c.args.world.now.state c.args.text.now (λ syntax. map seen_part (syntax.parts).items) (map seen tokens) c.in_err-syntax.field-0.0
    (c.in_ok-tokens.ensures.answers ∙ ap (λ ts. Ok (map seen ts)) (sym c.as_slice.ensures.value)) c.in_err-syntax.ensures.answers)

pub returns : goal.returns
returns g c =
    let tokens = c.as_slice.result.now in
    as_checked c.args.world.now.state c.args.text.now (map seen tokens) (map seen_part (c.in_ok-syntax.syntax.parts).items) c.in_ok-syntax.syntax.length
    (c.in_ok-tokens.ensures.answers ∙ ap (λ ts. Ok (map seen ts)) (sym c.as_slice.ensures.value))
    c.in_ok-syntax.ensures.answers
    (c.in_ok-syntax.ensures.length ∙ ap (λ ts. text_length (map seen ts)) c.as_slice.ensures.value ∙ c.in_ok-tokens.ensures.length)
    _ c.check.ensures
