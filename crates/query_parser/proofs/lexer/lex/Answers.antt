use Rattle.std.proofs.Common.{◌∙◌, map, Vec}
use Rattle.std.proofs.lemmas.List.{map_push}
use Rattle.std.proofs.lemmas.Result.{err_from_is_err_and}
use Rattle.query_parser.proofs.LexProgress.{pushed, started, refusal_is_of_text, tokens_at_end, ends_once, ascend_more, goes_on, text_length-push}
use Rattle.query_parser.specs.declared.lexer.Token.{Token}
use Rattle.query_parser.specs.Token.{seen}
use Rattle.query_model.specs.declared.faults.FaultKind.TheVariants.{Lex}
use Rattle.query_model.specs.Tokens.{IsLexFault, IsSpelledBy, tokens_of}
use Rattle.query_model.proofs.TokenSpelling.{tokens_are_spelled}
use Rattle.query_parser.proofs.AnswerMeanings.{answer_is_meant}
use Rattle.query_parser.proofs.lexer.lex.Goals as goal

pub loop-tokens-init : goal.loop-tokens-init
loop-tokens-init g c = rw c.new-tokens.ensures.items (started c.args.text.now)

pub returns-in_err-token-clause-answers : goal.returns-in_err-token-clause-answers
returns-in_err-token-clause-answers g c =
    let p = err_from_is_err_and c.from_residual.result c.from_residual.ensures.1 in
    rw (p.1, p.2) (refusal_is_of_text c.args.text.now c.loop-tokens.tokens.items c.loop-tokens.at c.loop-tokens.invariant (λ (tokens : Vec Token g.row.A.Denot). map seen tokens.items) _ _ c.in_err-token.ensures.answers)

pub returns-in-End-clause-answers : goal.returns-in-End-clause-answers
returns-in-End-clause-answers g c =
    rw (pushed c.push.result c.map_err.result _ c.push.new.self.items _ _ c.map_err.ensures.variant c.in_ok-map_err.was c.push.ensures.items) (tokens_at_end c.args.text.now c.loop-tokens.tokens.items c.loop-tokens.at c.loop-tokens.invariant c.in_ok-token.token c.in_ok-token.ensures.answers c.in-End.is)

pub returns-in-End-clause-ascend : goal.returns-in-End-clause-ascend
returns-in-End-clause-ascend g c =
    rw (pushed c.push.result c.map_err.result _ c.push.new.self.items _ _ c.map_err.ensures.variant c.in_ok-map_err.was c.push.ensures.items) (ascend_more c.args.text.now c.loop-tokens.tokens.items c.loop-tokens.at c.loop-tokens.invariant c.in_ok-token.token c.in_ok-token.ensures.answers c.in_ok-token.ensures.slice c.in_ok-token.ensures.within.0 c.in_ok-token.ensures.within.1 c.in_ok-token.ensures.within.2)

pub returns-in-End-clause-ended : goal.returns-in-End-clause-ended
returns-in-End-clause-ended g c =
    rw (pushed c.push.result c.map_err.result _ c.push.new.self.items _ _ c.map_err.ensures.variant c.in_ok-map_err.was c.push.ensures.items) (ends_once c.args.text.now c.loop-tokens.tokens.items c.loop-tokens.at c.loop-tokens.invariant c.in_ok-token.token c.in_ok-token.ensures.answers c.in-End.is)

pub returns-in-End-clause-length : goal.returns-in-End-clause-length
returns-in-End-clause-length g c =
    rw (pushed c.push.result c.map_err.result _ c.push.new.self.items _ _ c.map_err.ensures.variant c.in_ok-map_err.was c.push.ensures.items, map_push) (text_length-push (map seen c.loop-tokens.tokens.items) (seen c.in_ok-token.token) ∙ c.in_ok-token.ensures.ends c.in-End.is)

pub loop-tokens-preserved : goal.loop-tokens-preserved
loop-tokens-preserved g c =
    rw (pushed c.push.result c.map_err.result _ c.push.new.self.items _ _ c.map_err.ensures.variant c.in_ok-map_err.was c.push.ensures.items) (goes_on c.args.text.now c.loop-tokens.tokens.items c.loop-tokens.at c.loop-tokens.invariant c.in_ok-token.token c.in_ok-token.ensures.answers c.in_ok-token.ensures.slice c.in_ok-token.ensures.within.0 c.in_ok-token.ensures.within.1 c.in_ok-token.ensures.within.2 c.in_default.not-End (c.in_ok-token.ensures.moves c.in_default.not-End))

pub returns-in_err-token-clause-meaning : goal.returns-in_err-token-clause-meaning
returns-in_err-token-clause-meaning g c =
    let text = c.args.text.now in
    answer_is_meant Lex (λ (tokens : Vec Token g.row.A.Denot). map seen tokens.items) (IsSpelledBy text) (IsLexFault text) c.from_residual.result (tokens_of text) (returns-in_err-token-clause-answers g c)
    (λ ts. ((tokens_are_spelled text).0 ts).0) (λ s. ((tokens_are_spelled text).1 s).0)

pub returns-in-End-clause-meaning : goal.returns-in-End-clause-meaning
returns-in-End-clause-meaning g c = ((tokens_are_spelled c.args.text.now).0 (map seen c.push.new.self.items)).0 (returns-in-End-clause-answers g c)
