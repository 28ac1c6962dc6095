use Rattle.std.proofs.Common.{Err, map, ap}
use Rattle.query_model.specs.declared.faults.FaultKind.TheVariants.{Syntax}
use Rattle.query_model.specs.Faults.{as_fault}
use Rattle.query_model.specs.Grammar.{IsQuery, IsSyntaxFault}
use Rattle.query_model.specs.Machine.{parts_of}
use Rattle.query_model.proofs.SyntaxFaults.{parts_are_grammatical}
use Rattle.query_parser.specs.Token.{seen}
use Rattle.query_parser.proofs.AnswerMeanings.{answer_is_meant}
use Rattle.query_model.specs.declared.syntax.Syntax as declared
use Rattle.query_model.specs.Seen.{seen_part}
use Rattle.query_parser.proofs.Progress.{if_both, refused, goes_on, finished, unfinished}
use Rattle.query_parser.proofs.parse.Goals as goal

pub returns-in_default-clause-answers : goal.returns-in_default-clause-answers
returns-in_default-clause-answers g c = rw c.unexpected.ensures (ap (as_fault Syntax) (refused c.args.tokens.now c.loop-token.parts.items c.loop-token.token-index c.loop-token.depth c.loop-token.state c.loop-token.draft c.loop-token.invariant _ c.loop-token-test.true c.step.result c.step.new.draft c.step.ensures c.in_default.is))

pub returns-in_default-clause-meaning : goal.returns-in_default-clause-meaning
returns-in_default-clause-meaning g c =
    let ts = map seen c.args.tokens.now in
    let law = parts_are_grammatical ts c.requires in
    answer_is_meant Syntax (λ (syntax : declared.Syntax g.row.A.Denot). map seen_part syntax.parts.items) (IsQuery ts) (IsSyntaxFault ts) (Err c.unexpected.result) (parts_of ts) (returns-in_default-clause-answers g c)
    (λ ps. (law.0 ps).0) (λ s. (law.1 s).0)

pub loop-token-preserved : goal.loop-token-preserved
loop-token-preserved g c =
    goes_on c.args.tokens.now c.loop-token.parts.items c.loop-token.token-index c.loop-token.depth c.loop-token.state c.loop-token.draft c.loop-token.invariant _ c.loop-token-test.true c.step.result c.step.new.draft c.step.ensures c.in-Some.go c.in-Some.is _
    (if_both c.complete.result c.map_err.result _ c.map_err.ensures.variant c.in_ok-map_err.was c.complete.ensures) _ c.nested-depth.ensures

pub returns-in-Finished-clause-answers : goal.returns-in-Finished-clause-answers
returns-in-Finished-clause-answers g c = finished c.args.tokens.now c.loop-token.parts.items c.loop-token.token-index c.loop-token.depth c.loop-token.state c.loop-token.draft c.loop-token.invariant c.loop-token-test.false c.in-Finished.is

pub returns-in-Finished-clause-meaning : goal.returns-in-Finished-clause-meaning
returns-in-Finished-clause-meaning g c = ((parts_are_grammatical (map seen c.args.tokens.now) c.requires).0 (map seen_part c.loop-token.parts.items)).0 (returns-in-Finished-clause-answers g c)

pub returns-clause-answers : goal.returns-clause-answers
returns-clause-answers g c = rw c.unexpected-in_default-state.ensures (ap (as_fault Syntax) (unfinished c.args.tokens.now c.loop-token.parts.items c.loop-token.token-index c.loop-token.depth c.loop-token.state c.loop-token.draft c.loop-token.invariant c.loop-token-test.false c.in_default-state.not-Finished))

pub returns-clause-meaning : goal.returns-clause-meaning
returns-clause-meaning g c =
    let ts = map seen c.args.tokens.now in
    let law = parts_are_grammatical ts c.requires in
    answer_is_meant Syntax (λ (syntax : declared.Syntax g.row.A.Denot). map seen_part syntax.parts.items) (IsQuery ts) (IsSyntaxFault ts) (Err c.unexpected-in_default-state.result) (parts_of ts) (returns-clause-answers g c)
    (λ ps. (law.0 ps).0) (λ s. (law.1 s).0)
