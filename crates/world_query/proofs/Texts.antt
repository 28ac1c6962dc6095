-- From a text to its query, step by step.
use Rattle.std.specs.Prelude.{◌≡◌, ℕ, List, length, Result, Ok, Err}
use Rattle.std.proofs.Common.{ap, sym, ◌∙◌}
use Rattle.query_model.specs.declared.faults.QueryFault.{QueryFault}
use Rattle.query_model.specs.declared.faults.QueryFault.TheVariants.{Fault, Memory}
use Rattle.query_model.specs.declared.faults.FaultKind.TheVariants.{Lex, Syntax}
use Rattle.query_model.specs.Faults.{as_fault}
use Rattle.query_model.specs.Machine.{parts_of}
use Rattle.query_model.specs.Query.{Query, check_of, checked, parts_read}
use Rattle.query_model.specs.Query as asked
use Rattle.query_model.specs.Syntax.{Part}
use Rattle.query_model.specs.Tokens.{Token, tokens_of}
use Rattle.query_parser.specs.Lexed.{Answers}
use Rattle.query_check.specs.Seen.{AnswersCheck, syntax_of}
use Rattle.ecs_model.specs.World.{WorldState}
use Rattle.ecs_model.specs.Query.{known_of, query_of}
use Rattle.world_query.specs.Reading.{AnswersAsked}

module _ {T : Type 0} (w : WorldState) (text : List ℕ) where
  pub lex_fault : (view : T → List Token) (e : QueryFault) → Answers Lex view (Err e) (tokens_of text) → AnswersAsked w text (Err e)
  unfolding asked.query_of
  lex_fault view (Fault f) h = ap (λ r. checked (known_of w) (length text) (parts_read r)) h
  lex_fault view Memory h = tt

  pub syntax_fault : (view : T → List Part) (ts : List Token) (e : QueryFault) → tokens_of text ≡ Ok ts → Answers Syntax view (Err e) (parts_of ts) → AnswersAsked w text (Err e)
  unfolding asked.query_of
  syntax_fault view ts (Fault f) p h = ap (λ r. checked (known_of w) (length text) (parts_read (as_fault Lex r))) p ∙ ap (λ r. checked (known_of w) (length text) r) h
  syntax_fault view ts Memory p h = tt

module _ (w : WorldState) (text : List ℕ) (ts : List Token) (ps : List Part) (n : ℕ) (lexed : tokens_of text ≡ Ok ts) (parsed : parts_of ts ≡ Ok ps) (whole : n ≡ length text) where
  -- what the check is asked
  read : query_of w text ≡ check_of (known_of w) (syntax_of ps n)
  unfolding asked.query_of
  read =
      ap (λ r. checked (known_of w) (length text) (parts_read (as_fault Lex r))) lexed ∙ ap (λ r. checked (known_of w) (length text) (as_fault Syntax r)) parsed
      ∙ ap (λ k. check_of (known_of w) (syntax_of ps k)) (sym whole)

  pub as_checked : (r : Result Query QueryFault) → AnswersCheck (known_of w) (syntax_of ps n) r → AnswersAsked w text r
  as_checked (Ok q) h = read ∙ h
  as_checked (Err (Fault f)) h = read ∙ h
  as_checked (Err Memory) h = tt
