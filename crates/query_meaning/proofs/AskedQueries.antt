-- A query that a text asks is the checked query of a syntax without faults.
use Rattle.std.specs.Prelude.{◌≡◌, ℕ, List, [], length, None, Result, Ok, Err}
use Rattle.std.proofs.Common.{refl}
use Rattle.query_model.specs.declared.Span.{Span}
use Rattle.query_model.specs.declared.faults.FaultKind.TheVariants.{Lex}
use Rattle.query_model.specs.declared.faults.FaultKind.TheVariants.{Syntax as SyntaxFault}
use Rattle.query_model.specs.Faults.{as_fault, least_from}
use Rattle.query_model.specs.Tokens.{Token, IsSpelledBy, tokens_of}
use Rattle.query_model.specs.Machine.{parts_of}
use Rattle.query_model.specs.Laws.{EndsInEnd}
use Rattle.query_model.specs.Grammar.{IsQuery}
use Rattle.query_model.specs.Syntax.{Part, Syntax}
use Rattle.query_model.specs.Check.{Known, faults}
use Rattle.query_model.specs.Query.{Query, check_of, checked, checked_query, parts_read, query_of}
use Rattle.query_model.proofs.SoundTerms.{answered, no_faults}
use Rattle.query_model.proofs.TokenSpelling.{tokens_are_spelled}
use Rattle.query_model.proofs.SyntaxFaults.{parts_are_grammatical}

module _ (k : Known) where
  -- a checked query's syntax has no faults
  pub checked_faultless : (s : Syntax) (q : Query) → check_of k s ≡ Ok q → (faults k s.parts ≡ []) × (checked_query k s ≡ q)
  checked_faultless s q e = let a = answered k s q (least_from None (faults k s.parts)) e in (no_faults (faults k s.parts) a.0, a.1)

  -- the query of a syntax of tokens
  abbrev pub IsAsked : Query → Type 0
  IsAsked q = (ts : List Token) × (s : Syntax) × (IsQuery ts s.parts) × (check_of k s ≡ Ok q)

  ends : (text : List ℕ) (ts : List Token) → IsSpelledBy text ts → EndsInEnd ts
  ends text ts (front, spells, same) = (front, record { start = length text; end = length text }, same)

  module _ (text : List ℕ) (q : Query) where
    asked_parts : (ts : List Token) → EndsInEnd ts → (r : Result (List Part) Span) → parts_of ts ≡ r → checked k (length text) (as_fault SyntaxFault r) ≡ Ok q → IsAsked q
    asked_parts ts end (Ok ps) is e = (ts, record { parts = ps; length = length text }, ((parts_are_grammatical ts end).0 ps).0 is, e)
    asked_parts ts end (Err s) is e = absurd (cc)

    asked_tokens : (r : Result (List Token) Span) → tokens_of text ≡ r → checked k (length text) (parts_read (as_fault Lex r)) ≡ Ok q → IsAsked q
    asked_tokens (Ok ts) is e = asked_parts ts (ends text ts (((tokens_are_spelled text).0 ts).0 is)) (parts_of ts) refl e
    asked_tokens (Err s) is e = absurd (cc)

  pub asked : (text : List ℕ) (q : Query) → query_of k text ≡ Ok q → IsAsked q
  unfolding query_of
  asked text q e = asked_tokens text q (tokens_of text) refl e
