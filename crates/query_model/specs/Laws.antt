-- What is proved of the tokens and the syntax.
use Rattle.std.specs.Prelude.{◌≡◌, ◌↔◌, ℕ, List, [], ◌∷◌, ◌++◌, Ok, Err}
use Rattle.query_model.specs.declared.Span.{Span}
use Rattle.query_model.specs.Tokens.{Token, token, End, tokens_of, IsSpelledBy, IsLexFault}
use Rattle.query_model.specs.Syntax.{Part}
use Rattle.query_model.specs.Grammar.{IsQuery, IsSyntaxFault}
use Rattle.query_model.specs.Machine.{parts_of}

-- a text spells at most one list of tokens
abbrev pub OneSpelling : Type 0
OneSpelling = (text : List ℕ) (ts us : List Token) → IsSpelledBy text ts → IsSpelledBy text us → ts ≡ us

-- the function of tokens gives what their spelling says
abbrev pub TokensAreSpelled : Type 0
TokensAreSpelled = (text : List ℕ) → ((ts : List Token) → (tokens_of text ≡ Ok ts) ↔ IsSpelledBy text ts) × ((s : Span) → (tokens_of text ≡ Err s) ↔ IsLexFault text s)

-- a list of tokens has at most one syntax
abbrev pub OneSyntax : Type 0
OneSyntax = (ts : List Token) (ps qs : List Part) → IsQuery ts ps → IsQuery ts qs → ps ≡ qs

-- tokens of which the last is the end
abbrev pub EndsInEnd : List Token → Type 0
EndsInEnd ts = (front : List Token) × (s : Span) × (ts ≡ front ++ token End s ∷ [])

-- the machine gives what the grammar says
abbrev pub PartsAreGrammatical : Type 0
PartsAreGrammatical = (ts : List Token) → EndsInEnd ts → ((ps : List Part) → (parts_of ts ≡ Ok ps) ↔ IsQuery ts ps) × ((s : Span) → (parts_of ts ≡ Err s) ↔ IsSyntaxFault ts s)
