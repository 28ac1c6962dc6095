-- The tokens of a query's text.
use Rattle.std.specs.Prelude.{◌≡◌, ℕ, zero, suc, ◌+◌, ◌-◌, ◌<◌, ◌≤◌, ◌==◌, Bool, true, false, List, [], ◌∷◌, ◌++◌, length, take, drop, nat_lt, nat_eq, slice_get, codes, IsTrue, Option, Some, None, Result, Ok, Err, option_map, if◌then◌else◌}
use Rattle.std.specs.List.{prefix_len, list_all, starts_with, find}
use Rattle.std.specs.Option.{option_map_or}
use Rattle.query_model.specs.declared.Span.{Span}
use Rattle.query_model.specs.Text.{is_query_blank, is_letter, is_word_byte, is_name_byte, is_spelled}
use Rattle.query_model.specs.declared.Mark.{Mark}
use Rattle.query_model.specs.declared.Mark.TheVariants.{Comma, OrOr, Bar, NotEqual, Bang, Question, EqualEqual, OpenParen, CloseParen, OpenBrace, CloseBrace, OpenBracket, CloseBracket, Star, Underscore}

-- how a mark is spelled
abbrev pub spelling : Mark → List ℕ
spelling Comma = codes ","
spelling OrOr = codes "||"
spelling Bar = codes "|"
spelling NotEqual = codes "!="
spelling Bang = codes "!"
spelling Question = codes "?"
spelling EqualEqual = codes "=="
spelling OpenParen = codes "("
spelling CloseParen = codes ")"
spelling OpenBrace = codes "{"
spelling CloseBrace = codes "}"
spelling OpenBracket = codes "["
spelling CloseBracket = codes "]"
spelling Star = codes "*"
spelling Underscore = codes "_"

-- the marks, each before those that begin it
abbrev pub marks : List Mark
marks = Comma ∷ OrOr ∷ Bar ∷ NotEqual ∷ Bang ∷ Question ∷ EqualEqual ∷ OpenParen ∷ CloseParen ∷ OpenBrace ∷ CloseBrace ∷ OpenBracket ∷ CloseBracket ∷ Star ∷ Underscore ∷ []

-- what a token is: a name, a variable (without its `$`), a mark, or the end of the text
pub data Sign : Type 0 where
  Name Variable : List ℕ → Sign
  Punct : Mark → Sign
  End : Sign

-- a token and where it stands
pub data Token : Type 0 where
  token : Sign → Span → Token

-- where a token stands
abbrev pub span_of : Token → Span
span_of (token s at) = at

-- the bytes that spell a token
abbrev pub spelled : Sign → List ℕ
spelled (Name n) = n
spelled (Variable v) = 36 ∷ v
spelled (Punct m) = spelling m
spelled End = []

-- whether there is such a token
abbrev pub is_sign : Sign → Bool
is_sign (Name n) = is_spelled is_name_byte n
is_sign (Variable v) = is_spelled is_word_byte v
is_sign (Punct m) = true
is_sign End = false

-- whether the bytes spell a token
abbrev pub IsToken : List ℕ → Type 0
IsToken bytes = (s : Sign) × IsTrue (is_sign s) × (spelled s ≡ bytes)

-- no longer prefix of the text spells a token
abbrev pub IsLongest : ℕ → List ℕ → Type 0
IsLongest n text = (k : ℕ) → n < k → k ≤ length text → ¬ IsToken (take k text)

-- the tokens stand in a row at the beginning of the text, whose first byte is at a place, each the longest that can
-- stand there, with blanks between, and rest is what is left
abbrev pub Spells : ℕ → List ℕ → List Token → List ℕ → Type 0
Spells at text [] rest =
    (blanks : List ℕ) × (text ≡ blanks ++ rest) × IsTrue (list_all is_query_blank blanks)
Spells at text (token s span ∷ ts) rest =
    (blanks left : List ℕ) × (text ≡ blanks ++ spelled s ++ left) × IsTrue (list_all is_query_blank blanks) × IsTrue (is_sign s)
    × IsLongest (length (spelled s)) (spelled s ++ left)
    × (span ≡ record { start = at + length blanks; end = at + length blanks + length (spelled s) })
    × Spells (at + length blanks + length (spelled s)) left ts rest

-- the empty part after a text
abbrev pub end_of : List ℕ → Token
end_of text = token End (record { start = length text; end = length text })

-- the text spells the tokens, after which stands its end
abbrev pub IsSpelledBy : List ℕ → List Token → Type 0
IsSpelledBy text tokens = (ts : List Token) × Spells 0 text ts [] × (tokens ≡ ts ++ end_of text ∷ [])

-- how many bytes a character takes, by its first
abbrev pub char_len : ℕ → ℕ
char_len b = if nat_lt b 128 then 1 else if nat_lt b 224 then 2 else if nat_lt b 240 then 3 else 4

-- the first character, after tokens and blanks, at which no token can begin
abbrev pub IsLexFault : List ℕ → Span → Type 0
IsLexFault text span =
    (ts : List Token) × (b : ℕ) × (rest : List ℕ) × Spells 0 text ts (b ∷ rest) × (is_query_blank b ≡ false) × IsLongest 0 (b ∷ rest)
    × (span ≡ record { start = length text - suc (length rest); end = length text - suc (length rest) + char_len b })

-- The same as functions.

-- a variable after its `$`
abbrev pub variable_at : List ℕ → Option Sign
variable_at [] = None
variable_at (b ∷ bs) = if is_letter b then Some (Variable (take (prefix_len is_word_byte (b ∷ bs)) (b ∷ bs))) else None

-- the mark at the beginning of a text
abbrev pub mark_at : List ℕ → Option Sign
mark_at text = option_map Punct (find (λ m. starts_with nat_eq text (spelling m)) marks)

-- the longest token at the beginning of a text, if one begins there
abbrev pub sign_at : List ℕ → Option Sign
sign_at [] = None
sign_at (b ∷ bs) =
    if is_letter b then Some (Name (take (prefix_len is_name_byte (b ∷ bs)) (b ∷ bs)))
    else if b == 36 then variable_at bs
    else mark_at (b ∷ bs)

-- a token before what is read after it
abbrev pub before_rest : Token → Result (List Token) Span → Result (List Token) Span
before_rest t (Ok ts) = Ok (t ∷ ts)
before_rest t (Err span) = Err span

-- the span of the first character of a text that begins at a place
abbrev pub first_char : ℕ → List ℕ → Span
first_char at text = record { start = at; end = at + char_len (option_map_or (λ b. b) (slice_get text 0) 0) }

-- the token at the beginning, if there is one, and then what next reads of the rest
abbrev pub token_then : (ℕ → List ℕ → Result (List Token) Span) → ℕ → List ℕ → Option Sign → Result (List Token) Span
token_then next at text None = Err (first_char at text)
token_then next at text (Some s) =
    let to = at + length (spelled s) in before_rest (token s (record { start = at; end = to })) (next to (drop (length (spelled s)) text))

-- the tokens of a text that begins at a place without blanks
abbrev pub tokens_then : (ℕ → List ℕ → Result (List Token) Span) → ℕ → List ℕ → Result (List Token) Span
tokens_then next at [] = Ok (token End (record { start = at; end = at }) ∷ [])
tokens_then next at (b ∷ bs) = token_then next at (b ∷ bs) (sign_at (b ∷ bs))

-- the tokens of a text that begins at a place, or the first fault; n bounds their number
unfoldable pub tokens_from : ℕ → ℕ → List ℕ → Result (List Token) Span
tokens_from zero at text = Ok []
tokens_from (suc n) at text =
    let blanks = prefix_len is_query_blank text in tokens_then (tokens_from n) (at + blanks) (drop blanks text)

-- the tokens of a text and its end, or the first fault
unfoldable pub tokens_of : List ℕ → Result (List Token) Span
tokens_of text = tokens_from (length text + 1) 0 text
