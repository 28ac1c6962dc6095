-- A token of the code, as the definitions see it.
use Rattle.std.specs.Prelude.{◌≡◌, ℕ, ◌≤◌, List, [], ◌∷◌, All, AllPairs, drop, slice_range}
use Rattle.query_model.specs.Tokens as tokens
use Rattle.query_model.specs.Tokens.{Sign, token, span_of, Punct}
use Rattle.query_parser.specs.declared.lexer.Token.{Token}
use Rattle.query_parser.specs.declared.lexer.TokenKind.{TokenKind}
use Rattle.query_parser.specs.declared.lexer.TokenKind.TheVariants.{Name, Variable, Mark, End}

-- what a token of a kind is, where a text spells it
abbrev pub sign_of : TokenKind → List ℕ → Sign
sign_of Name text = tokens.Name text
sign_of Variable text = tokens.Variable (drop 1 text)
sign_of (Mark m) text = Punct m
sign_of End text = tokens.End

-- the token and where it stands
abbrev pub seen : Token → tokens.Token
seen t = token (sign_of t.kind t.text.now) t.span

-- each token's text is its slice of the source
abbrev pub AreSlicesOf : List ℕ → List Token → Type 0
AreSlicesOf text = All (λ t. t.text.now ≡ slice_range text (t.span).start (t.span).end)

-- each token ends where a later one begins, or before
abbrev pub Ascend : List Token → Type 0
Ascend = AllPairs (λ t u. (t.span).end ≤ (u.span).start)

-- how many bytes the text has, by the end of its last token
abbrev pub text_length : List tokens.Token → ℕ
text_length [] = 0
text_length (t ∷ []) = (span_of t).end
text_length (t ∷ u ∷ ts) = text_length (u ∷ ts)
