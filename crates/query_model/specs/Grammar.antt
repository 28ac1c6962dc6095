-- The grammar of queries: each form stands between the tokens before and after it, with its syntax.
use Rattle.std.specs.Prelude.{◌≡◌, ℕ, Bool, true, false, not, List, [], ◌∷◌, ◌++◌, Option, Some, None, codes, bytes_eq}
use Rattle.std.specs.List.{list_any}
use Rattle.query_model.specs.declared.Span.{Span}
use Rattle.query_model.specs.Text.{is_reserved}
use Rattle.query_model.specs.declared.Mark.TheVariants.{Comma, OrOr, Bar, NotEqual, Bang, Question, EqualEqual, OpenParen, CloseParen, OpenBrace, CloseBrace, OpenBracket, CloseBracket, Star, Underscore}
use Rattle.query_model.specs.declared.syntax.Role.{Role}
use Rattle.query_model.specs.declared.syntax.Role.TheVariants.{And, Or, Not, Optional}
use Rattle.query_model.specs.Tokens.{Token, token, span_of, Name, Variable, Punct, End}
use Rattle.query_model.specs.Syntax.{Reference, at, Word, Var, Any, AnyOnce, RiseWord, Up, Cascade, Rise, none, up, Flags, flags, TermSyntax, Part, term, opened, closed, equality, component, pair_of, applied, with_target, ended_at}

-- the words of accesses; `none` hides values
abbrev pub access_words : List (List ℕ)
access_words = codes "in" ∷ codes "out" ∷ codes "inout" ∷ codes "none" ∷ []

abbrev pub is_access : List ℕ → Bool
is_access w = list_any (bytes_eq w) access_words

abbrev pub shows_values : List ℕ → Bool
shows_values w = not (bytes_eq w (codes "none"))

-- a word that can name an entity
pub data IsWord : Token → Reference → Type 0 where
  plain_word : {n : List ℕ} {s : Span} → is_reserved n ≡ false → IsWord (token (Name n) s) (at (Word n) s)

-- ref: a word, a variable, `*` or `_`; always one token
pub data IsReference : Token → Reference → Type 0 where
  word : {t : Token} {r : Reference} → IsWord t r → IsReference t r
  variable : {v : List ℕ} {s : Span} → IsReference (token (Variable v) s) (at (Var v) s)
  star : {s : Span} → IsReference (token (Punct Star) s) (at Any s)
  underscore : {s : Span} → IsReference (token (Punct Underscore) s) (at AnyOnce s)

-- `up` or `cascade`
pub data IsRiseWord : Token → RiseWord → Type 0 where
  word_up : {s : Span} → IsRiseWord (token (Name (codes "up")) s) Up
  word_cascade : {s : Span} → IsRiseWord (token (Name (codes "cascade")) s) (Cascade s)

-- rise: `up`, `up R` or `up(R)`, or the same with `cascade`
pub data IsRise : List Token → List Token → Rise → Type 0 where
  up_alone : {u : Token} {w : RiseWord} {ts : List Token} → IsRiseWord u w → IsRise (u ∷ ts) ts (up w None)
  up_along : {u a : Token} {w : RiseWord} {r : Reference} {ts : List Token} → IsRiseWord u w → IsWord a r → IsRise (u ∷ a ∷ ts) ts (up w (Some r))
  up_in_brackets : {u a : Token} {w : RiseWord} {s1 s2 : Span} {r : Reference} {ts : List Token} → IsRiseWord u w → IsWord a r
      → IsRise (u ∷ token (Punct OpenParen) s1 ∷ a ∷ token (Punct CloseParen) s2 ∷ ts) ts (up w (Some r))

-- flags: `self`, a rise, or `self|` and a rise
pub data IsFlags : List Token → List Token → Flags → Type 0 where
  self_alone : {s : Span} {ts : List Token} → IsFlags (token (Name (codes "self")) s ∷ ts) ts (flags true none)
  rise_alone : {ts us : List Token} {r : Rise} → IsRise ts us r → IsFlags ts us (flags false r)
  self_or_rise : {s s1 : Span} {ts us : List Token} {r : Rise} → IsRise ts us r → IsFlags (token (Name (codes "self")) s ∷ token (Punct Bar) s1 ∷ ts) us (flags true r)

-- source: a reference, flags, or both with `|` between
pub data IsSource : List Token → List Token → Option Reference → Option Flags → Type 0 where
  reference_alone : {a : Token} {r : Reference} {ts : List Token} → IsReference a r → IsSource (a ∷ ts) ts (Some r) None
  flags_alone : {ts us : List Token} {f : Flags} → IsFlags ts us f → IsSource ts us None (Some f)
  reference_with_flags : {a : Token} {r : Reference} {s : Span} {ts us : List Token} {f : Flags} → IsReference a r → IsFlags ts us f
      → IsSource (a ∷ token (Punct Bar) s ∷ ts) us (Some r) (Some f)

-- args: a source, or a source and a target
pub data IsArgs : List Token → List Token → Option Reference → Option Flags → Option Reference → Type 0 where
  source_alone : {ts us : List Token} {r : Option Reference} {f : Option Flags} → IsSource ts us r f → IsArgs ts us r f None
  source_and_target : {s : Span} {b : Token} {t : Reference} {ts us : List Token} {r : Option Reference} {f : Option Flags} → IsSource ts (token (Punct Comma) s ∷ b ∷ us) r f → IsReference b t
      → IsArgs ts us r f (Some t)

-- body: `C`, `(R,T)`, or `C(args)`
pub data IsBody (shows_value : Bool) : List Token → List Token → TermSyntax → Type 0 where
  alone : {a : Token} {r : Reference} {ts : List Token} → IsReference a r → IsBody shows_value (a ∷ ts) ts (component shows_value r)
  pair : {s1 s2 s3 : Span} {a b : Token} {r t : Reference} {ts : List Token} → IsReference a r → IsReference b t
      → IsBody shows_value (token (Punct OpenParen) s1 ∷ a ∷ token (Punct Comma) s2 ∷ b ∷ token (Punct CloseParen) s3 ∷ ts) ts (ended_at (with_target (pair_of shows_value s1 r) (Some t)) s3)
  with_args : {s1 s2 : Span} {a : Token} {c : Reference} {ts us : List Token} {r : Option Reference} {f : Option Flags} {t : Option Reference}
      → IsReference a c → IsArgs ts (token (Punct CloseParen) s2 ∷ us) r f t
      → IsBody shows_value (a ∷ token (Punct OpenParen) s1 ∷ ts) us (ended_at (with_target (applied shows_value c r f) t) s2)

-- access: `[in]`, `[out]`, `[inout]` or `[none]`, and whether values are shown
pub data IsAccess : List Token → List Token → Bool → Type 0 where
  access : {n : List ℕ} {s1 s s2 : Span} {ts : List Token} → is_access n ≡ true → IsAccess (token (Punct OpenBracket) s1 ∷ token (Name n) s ∷ token (Punct CloseBracket) s2 ∷ ts) ts (shows_values n)

-- aterm: a body, or an access and a body
pub data IsTerm : List Token → List Token → TermSyntax → Type 0 where
  body : {ts us : List Token} {t : TermSyntax} → IsBody true ts us t → IsTerm ts us t
  body_behind_access : {ts us vs : List Token} {v : Bool} {t : TermSyntax} → IsAccess ts us v → IsBody v us vs t → IsTerm ts vs t

-- chain: terms with `||` between, the first in a role of its own; each form from here on with the parts after it, and
-- with its own before those
pub data IsChain : Role → List Token → List Token → List Part → List Part → Type 0 where
  last_alternative : {role : Role} {ts us : List Token} {t : TermSyntax} {ps : List Part} → IsTerm ts us t → IsChain role ts us ps (term role t ∷ ps)
  alternative : {role : Role} {s : Span} {ts us vs : List Token} {t : TermSyntax} {ps qs : List Part} → IsTerm ts (token (Punct OrOr) s ∷ us) t → IsChain Or us vs ps qs
      → IsChain role ts vs ps (term role t ∷ qs)

-- op: `!` or `?`
pub data IsOperator : Token → Role → Type 0 where
  bang : {s : Span} → IsOperator (token (Punct Bang) s) Not
  question : {s : Span} → IsOperator (token (Punct Question) s) Optional

-- `==` or `!=`
pub data IsEquals : Token → Bool → Type 0 where
  equal : {s : Span} → IsEquals (token (Punct EqualEqual) s) true
  differ : {s : Span} → IsEquals (token (Punct NotEqual) s) false

mutual
  -- item: a chain, a term after an operator, perhaps with an access before that, a negated group, or an equality
  pub data IsItem : List Token → List Token → List Part → List Part → Type 0 where
    terms : {ts us : List Token} {ps qs : List Part} → IsChain And ts us ps qs → IsItem ts us ps qs
    operator : {o : Token} {role : Role} {ts us : List Token} {t : TermSyntax} {ps : List Part} → IsOperator o role → IsTerm ts us t → IsItem (o ∷ ts) us ps (term role t ∷ ps)
    operator_behind_access : {o : Token} {role : Role} {ts us vs : List Token} {v : Bool} {t : TermSyntax} {ps : List Part} → IsAccess ts (o ∷ us) v → IsOperator o role → IsBody v us vs t
        → IsItem ts vs ps (term role t ∷ ps)
    group : {s1 s2 s3 : Span} {ts us : List Token} {ps qs : List Part} → IsItems ts (token (Punct CloseBrace) s3 ∷ us) (closed ∷ ps) qs
        → IsItem (token (Punct Bang) s1 ∷ token (Punct OpenBrace) s2 ∷ ts) us ps (opened s2 ∷ qs)
    equation : {v : List ℕ} {s : Span} {e a : Token} {same : Bool} {r : Reference} {ts : List Token} {ps : List Part} → IsEquals e same → IsReference a r
        → IsItem (token (Variable v) s ∷ e ∷ a ∷ ts) ts ps (equality (at (Var v) s) same r ∷ ps)

  -- items: one or more, with `,` between
  pub data IsItems : List Token → List Token → List Part → List Part → Type 0 where
    last_item : {ts us : List Token} {ps qs : List Part} → IsItem ts us ps qs → IsItems ts us ps qs
    item : {s : Span} {ts us vs : List Token} {ps qs rs : List Part} → IsItem ts (token (Punct Comma) s ∷ us) qs rs → IsItems us vs ps qs → IsItems ts vs ps rs

-- query: items, and the end of the text
abbrev pub IsQuery : List Token → List Part → Type 0
IsQuery ts parts = (s : Span) × IsItems ts (token End s ∷ []) [] parts

-- some query begins with the tokens
abbrev pub BeginsQuery : List Token → Type 0
BeginsQuery front = (more : List Token) × (parts : List Part) × IsQuery (front ++ more) parts

-- the first token such that some query begins with the tokens before it and none with those through it
abbrev pub IsSyntaxFault : List Token → Span → Type 0
IsSyntaxFault ts span =
    (front : List Token) × (t : Token) × (rest : List Token) × (ts ≡ front ++ t ∷ rest) × BeginsQuery front × (BeginsQuery (front ++ t ∷ []) → ⊥) × (span ≡ span_of t)
