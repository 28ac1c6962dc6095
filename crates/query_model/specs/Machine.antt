-- The grammar as a machine that reads one token after another: how many groups are open, what was read of the present
-- item, and what may come next.
use Rattle.std.specs.Prelude.{ℕ, zero, suc, Bool, true, false, List, [], ◌∷◌, codes, bytes_eq, Option, Some, None, Result, Ok, Err, if◌then◌else◌}
use Rattle.query_model.specs.declared.Span.{Span}
use Rattle.query_model.specs.Text.{is_reserved}
use Rattle.query_model.specs.declared.Mark.TheVariants.{Comma, OrOr, Bar, NotEqual, Bang, Question, EqualEqual, OpenParen, CloseParen, OpenBrace, CloseBrace, OpenBracket, CloseBracket, Star, Underscore}
use Rattle.query_model.specs.declared.syntax.Role.{Role}
use Rattle.query_model.specs.declared.syntax.Role.TheVariants.{And, Or, Not, Optional}
use Rattle.query_model.specs.Tokens.{Token, token, span_of, Name, Variable, Punct, End}
use Rattle.query_model.specs.Syntax.{Reference, at, Word, Var, Any, AnyOnce, RiseWord, Up, Cascade, none, flags, TermSyntax, Part, term, opened, closed, equality, component, pair_of, applied, rising, with_target, ended_at}
use Rattle.query_model.specs.Grammar.{is_access, shows_values}

-- what is to come, or what was read last, with what was read of the item
pub data State : Type 0 where
  -- a term; in the role And an item, since nothing stands before it
  term_next : Role → State
  access_next : Role → State
  behind_access_word body_next : Role → Bool → State
  pair_next : Role → Bool → Span → State
  behind_pair_first target_next behind_target behind_flags behind_along : Role → TermSyntax → State
  behind_first source_next : Role → Bool → Reference → State
  behind_source : Role → Bool → Reference → Reference → State
  flags_next behind_self rise_next : Role → Bool → Reference → Option Reference → State
  behind_up along_next : Role → Bool → Reference → Option Reference → Bool → RiseWord → State
  behind_variable : List ℕ → Span → State
  other_side : Reference → Bool → State
  -- after an item, and whether an alternative to it may follow
  behind_item : Bool → State
  finished : State

-- a step: the groups that are open, the state, and the parts that were completed
pub record Move : Type 0 where
  pub depth : ℕ
  pub state : State
  pub parts : List Part

abbrev pub go_to : ℕ → State → Option Move
go_to d s = Some (record { depth = d; state = s; parts = [] })

abbrev pub emit : Part → Option Move → Option Move
emit p None = None
emit p (Some m) = Some (record { depth = m.depth; state = m.state; parts = p ∷ m.parts })

abbrev pub word_of : Token → Option Reference
word_of (token (Name n) s) = if is_reserved n then None else Some (at (Word n) s)
word_of t = None

abbrev pub reference_of : Token → Option Reference
reference_of (token (Variable v) s) = Some (at (Var v) s)
reference_of (token (Punct Star) s) = Some (at Any s)
reference_of (token (Punct Underscore) s) = Some (at AnyOnce s)
reference_of t = word_of t

abbrev pub if_read : Option Reference → (Reference → Option Move) → Option Move → Option Move
if_read (Some r) next other = next r
if_read None next other = other

-- whether alternatives may follow a term in the role
abbrev pub joins : Role → Bool
joins And = true
joins Or = true
joins Not = false
joins Optional = false

abbrev pub alternative_step : Bool → ℕ → Option Move
alternative_step true d = go_to d (term_next Or)
alternative_step false d = None

-- after an item
abbrev pub item_step : ℕ → Bool → Token → Option Move
item_step d may_join (token (Punct OrOr) s) = alternative_step may_join d
item_step d may_join (token (Punct Comma) s) = go_to d (term_next And)
item_step (suc d) may_join (token (Punct CloseBrace) s) = Some (record { depth = d; state = behind_item false; parts = closed ∷ [] })
item_step zero may_join (token End s) = go_to zero finished
item_step d may_join t = None

abbrev pub close_step : ℕ → Role → TermSyntax → Token → Option Move
close_step d role t (token (Punct CloseParen) s) = Some (record { depth = d; state = behind_item (joins role); parts = term role (ended_at t s) ∷ [] })
close_step d role t x = None

abbrev pub target_step : ℕ → Role → TermSyntax → Token → Option Move
target_step d role t x = if_read (reference_of x) (λ r. go_to d (behind_target role (with_target t (Some r)))) None

abbrev pub comma_step : ℕ → Role → TermSyntax → Token → Option Move
comma_step d role t (token (Punct Comma) s) = go_to d (target_next role t)
comma_step d role t x = None

abbrev pub args_step : ℕ → Role → TermSyntax → Token → Option Move
args_step d role t (token (Punct Comma) s) = go_to d (target_next role t)
args_step d role t x = close_step d role t x

abbrev pub along_step : ℕ → Role → TermSyntax → Token → Option Move
along_step d role t (token (Punct CloseParen) s) = go_to d (behind_flags role t)
along_step d role t x = None

module _ (d : ℕ) (role : Role) (shows_value : Bool) where
  module _ (c : Reference) where
    module _ (source : Option Reference) where
      abbrev pub along_next_step : Bool → RiseWord → Token → Option Move
      along_next_step own w x = if_read (word_of x) (λ r. go_to d (behind_along role (rising shows_value c source own w (Some r)))) None

      abbrev pub up_step : Bool → RiseWord → Token → Option Move
      up_step own w (token (Punct OpenParen) s) = go_to d (along_next role shows_value c source own w)
      up_step own w x = if_read (word_of x) (λ r. go_to d (behind_flags role (rising shows_value c source own w (Some r)))) (args_step d role (rising shows_value c source own w None) x)

      abbrev pub rise_word_step : Bool → List ℕ → Span → Option Move
      rise_word_step own n s =
          if bytes_eq n (codes "up") then go_to d (behind_up role shows_value c source own Up)
          else if bytes_eq n (codes "cascade") then go_to d (behind_up role shows_value c source own (Cascade s))
          else None

      abbrev pub rise_step : Token → Option Move
      rise_step (token (Name n) s) = rise_word_step true n s
      rise_step x = None

      abbrev pub self_step : Token → Option Move
      self_step (token (Punct Bar) s) = go_to d (rise_next role shows_value c source)
      self_step x = args_step d role (applied shows_value c source (Some (flags true none))) x

      abbrev pub flags_step : Token → Option Move
      flags_step (token (Name n) s) = if bytes_eq n (codes "self") then go_to d (behind_self role shows_value c source) else rise_word_step false n s
      flags_step x = None

    abbrev pub behind_source_step : Reference → Token → Option Move
    behind_source_step r (token (Punct Bar) s) = go_to d (flags_next role shows_value c (Some r))
    behind_source_step r x = args_step d role (applied shows_value c (Some r) None) x

    abbrev pub source_step : Token → Option Move
    source_step x = if_read (reference_of x) (λ r. go_to d (behind_source role shows_value c r)) (flags_step None x)

    abbrev pub first_step : Token → Option Move
    first_step (token (Punct OpenParen) s) = go_to d (source_next role shows_value c)
    first_step x = emit (term role (component shows_value c)) (item_step d (joins role) x)

  abbrev pub pair_step : Span → Token → Option Move
  pair_step s x = if_read (reference_of x) (λ r. go_to d (behind_pair_first role (pair_of shows_value s r))) None

  -- the first token of a body
  abbrev pub start_step : Token → Option Move
  start_step (token (Punct OpenParen) s) = go_to d (pair_next role shows_value s)
  start_step x = if_read (reference_of x) (λ r. go_to d (behind_first role shows_value r)) None

  abbrev pub bracket_step : Token → Option Move
  bracket_step (token (Punct CloseBracket) s) = go_to d (body_next role shows_value)
  bracket_step x = None

-- a body; where nothing but an access stands before it, perhaps an operator
abbrev pub body_step : ℕ → Role → Bool → Token → Option Move
body_step d And shows_value (token (Punct Bang) s) = go_to d (body_next Not shows_value)
body_step d And shows_value (token (Punct Question) s) = go_to d (body_next Optional shows_value)
body_step d role shows_value x = start_step d role shows_value x

abbrev pub access_step : ℕ → Role → Token → Option Move
access_step d role (token (Name n) s) = if is_access n then go_to d (behind_access_word role (shows_values n)) else None
access_step d role x = None

-- a term, perhaps with an access
abbrev pub plain_term_step : ℕ → Role → Token → Option Move
plain_term_step d role (token (Punct OpenBracket) s) = go_to d (access_next role)
plain_term_step d role x = start_step d role true x

-- a term; where nothing stands before it, perhaps an operator or an equality; after `!` perhaps a group
abbrev pub term_step : ℕ → Role → Token → Option Move
term_step d And (token (Variable v) s) = go_to d (behind_variable v s)
term_step d And (token (Punct Bang) s) = go_to d (term_next Not)
term_step d And (token (Punct Question) s) = go_to d (term_next Optional)
term_step d Not (token (Punct OpenBrace) s) = Some (record { depth = suc d; state = term_next And; parts = opened s ∷ [] })
term_step d role x = plain_term_step d role x

abbrev pub variable_step : ℕ → List ℕ → Span → Token → Option Move
variable_step d v s (token (Punct EqualEqual) e) = go_to d (other_side (at (Var v) s) true)
variable_step d v s (token (Punct NotEqual) e) = go_to d (other_side (at (Var v) s) false)
variable_step d v s x = first_step d And true (at (Var v) s) x

abbrev pub other_step : ℕ → Reference → Bool → Token → Option Move
other_step d r same x = if_read (reference_of x) (λ q. Some (record { depth = d; state = behind_item false; parts = equality r same q ∷ [] })) None

-- the step at a token, if some query goes on with it
abbrev pub step : ℕ → State → Token → Option Move
step d (term_next role) x = term_step d role x
step d (access_next role) x = access_step d role x
step d (behind_access_word role shows_value) x = bracket_step d role shows_value x
step d (body_next role shows_value) x = body_step d role shows_value x
step d (pair_next role shows_value s) x = pair_step d role shows_value s x
step d (behind_pair_first role t) x = comma_step d role t x
step d (target_next role t) x = target_step d role t x
step d (behind_target role t) x = close_step d role t x
step d (behind_flags role t) x = args_step d role t x
step d (behind_along role t) x = along_step d role t x
step d (behind_first role shows_value c) x = first_step d role shows_value c x
step d (source_next role shows_value c) x = source_step d role shows_value c x
step d (behind_source role shows_value c r) x = behind_source_step d role shows_value c r x
step d (flags_next role shows_value c source) x = flags_step d role shows_value c source x
step d (behind_self role shows_value c source) x = self_step d role shows_value c source x
step d (rise_next role shows_value c source) x = rise_step d role shows_value c source x
step d (behind_up role shows_value c source own w) x = up_step d role shows_value c source own w x
step d (along_next role shows_value c source own w) x = along_next_step d role shows_value c source own w x
step d (behind_variable v s) x = variable_step d v s x
step d (other_side r same) x = other_step d r same x
step d (behind_item may_join) x = item_step d may_join x
step d finished x = None

-- a part before those that are read after it
abbrev pub before_part : Part → Result (List Part) Span → Result (List Part) Span
before_part p (Ok ps) = Ok (p ∷ ps)
before_part p (Err span) = Err span

abbrev pub before_parts : List Part → Result (List Part) Span → Result (List Part) Span
before_parts [] r = r
before_parts (p ∷ ps) r = before_part p (before_parts ps r)

-- what next reads after a step, or the token that allows none
abbrev pub behind : Span → (ℕ → State → Result (List Part) Span) → Option Move → Result (List Part) Span
behind span next None = Err span
behind span next (Some m) = before_parts m.parts (next m.depth m.state)

-- without a token left
abbrev pub stopped : State → Result (List Part) Span
stopped finished = Ok []
stopped s = Err (record { start = 0; end = 0 })

-- the parts that are read from a state on, or the first token that allows no step
abbrev pub run : List Token → ℕ → State → Result (List Part) Span
run [] d s = stopped s
run (x ∷ xs) d s = behind (span_of x) (run xs) (step d s x)

-- the parts of a query, or its syntax fault
abbrev pub parts_of : List Token → Result (List Part) Span
parts_of ts = run ts zero (term_next And)
