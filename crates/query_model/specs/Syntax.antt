-- The syntax of a query: a flat list of parts, and the length of its text.
use Rattle.std.specs.Prelude.{ℕ, Bool, List, Option, Some, None}
use Rattle.query_model.specs.declared.Span.{Span}
use Rattle.query_model.specs.declared.syntax.Role.{Role}

-- how a reference is written: a name, a variable, `*` or `_`
pub data Spoken : Type 0 where
  Word Var : List ℕ → Spoken
  Any AnyOnce : Spoken

-- a reference and where it stands
pub record Reference : Type 0 where
  pub spoken : Spoken
  pub span : Span

abbrev pub at : Spoken → Span → Reference
at w s = record { spoken = w; span = s }

-- the word by which ancestors are asked for: `up`, or `cascade` with its place
pub data RiseWord : Type 0 where
  Up : RiseWord
  Cascade : Span → RiseWord

-- what is written of ancestors: nothing, or such a word with its relationship, if one is written
pub data Rise : Type 0 where
  none : Rise
  up : RiseWord → Option Reference → Rise

-- written flags: whether `self` is among them, and what is written of ancestors
pub record Flags : Type 0 where
  pub on_source : Bool
  pub rise : Rise

abbrev pub flags : Bool → Rise → Flags
flags on_source rise = record { on_source = on_source; rise = rise }

-- a term: whether its values are shown, its component, its target, its source and its flags where they are written, and from its first to its last token
pub record TermSyntax : Type 0 where
  pub shows_value : Bool
  pub component : Reference
  pub target : Option Reference
  pub source : Option Reference
  pub flags : Option Flags
  pub span : Span

-- the parts of a query in the order of the text: a term (each alternative of a chain is one, the first in the role And), a group's `{`, its end, an equality with its sign, true for `==`
pub data Part : Type 0 where
  term : Role → TermSyntax → Part
  opened : Span → Part
  closed : Part
  equality : Reference → Bool → Reference → Part

pub record Syntax : Type 0 where
  pub parts : List Part
  -- how many bytes the text has
  pub length : ℕ

-- a term that is its component alone
abbrev pub component : Bool → Reference → TermSyntax
component shows_value r = record { shows_value = shows_value; component = r; target = None; source = None; flags = None; span = r.span }

-- a pair without its target, which begins with a bracket
abbrev pub pair_of : Bool → Span → Reference → TermSyntax
pair_of shows_value s r = record { shows_value = shows_value; component = r; target = None; source = None; flags = None; span = s }

-- a term with a source or flags, without a target
abbrev pub applied : Bool → Reference → Option Reference → Option Flags → TermSyntax
applied shows_value r source f = record { shows_value = shows_value; component = r; target = None; source = source; flags = f; span = r.span }

-- and with `up` or `cascade`, perhaps after `self`
abbrev pub rising : Bool → Reference → Option Reference → Bool → RiseWord → Option Reference → TermSyntax
rising shows_value c source on_source w along = applied shows_value c source (Some (flags on_source (up w along)))

abbrev pub with_target : TermSyntax → Option Reference → TermSyntax
with_target t r = record { shows_value = t.shows_value; component = t.component; target = r; source = t.source; flags = t.flags; span = t.span }

-- a term whose last token stands here
abbrev pub ended_at : TermSyntax → Span → TermSyntax
ended_at t s = record { shows_value = t.shows_value; component = t.component; target = t.target; source = t.source; flags = t.flags; span = record { start = (t.span).start; end = s.end } }
