-- The syntax of the code, as the definitions see it.
use Rattle.std.specs.Prelude.{map, option_map, drop}
use Rattle.query_model.specs.Syntax as syntax
use Rattle.query_model.specs.declared.syntax.Spoken.{Spoken}
use Rattle.query_model.specs.declared.syntax.Reference.{Reference}
use Rattle.query_model.specs.declared.syntax.RiseWord.{RiseWord}
use Rattle.query_model.specs.declared.syntax.Rise.{Rise}
use Rattle.query_model.specs.declared.syntax.Flags.{Flags}
use Rattle.query_model.specs.declared.syntax.TermSyntax.{TermSyntax}
use Rattle.query_model.specs.declared.syntax.Part.{Part}
use Rattle.query_model.specs.declared.syntax.Syntax.{Syntax}

-- a variable without its `$`
abbrev pub seen_spoken : Spoken → syntax.Spoken
seen_spoken (Spoken.Word w) = syntax.Word w.now
seen_spoken (Spoken.Variable v) = syntax.Var (drop 1 v.now)
seen_spoken Spoken.Any = syntax.Any
seen_spoken Spoken.AnyOnce = syntax.AnyOnce

abbrev pub seen_reference : Reference → syntax.Reference
seen_reference r = syntax.at (seen_spoken r.spoken) r.span

abbrev pub seen_rise_word : RiseWord → syntax.RiseWord
seen_rise_word RiseWord.Up = syntax.Up
seen_rise_word (RiseWord.Cascade s) = syntax.Cascade s

abbrev pub seen_rise : Rise → syntax.Rise
seen_rise Rise.No = syntax.none
seen_rise (Rise.Up w r) = syntax.up (seen_rise_word w) (option_map seen_reference r)

abbrev pub seen_flags : Flags → syntax.Flags
seen_flags f = syntax.flags f.on_source (seen_rise f.rise)

abbrev pub seen_term : TermSyntax → syntax.TermSyntax
seen_term t = record {
  shows_value = t.shows_value;
  component = seen_reference t.component;
  target = option_map seen_reference t.target;
  source = option_map seen_reference t.source;
  flags = option_map seen_flags t.flags;
  span = t.span;
}

abbrev pub seen_part : Part → syntax.Part
seen_part (Part.Term role t) = syntax.term role (seen_term t)
seen_part (Part.Opened s) = syntax.opened s
seen_part Part.Closed = syntax.closed
seen_part (Part.Equality r same q) = syntax.equality (seen_reference r) same (seen_reference q)

abbrev pub seen_syntax : {A : Type 0} → Syntax A → syntax.Syntax
seen_syntax s = record { parts = map seen_part s.parts.items; length = s.length }
