-- The references of a query's parts, and what each is to its part.
use Rattle.std.specs.Prelude.{List, [], ◌++◌, map, Option, Some, None, option_to_list}
use Rattle.query_model.specs.declared.query.Position.{Position}
use Rattle.query_model.specs.declared.query.Position.TheVariants.{Component, Source, Target, Risen, Left, Right}
use Rattle.query_model.specs.Syntax.{Reference, Rise, none, up, Flags, TermSyntax, Part, term, equality}

-- a reference, and what it is to its part
pub record Use : Type 0 where
  pub position : Position
  pub reference : Reference

-- a reference that is written, or none
abbrev pub written : Position → Option Reference → List Use
written position r = map (λ x. record { position = position; reference = x }) (option_to_list r)

abbrev pub rise_of : Option Flags → Rise
rise_of None = none
rise_of (Some f) = f.rise

abbrev pub along_what : Rise → Option Reference
along_what none = None
along_what (up w r) = r

-- the relationship that is written after `up` or `cascade`
abbrev pub risen : TermSyntax → Option Reference
risen t = along_what (rise_of t.flags)

-- the references of a term, as far as they are written, in the order of the text
abbrev pub uses_of_term : TermSyntax → List Use
uses_of_term t = written Component (Some t.component) ++ written Source t.source ++ written Risen (risen t) ++ written Target t.target

abbrev pub uses_of : Part → List Use
uses_of (term role t) = uses_of_term t
uses_of (equality v same r) = written Left (Some v) ++ written Right (Some r)
uses_of p = []
