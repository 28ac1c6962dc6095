-- The states and steps of the code, as the definitions see them.
use Rattle.std.specs.Prelude.{ℕ, ◌+◌, ◌-◌, Bool, List, [], ◌∷◌, ◌++◌, drop, Option, Some, None, option_map}
use Rattle.query_model.specs.Machine as machine
use Rattle.query_model.specs.Syntax as syntax
use Rattle.query_model.specs.Tokens as tokens
use Rattle.query_model.specs.declared.syntax.Role.{Role}
use Rattle.query_parser.specs.declared.machine.Draft.{Draft}
use Rattle.query_parser.specs.declared.machine.State.{State}
use Rattle.query_parser.specs.declared.machine.State.TheVariants.{TermNext, AccessNext, BehindAccessWord, BodyNext, PairNext, BehindPairFirst, TargetNext, BehindTarget, BehindFlags, BehindAlong, BehindFirst, SourceNext, BehindSource, FlagsNext, BehindSelf, RiseNext, BehindUp, AlongNext, BehindVariable, OtherSide, BehindItem, Finished}
use Rattle.query_parser.specs.declared.machine.Move.{Move}
use Rattle.query_parser.specs.declared.machine.Completed.{Completed}
use Rattle.query_parser.specs.declared.machine.Completed.TheVariants.{Nothing, Term, Equality, Opening}
use Rattle.query_parser.specs.declared.machine.Nesting.{Nesting}
use Rattle.query_parser.specs.declared.machine.Nesting.TheVariants.{Same, Opens, Closes}
use Rattle.query_model.specs.Seen.{seen_reference, seen_rise_word, seen_term}

-- a state, with what was read of the item
module _ (d : Draft) where
  abbrev pub first_of : syntax.Reference
  first_of = seen_reference (d.term).component

  abbrev pub source_of : Option syntax.Reference
  source_of = option_map seen_reference (d.term).source

  abbrev pub seen_state : State → machine.State
  seen_state (TermNext role) = machine.term_next role
  seen_state (AccessNext role) = machine.access_next role
  seen_state (BehindAccessWord role v) = machine.behind_access_word role v
  seen_state (BodyNext role v) = machine.body_next role v
  seen_state (PairNext role v) = machine.pair_next role v (d.term).span
  seen_state BehindPairFirst = machine.behind_pair_first d.role (seen_term d.term)
  seen_state TargetNext = machine.target_next d.role (seen_term d.term)
  seen_state BehindTarget = machine.behind_target d.role (seen_term d.term)
  seen_state BehindFlags = machine.behind_flags d.role (seen_term d.term)
  seen_state BehindAlong = machine.behind_along d.role (seen_term d.term)
  seen_state BehindFirst = machine.behind_first d.role (d.term).shows_value first_of
  seen_state SourceNext = machine.source_next d.role (d.term).shows_value first_of
  seen_state BehindSource = machine.behind_source d.role (d.term).shows_value first_of (seen_reference d.last)
  seen_state FlagsNext = machine.flags_next d.role (d.term).shows_value first_of source_of
  seen_state BehindSelf = machine.behind_self d.role (d.term).shows_value first_of source_of
  seen_state RiseNext = machine.rise_next d.role (d.term).shows_value first_of source_of
  seen_state (BehindUp own) = machine.behind_up d.role (d.term).shows_value first_of source_of own (seen_rise_word d.word)
  seen_state (AlongNext own) = machine.along_next d.role (d.term).shows_value first_of source_of own (seen_rise_word d.word)
  seen_state BehindVariable = machine.behind_variable (drop 1 d.name.now) (d.term).span
  seen_state (OtherSide same) = machine.other_side first_of same
  seen_state (BehindItem may_join) = machine.behind_item may_join
  seen_state Finished = machine.finished

  -- the part that a step completes
  abbrev pub seen_part_of : Completed → List syntax.Part
  seen_part_of Nothing = []
  seen_part_of Term = syntax.term d.role (seen_term d.term) ∷ []
  seen_part_of (Equality same) = syntax.equality first_of same (seen_reference d.last) ∷ []
  seen_part_of Opening = syntax.opened (d.term).span ∷ []

  -- and the end of a group, where the step closes one
  abbrev pub completed : Completed → Nesting → List syntax.Part
  completed p Same = seen_part_of p
  completed p Opens = seen_part_of p
  completed p Closes = seen_part_of p ++ syntax.closed ∷ []

  -- a step that completes a part too
  abbrev pub put_first : Completed → Option machine.Move → Option machine.Move
  put_first Nothing o = o
  put_first Term o = machine.emit (syntax.term d.role (seen_term d.term)) o
  put_first (Equality same) o = machine.emit (syntax.equality first_of same (seen_reference d.last)) o
  put_first Opening o = machine.emit (syntax.opened (d.term).span) o

-- the groups that are open after a step
abbrev pub nested : ℕ → Nesting → ℕ
nested d Same = d
nested d Opens = d + 1
nested d Closes = d - 1

abbrev pub seen_step : ℕ → Draft → Move → machine.Move
seen_step depth d m = record { depth = nested depth m.nesting; state = seen_state d m.state; parts = completed d m.part m.nesting }

-- `up` or `cascade`, perhaps after a source and `self`
abbrev pub rise_step : ℕ → Role → Bool → syntax.Reference → Option syntax.Reference → Bool → tokens.Token → Option machine.Move
rise_step d role v c source own (tokens.token (tokens.Name n) s) = machine.rise_word_step d role v c source own n s
rise_step d role v c source own x = None

-- after `up` or `cascade`, where no bracket follows
abbrev pub plain_up_step : ℕ → Role → Bool → syntax.Reference → Option syntax.Reference → Bool → syntax.RiseWord → tokens.Token → Option machine.Move
plain_up_step d role v c source own w x =
    machine.if_read (machine.word_of x) (λ r. machine.go_to d (machine.behind_flags role (syntax.rising v c source own w (Some r)))) (machine.args_step d role (syntax.rising v c source own w None) x)
