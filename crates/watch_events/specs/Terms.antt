-- The events of an observer, decided by its one term.
use Rattle.std.specs.Prelude.{ℕ, Bool, not, ◌&&◌, ◌||◌, List, [], ℤ, Option, None}
use Rattle.ecs_id.specs.Id.{Id, plain}
use Rattle.query_model.specs.declared.query.Term.{Term}
use Rattle.ecs_model.specs.declared.watches.EventKind.{EventKind}
use Rattle.ecs_model.specs.declared.watches.EventKind.TheVariants.{Written}
use Rattle.ecs_model.specs.steps.Outcomes.{Changed}
use Rattle.ecs_model.specs.World.{WorldState, Key, value_of}
use Rattle.ecs_model.specs.rows.Rows.{asks_tag_of_this, matches}
use Rattle.ecs_model.specs.steps.Rules.{prefab, disabled}

-- `held` says which ids an entity holds
module _ (held : ℕ → Id → Bool) where
  -- whether an entity has the tag, and the term doesn't ask for it
  abbrev pub has_unasked : Term → ℕ → ℕ → Bool
  has_unasked t tag e = held e (plain tag) && not (asks_tag_of_this tag t)

  -- whether an observer with this term is notified of a fact
  abbrev pub tells : Term → Key → Bool
  tells t k = matches [] t.component t.target k.1 && not (has_unasked t prefab k.0 || has_unasked t disabled k.0)

-- the facts of an event: added, or with a value that was set
abbrev pub told_facts : Changed → EventKind → List Key
told_facts c Written = c.written
told_facts c kind = c.came

-- the value in the event of a fact
abbrev pub told_value : WorldState → EventKind → Key → Option (List ℤ)
told_value w Written k = value_of w k.0 k.1
told_value w kind k = None
