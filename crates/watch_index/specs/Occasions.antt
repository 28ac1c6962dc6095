-- The occasions that a stored query listens for, and the occasions that the changes of a command are.
use Rattle.std.specs.Prelude.{ℕ, Bool, List, [], ◌∷◌, ◌++◌, map, flat_map, Option, Some, None, option_map, if◌then◌else◌}
use Rattle.ecs_id.specs.Id.{Id}
use Rattle.id_pattern.specs.declared.Part.{Part}
use Rattle.id_pattern.specs.declared.Part.TheVariants as part
use Rattle.id_pattern.specs.declared.Pattern.{Pattern}
use Rattle.component_index.specs.Listed.{patterns_of}
use Rattle.ecs_model.specs.declared.watches.StoredKind.{StoredKind}
use Rattle.ecs_model.specs.declared.watches.StoredKind.TheVariants.{Kept, Monitor, OnAdd, OnRemove, OnSet}
use Rattle.ecs_model.specs.World.{Key}
use Rattle.watch_concerns.specs.Anchored.{is_anchored}
use Rattle.watch_concerns.specs.Concerns.{is_asked_by_all}
use Rattle.query_model.specs.declared.query.Ref.{Ref}
use Rattle.query_model.specs.declared.query.Ref.TheVariants as ref
use Rattle.query_model.specs.declared.query.Term.{Term}
use Rattle.query_model.specs.Query.{Query}
use Rattle.query_check.specs.Terms.{terms}
use Rattle.watch_index.specs.declared.occasion.Occasion.{Occasion}
use Rattle.watch_index.specs.declared.occasion.Occasion.TheVariants.{Life, AskedByAll, Fact}
use Rattle.watch_index.specs.declared.occasion.Way.{Way}
use Rattle.watch_index.specs.declared.occasion.Way.TheVariants.{Moves, IsWritten}

-- ---- the occasions that a stored query listens for

-- what a reference may stand for; a variable may stand for any entity, and `_` counts as `*`
abbrev pub part_of : Ref → Part
part_of (ref.Is e) = part.Is e
part_of (ref.Var v) = part.Any
part_of ref.Any = part.Any
part_of ref.AnyOnce = part.Any

-- the ids that a term may match
abbrev pub pattern_of : Ref → Option Ref → Pattern
pattern_of first target = record { first = part_of first; second = option_map part_of target }

-- all pairs of a relationship
abbrev pub pairs_of : Part → Pattern
pairs_of r = record { first = r; second = Some part.Any }

module _ (way : Way) where
  -- the pairs along which a term goes up to ancestors
  abbrev pub up_occasions : Option ℕ → List Occasion
  up_occasions None = []
  up_occasions (Some r) = Fact way (pairs_of (part.Is r)) ∷ []

  -- the pairs that a closed term follows
  abbrev pub closed_occasions : Term → List Occasion
  closed_occasions t = if t.closed then Fact way (pairs_of (part_of t.component)) ∷ [] else []

  abbrev pub term_occasions : Term → List Occasion
  term_occasions t = Fact way (pattern_of t.component t.target) ∷ (up_occasions t.up ++ closed_occasions t)

-- for a monitor: facts that its terms may match, go up along or follow, facts that concern every query, and created and
-- deleted entities unless the query is anchored
abbrev pub of_monitors : Query → List Occasion
of_monitors q = flat_map (term_occasions Moves) (terms q) ++ AskedByAll ∷ (if is_anchored q then [] else Life ∷ [])

-- for each kind; the one term of an observer is judged by its id alone
abbrev pub occasions_of : StoredKind → Query → List Occasion
occasions_of Kept q = []
occasions_of Monitor q = of_monitors q
occasions_of OnAdd q = flat_map (term_occasions Moves) (terms q)
occasions_of OnRemove q = flat_map (term_occasions Moves) (terms q)
occasions_of OnSet q = flat_map (term_occasions IsWritten) (terms q)

-- ---- the occasions that changes are

-- for a change of a fact, by each pattern that matches its id
abbrev pub facts_of : Way → Id → List Occasion
facts_of way i = map (Fact way) (patterns_of i)

-- if the id is one that concerns every query
abbrev pub of_all : Id → List Occasion
of_all i = if is_asked_by_all i then AskedByAll ∷ [] else []

-- for an added or removed fact
abbrev pub moved : Id → List Occasion
moved i = of_all i ++ facts_of Moves i

-- for created or deleted entities, for added and removed facts, and for facts whose values were set
abbrev pub happening : Bool → List Key → List Key → List Key → List Occasion
happening lives came went written =
    (if lives then Life ∷ [] else []) ++ (flat_map (λ k. moved k.1) came ++ (flat_map (λ k. moved k.1) went ++ flat_map (λ k. facts_of IsWritten k.1) written))
