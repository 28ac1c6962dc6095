-- What a query asks, as patterns of ids.
use Rattle.std.specs.Prelude.{◌≡◌, ℕ, ◌==◌, Bool, true, false, not, ◌&&◌, ◌||◌, nat_lt, List, [], ◌∷◌, ◌++◌, flat_map, map, Option, Some, None, is_none, is_some, option_map, if◌then◌else◌}
use Rattle.std.specs.List.{list_all, list_any}
use Rattle.id_pattern.specs.Patterns.{matches}
use Rattle.id_pattern.specs.declared.Part.{Part}
use Rattle.id_pattern.specs.declared.Part.TheVariants as part
use Rattle.id_pattern.specs.declared.Pattern.{Pattern}
use Rattle.ecs_id.specs.Id.{Id}
use Rattle.query_check.specs.Terms.{terms as terms_of}
use Rattle.watch_concerns.specs.Anchored.{is_variable}
use Rattle.watch_concerns.specs.FromLeft.{depth_behind, is_end, passes_from}
use Rattle.watch_concerns.specs.Bonds.{are_all_bound}
use Rattle.watch_concerns.specs.Idle.{asks_for, asks_itself, is_idle_for, item_lacks_of}
use Rattle.watch_concerns.specs.Others.{asks_this_stored}
use Rattle.watch_concerns.specs.OwnIds.{meets}
use Rattle.watch_concerns.specs.declared.whom.Concern.{Concern}
use Rattle.query_model.specs.Local.{asks_first}
use Rattle.query_model.specs.Observers.{is_constant, is_constant_target}
use Rattle.query_model.specs.declared.query.Ref.{Ref}
use Rattle.query_model.specs.declared.query.Ref.TheVariants.{Is, Var, Any, AnyOnce}
use Rattle.query_model.specs.declared.query.Term.{Term}
use Rattle.query_model.specs.Query.{Item, must, may, either, equal, differ, Piece, item, opening, closing, Query}
use Rattle.watch_asked.specs.declared.asked.AskedOf.{AskedOf}
use Rattle.watch_asked.specs.declared.asked.AskedTerm.{AskedTerm}
use Rattle.watch_asked.specs.declared.asked.AskedTerms.{AskedTerms}
use Rattle.watch_asked.specs.declared.steps.LinkStep.{LinkStep}

-- what a reference may stand for; a variable may stand for any entity
abbrev pub part_of : Ref → Part
part_of (Is e) = part.Is e
part_of (Var v) = part.Any
part_of Any = part.Any
part_of AnyOnce = part.Any

-- ---- the ids for which a term asks

-- the ids that it may match; a variable may stand for any entity
abbrev pub asked_by : Ref → Option Ref → Pattern
asked_by first target = record { first = part_of first; second = option_map part_of target }

-- all pairs of a relationship
abbrev pub pairs_of : Ref → Pattern
pairs_of r = record { first = part_of r; second = Some part.Any }

-- the pairs along which a term goes up to ancestors, and all patterns of a term: the ids that it may match, those
-- pairs, and the pairs that it follows
abbrev pub up_asks : Option ℕ → List Pattern
up_asks None = []
up_asks (Some r) = pairs_of (Is r) ∷ []

abbrev pub asks_by : Term → List Pattern
asks_by t = asked_by t.component t.target ∷ (up_asks t.up ++ (if t.closed then pairs_of t.component ∷ [] else []))

-- a pattern of a term: whether the term tests `$this` or its ancestors, and whether it tests the ancestors
abbrev pub asked_term : Term → Pattern → AskedTerm
asked_term t p = record { asked = p; this = asks_this_stored t; below = asks_this_stored t && is_some t.up }

abbrev pub asked_terms : Term → List AskedTerm
asked_terms t = map (asked_term t) (asks_by t)

-- the patterns for which a term asks the entity of a variable
abbrev pub asks_of : ℕ → Term → List Pattern
asks_of v t = if is_variable v t.source then asks_by t else []

-- ---- from the entity of one variable to the entity of another

-- by pairs whose holder is the entity of `source` and whose target is the entity of `target`: always from the earlier
-- variable to the later
abbrev pub steps_between : ℕ → ℕ → Pattern → List LinkStep
steps_between source target p =
    if nat_lt source target then record { from = source; to = target; asked = p; outward = true } ∷ []
    else if nat_lt target source then record { from = target; to = source; asked = p; outward = false } ∷ [] else []

abbrev pub steps_by : Ref → Option Ref → Pattern → List LinkStep
steps_by (Var source) (Some (Var target)) p = steps_between source target p
steps_by (Var source) (Some (Is e)) p = []
steps_by (Var source) (Some Any) p = []
steps_by (Var source) (Some AnyOnce) p = []
steps_by (Var source) None p = []
steps_by (Is e) target p = []
steps_by Any target p = []
steps_by AnyOnce target p = []

-- the step of a term that tests the entity of a variable itself
abbrev pub steps_of : Term → List LinkStep
steps_of t = if is_none t.up && not t.closed then steps_by t.source t.target (asked_by t.component t.target) else []

-- ---- the ids that the entity of a variable itself has to hold

abbrev pub item_needs : ℕ → Item → List Pattern
item_needs v (must t) = if asks_itself v t then asked_by t.component t.target ∷ [] else []
item_needs v (may t) = []
item_needs v (either ts) = []
item_needs v (equal u r) = []
item_needs v (differ u r) = []

abbrev pub piece_needs : ℕ → Piece → List Pattern
piece_needs v (item x) = item_needs v x
piece_needs v (opening from_term own) = []
piece_needs v closing = []

-- those that items directly in the level require. The pieces are those of a whole query, or begin with a group and are
-- read up to its end
abbrev pub needs_from : ℕ → Bool → ℕ → List Piece → List Pattern
needs_from v whole depth [] = []
needs_from v whole depth (p ∷ ps) =
    if depth == 0 && not whole && is_end p then []
    else (if depth == 0 then piece_needs v p else []) ++ needs_from v whole (depth_behind depth p) ps

-- those that items before the first group require of `$this`
abbrev pub needs_in_front : List Piece → List Pattern
needs_in_front [] = []
needs_in_front (item x ∷ ps) = item_needs 0 x ++ needs_in_front ps
needs_in_front (opening from_term own ∷ ps) = []
needs_in_front (closing ∷ ps) = []

-- ---- what own ids alone may decide

abbrev pub may_be_met : Item → Bool
may_be_met (must t) = asks_first t && is_constant t.component && is_constant_target t.target
may_be_met (may t) = true
may_be_met (either ts) = true
may_be_met (equal v r) = false
may_be_met (differ v r) = false

-- whether the own ids of `$this` may meet each item before the first group
abbrev pub may_meet : List Piece → Bool
may_meet [] = true
may_meet (item x ∷ ps) = may_be_met x && may_meet ps
may_meet (opening from_term own ∷ ps) = true
may_meet (closing ∷ ps) = true

-- ---- judging an id

-- for which entities an id concerns a query, by the patterns of its terms
abbrev pub one_concern : Id → AskedTerm → Concern
one_concern i a = let m = matches a.asked i in record { anyone = m; others = not a.this && m; below = a.below && m }

abbrev pub asked_concern : Id → List AskedTerm → Concern
asked_concern i xs = record { anyone = list_any (λ a. matches a.asked i) xs; others = list_any (λ a. not a.this && matches a.asked i) xs; below = list_any (λ a. a.below && matches a.asked i) xs }

-- whether one of these patterns matches an id
abbrev pub any_asked : List Pattern → Id → Bool
any_asked ps i = list_any (λ p. matches p i) ps

-- whether each of these patterns matches one of these ids
abbrev pub have_all : List Pattern → List Id → Bool
have_all ps ids = list_all (λ p. list_any (matches p) ids) ps

-- whether a variable's entity is asked for an id, and an entity that has held these ids has held each required id
abbrev pub counts : {A : Type 0} → List Id → Id → AskedOf A → Bool
counts ids i a = any_asked a.asks.items i && have_all a.needs.items ids

-- and whether that is so for a variable that passes a test
abbrev pub counts_as : {A : Type 0} → (ℕ → Bool) → List Id → Id → AskedOf A → Bool
counts_as only ids i a = only a.variable && counts ids i a

abbrev pub any_counts_as : {A : Type 0} → (ℕ → Bool) → List (AskedOf A) → List Id → Id → Bool
any_counts_as only all ids i = list_any (counts_as only ids i) all

-- what is kept of the variables that pass a test decides whether an id is idle for them
abbrev pub TellsIdle : {A : Type 0} → Query → List (AskedOf A) → Type 0
TellsIdle q others = (only : ℕ → Bool) (ids : List Id) (i : Id) → any_counts_as only others ids i ≡ not (are_all_bound (λ v l. not (only v) || is_idle_for ids i (terms_of q) v l) q)

-- what is kept is what the query asks
pub record IsAskedBy {A : Type 0} (q : Query) (asked : AskedTerms A) : Type 0 where
  pub terms : asked.terms.items ≡ flat_map asked_terms (terms_of q)
  pub this : asked.this.items ≡ needs_in_front q.pieces
  pub others : TellsIdle q asked.others.items
  pub steps : asked.steps.items ≡ flat_map steps_of (terms_of q)
  pub met : asked.may_meet ≡ false → (ids : List Id) → meets q ids ≡ false

-- whether a variable doesn't pass the test, or is `$this`, or its entity isn't asked for the id, or these ids lack an
-- id that an item directly in the level requires on it
abbrev pub is_idle_from : (ℕ → Bool) → List Term → Bool → List Piece → List Id → Id → ℕ → Bool
is_idle_from only ts whole ps ids i v = not (only v) || ((v == 0 || not (asks_for ts v i)) || passes_from (item_lacks_of ids v) whole 0 ps)

-- whether it is so for each own variable of the group that a piece opens before these pieces
abbrev pub group_idle : (ℕ → Bool) → List Term → List Id → Id → Piece → List Piece → Bool
group_idle only ts ids i (item x) ps = true
group_idle only ts ids i (opening from_term own) ps = list_all (is_idle_from only ts false ps ids i) own
group_idle only ts ids i closing ps = true

-- and for those of each group
abbrev pub groups_idle : (ℕ → Bool) → List Term → List Id → Id → List Piece → Bool
groups_idle only ts ids i [] = true
groups_idle only ts ids i (p ∷ ps) = group_idle only ts ids i p ps && groups_idle only ts ids i ps
