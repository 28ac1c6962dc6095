-- The lists of tables, one for each pattern, and what they have to do with the tables that are entered.
use Rattle.std.specs.Prelude.{◌≡◌, Bool, false, not, ◌&&◌, ◌||◌, List, [], ◌∷◌, Option, Some, None, unwrap_or}
use Rattle.std.specs.Option.{option_map_or}
use Rattle.std.specs.List.{list_any}
use Rattle.std.specs.HashMap.{HashMap, get}
use Rattle.std.specs.FinMap as finite
use Rattle.ecs_id.specs.Id.{Id, plain, pair}
use Rattle.ecs_id.specs.declared.TableKey.{TableKey}
use Rattle.id_pattern.specs.declared.Part.TheVariants.{Is, Any}
use Rattle.id_pattern.specs.declared.Pattern.{Pattern}
use Rattle.id_pattern.specs.Patterns.{matches, matches_some}
use Rattle.id_pattern.specs.SamePattern.{pattern_eq}
use Rattle.ecs_id.specs.TableKeys.{table_eq}
use Rattle.component_index.specs.Entered.{Entered}
use Rattle.component_index.specs.TableList.{has, IsNewOrLast}

-- the pattern is one of these
abbrev pub is_among : List Pattern → Pattern → Bool
is_among patterns pattern = list_any (λ one. pattern_eq one pattern) patterns

-- the pattern matches this id, and not the one before it
abbrev pub is_new : Option Id → Id → Pattern → Bool
is_new before id pattern = matches pattern id && not (matches_some pattern before)

-- the patterns that match the id
abbrev pub patterns_of : Id → List Pattern
patterns_of (plain c) = record { first = Is c; second = None } ∷ record { first = Any; second = None } ∷ []
patterns_of (pair r t) =
    record { first = Is r; second = Some (Is t) } ∷ record { first = Is r; second = Some Any }
    ∷ record { first = Any; second = Some (Is t) } ∷ record { first = Any; second = Some Any } ∷ []

-- the table is entered, with an id that the pattern matches, as a test
abbrev pub is_matched : Entered → Pattern → TableKey → Bool
is_matched tables pattern key = option_map_or (list_any (matches pattern)) (finite.get tables key) false

module _ {S : Type 0} where
  -- the table is in the list of the pattern
  abbrev pub is_listed : HashMap Pattern (List TableKey) S → Pattern → TableKey → Bool
  is_listed lists pattern key = option_map_or (λ list. has list key) (get pattern_eq lists pattern) false

  -- the new lists have what the old have, and the table where the pattern passes the test
  abbrev pub Adds : HashMap Pattern (List TableKey) S → HashMap Pattern (List TableKey) S → (Pattern → Bool) → TableKey → Type 0
  Adds old new test key = (p : Pattern) (k : TableKey) → is_listed new p k ≡ (is_listed old p k || (test p && table_eq key k))

  -- the new lists have what the old have, but not the table where the pattern passes the test
  abbrev pub Drops : HashMap Pattern (List TableKey) S → HashMap Pattern (List TableKey) S → (Pattern → Bool) → TableKey → Type 0
  Drops old new test key = (p : Pattern) (k : TableKey) → is_listed new p k ≡ (is_listed old p k && not (test p && table_eq key k))

  -- the new lists have what the old have, but for the table where the pattern passes the test
  abbrev pub Keeps : HashMap Pattern (List TableKey) S → HashMap Pattern (List TableKey) S → (Pattern → Bool) → TableKey → Type 0
  Keeps old new test key = (p : Pattern) (k : TableKey) → (test p && table_eq key k) ≡ false → is_listed new p k ≡ is_listed old p k

  -- each table is in the list of each pattern that matches one of its ids, and no other table is in it
  abbrev pub AreListed : Entered → HashMap Pattern (List TableKey) S → Type 0
  AreListed tables lists = (p : Pattern) (k : TableKey) → is_listed lists p k ≡ is_matched tables p k

  -- no list has the table but last
  abbrev pub IsNewest : HashMap Pattern (List TableKey) S → TableKey → Type 0
  IsNewest lists key = (p : Pattern) → IsNewOrLast (unwrap_or (get pattern_eq lists p) []) key
