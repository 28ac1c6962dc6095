-- What a list has still to give, in order.
use Rattle.std.specs.Prelude.{ℕ, suc, zero, ◌+◌, ◌-◌, ◌&&◌, max, Bool, true, false, List, [], ◌∷◌, fold, flat_map, slice_get, Some, if◌then◌else◌}
use Rattle.std.specs.Option.{option_map_or}
use Rattle.ecs_id.specs.Id.{Id}
use Rattle.ecs_id.specs.declared.TableKey.{TableKey}
use Rattle.id_pattern.specs.declared.Pattern.{Pattern}
use Rattle.id_pattern.specs.declared.Part.TheVariants.{Is}
use Rattle.ecs_model.specs.Links.{is_reflexive, is_transitive, upward}
use Rattle.rel_travel.specs.Finds.{with_find}
use Rattle.rel_travel.specs.Lists.{Work}

-- with each of these at the end, where it isn't there yet
abbrev pub with_finds : List ℕ → List ℕ → List ℕ
with_finds found ys = fold with_find found ys

-- over what each entity brings
module _ (brings : ℕ → List ℕ) where
  -- what is found after an entity was given: what it brings too, where the list goes on
  abbrev pub after_turn : Bool → List ℕ → ℕ → List ℕ
  after_turn true found y = with_finds found (brings y)
  after_turn false found y = found

  -- what is given in at most so many turns, where the first k of the found are given
  abbrev pub given_in : Bool → ℕ → List ℕ → ℕ → List ℕ
  given_in goes_on zero found k = []
  given_in goes_on (suc n) found k = option_map_or (λ y. y ∷ given_in goes_on n (after_turn goes_on found y) (k + 1)) (slice_get found k) []

  -- with what a list begins: the entity itself where the relationship is reflexive, and what it brings, unless that is reached from the entity itself
  abbrev pub begun_at : Bool → Bool → ℕ → List ℕ
  begun_at transitive reflexive x = if reflexive && transitive then x ∷ [] else with_finds (if reflexive then x ∷ [] else []) (brings x)

  -- all that such a list gives, over entities below a size
  abbrev pub list_from : ℕ → Bool → Bool → ℕ → List ℕ
  list_from size transitive reflexive x = given_in transitive (max size (x + 1)) (begun_at transitive reflexive x) 0

-- all that a relationship leads to from an entity, over entities below a size
abbrev pub above_list : ℕ → (ℕ → List Id) → ℕ → ℕ → List ℕ
above_list size ids r x = list_from (upward ids r) size (is_transitive ids r) (is_reflexive ids r) x

-- over the rows of each table, and the tables that are listed for a pattern
module _ (rows : TableKey → List ℕ) (listed : Pattern → List TableKey) where
  -- the rows of the tables that are listed for the pairs of a relationship with one target
  abbrev pub downward : ℕ → ℕ → List ℕ
  downward r x = flat_map rows (listed (record { first = Is r; second = Some (Is x) }))

  -- all from which a relationship leads to an entity, over entities below a size
  abbrev pub below_list : ℕ → (ℕ → List Id) → ℕ → ℕ → List ℕ
  below_list size ids r x = list_from (downward r) size (is_transitive ids r) (is_reflexive ids r) x

  -- what an entity brings: its targets, or its sources
  abbrev pub brought : (ℕ → List Id) → Bool → ℕ → ℕ → List ℕ
  brought ids true r x = upward ids r x
  brought ids false r x = downward r x

  -- what the list of the scratch has still to give
  abbrev pub coming : (ℕ → List Id) → Work → List ℕ
  coming ids s = given_in (brought ids s.is_upward s.relationship) s.goes_on (s.size - s.given) s.found s.given
