-- The names of entities: a finite map from the bytes of a name to the entity that has it.
use Rattle.std.specs.Prelude.{Option, ◌≡◌, ◌≢◌, ℕ, ◌==◌, ◌&&◌, ◌++◌, Bool, true, false, List, ◌↔◌, Some, None, map, nat_eq, refl}
use Rattle.std.specs.Ordering.{nat_cmp}
use Rattle.std.specs.Cmp.Lexicographic.{pointwise, slice_cmp}
use Rattle.std.specs.Option.{option_or}
use Rattle.std.specs.Coded.{Coded, code_by, coded×, coded_ℕ}
use Rattle.std.specs.declared.string.String.{String}
use Rattle.std.specs.String.{string_bytes}
use Rattle.std.specs.HashMap.{HashMap, IsUnique, get, get_by_text}
use Rattle.std.specs.FinMap as finite
use Rattle.ecs_id.specs.declared.EntityId.{EntityId}
use Rattle.name_index.specs.declared.texts.Texts.{Texts}
use Rattle.name_index.specs.Short.{is_short}
use Rattle.name_index.specs.Texts.{first_of, other_of}

abbrev pub Names : Type 0
Names = finite.FinMap (slice_cmp nat_cmp) EntityId

-- an entity is stored as its index and its generation
abbrev pub entity_code : Coded EntityId
entity_code =
    code_by (ℕ × ℕ) (coded× coded_ℕ coded_ℕ) (λ e. (e.index, e.generation)) (λ p. record { index = p.0; generation = p.1 }) (λ _. refl)

-- whether two entities are the same
abbrev pub entity_eq : EntityId → EntityId → Bool
entity_eq x y = x.index == y.index && x.generation == y.generation

-- the entity has no name
abbrev pub IsUnnamed : Names → EntityId → Type 0
IsUnnamed names entity = (n : List ℕ) → finite.get names n ≢ Some entity

-- no entity has two names
abbrev pub IsOneToOne : Names → Type 0
IsOneToOne names = (m n : List ℕ) (e : EntityId) → finite.get names m ≡ Some e → finite.get names n ≡ Some e → m ≡ n

-- every entity but this one has the name that it had
abbrev pub OthersKeepTheirs : Names → Names → EntityId → Type 0
OthersKeepTheirs old new entity =
    (n : List ℕ) (other : EntityId) → other ≢ entity → (finite.get new n ≡ Some other) ↔ (finite.get old n ≡ Some other)

-- what two maps by name hold: one of short names, and one of the others
abbrev pub names_in : {Y R S : Type 0} → HashMap (List ℕ) EntityId R → HashMap (String Y) EntityId S → Names
names_in short long = finite.from_entries (map (λ p. (p.0, p.1)) short.entries ++ map (λ p. (string_bytes p.0, p.1)) long.entries)

-- each of them has its names alone
pub record AreApart {Y R S : Type 0} (short : HashMap (List ℕ) EntityId R) (long : HashMap (String Y) EntityId S) : Type 0 where
  pub shorts : (q : List ℕ) → is_short q ≡ false → get (pointwise nat_eq) short q ≡ None
  pub longs : (q : List ℕ) → is_short q ≡ true → get_by_text long q ≡ None

-- two ways to an entity's name give all the names, and no others
pub record Tells (first other : EntityId → Option (List ℕ)) (names : Names) : Type 0 where
  pub placed : (q : List ℕ) (e : EntityId) → first e ≡ Some q → finite.get names q ≡ Some e
  pub apart : (q : List ℕ) (e : EntityId) → other e ≡ Some q → finite.get names q ≡ Some e
  pub told : (q : List ℕ) (e : EntityId) → finite.get names q ≡ Some e → option_or (first e) (other e) ≡ Some q

-- and each entity that has a name is kept with it
pub record AreKept {Y R S : Type 0} (short : HashMap (List ℕ) EntityId R) (long : HashMap (String Y) EntityId S) (texts : Texts Y) : Type 0 where
  pub apart : AreApart short long
  pub unique : IsUnique (pointwise nat_eq) short
  pub tells : Tells (first_of texts short.entries) (other_of texts) (names_in short long)
