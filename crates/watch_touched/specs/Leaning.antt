-- The holders of a pair with a target, where the pair passes a test, which may ask for the holder's other ids too.
use Rattle.std.specs.Prelude.{◌≡◌, ℕ, Bool, true, ◌&&◌, ◌||◌, List, [], ◌∷◌, ◌++◌, Some, Result, IfOk, filter, map, not, if◌then◌else◌}
use Rattle.std.specs.List.{Contains, list_any}
use Rattle.std.specs.Option.{option_map_or}
use Rattle.id_pattern.specs.Patterns.{matches}
use Rattle.id_pattern.specs.declared.Part.TheVariants.{Is, Any}
use Rattle.id_pattern.specs.declared.Pattern.{Pattern}
use Rattle.ecs_id.specs.Id.{Id, plain, pair}
use Rattle.ecs_id.specs.declared.TableKey.{TableKey}
use Rattle.ecs_model.specs.Reach.{Reached}
use Rattle.ecs_model.specs.World.{WorldState, entities, ids_of}
use Rattle.ecs_table.specs.Archetype.{Archetype}
use Rattle.watch_concerns.specs.Concerns.{concerns}
use Rattle.watch_concerns.specs.Others.{concerns_below, concerns_others}
use Rattle.watch_concerns.specs.OwnIds.{lacks}
use Rattle.query_model.specs.Query.{Query}
use Rattle.table_store.specs.Store.{Store, table_at}
use Rattle.watch_touched.specs.declared.sought.Sought.{Sought}
use Rattle.watch_touched.specs.declared.sought.Sought.TheVariants.{Moving, Below}

-- whether an id concerns a query for entities besides its holder
abbrev pub concerns_beyond : Query → Id → Bool
concerns_beyond q i = concerns_below q i || concerns_others q i

-- whether a changed fact of the target of one of these ids, a pair, may move the holder of these ids: the pair concerns
-- the query, and no id is missing that the query requires on `$this` itself
abbrev pub moves_by : Query → List Id → Id → Bool
moves_by q ids i = concerns q i && not (lacks q ids)

-- whether a search looks for a holder of these ids, by one of them
abbrev pub is_sought : Sought → Query → List Id → Id → Bool
is_sought Moving q ids i = moves_by q ids i
is_sought Below q ids i = concerns_beyond q i

-- the pairs with this entity as the target
abbrev pub pairs_to : ℕ → Pattern
pairs_to x = record { first = Any; second = Some (Is x) }

-- the target of an id that is a pair and passes the test
abbrev pub target_of : (Id → Bool) → Id → List ℕ
target_of p (plain c) = []
target_of p (pair r x) = if p (pair r x) then x ∷ [] else []

module _ (p : List Id → Id → Bool) (w : WorldState) where
  -- whether an entity holds a pair with target x that passes the test
  abbrev pub leans : ℕ → ℕ → Bool
  leans x e = list_any (λ i. matches (pairs_to x) i && p (ids_of w e) i) (ids_of w e)

  -- all live entities that do
  abbrev pub leaning : ℕ → List ℕ
  leaning x = filter (leans x) (entities w)

  -- the list `all` contains each holder for an entity in `start`, each holder for those, and so on
  abbrev pub HasAllBelow : List ℕ → List ℕ → Type 0
  HasAllBelow start all = (x e : ℕ) → Contains start x → Reached leaning x e → Contains all e

-- each of these entities holds exactly these ids
abbrev pub HoldAll : WorldState → List Id → List ℕ → Type 0
HoldAll w ids es = (e : ℕ) → Contains es e → ids_of w e ≡ ids

-- the entities of a table; and each holds the ids of its table
abbrev pub standing_in : Store → TableKey → List ℕ
standing_in s k = option_map_or (λ t. map (λ e. e.index) t.entities) (table_at s k) []

abbrev pub HoldTheirs : WorldState → Store → Type 0
HoldTheirs w s = (k : TableKey) (t : Archetype) → table_at s k ≡ Some t → HoldAll w t.ids (map (λ e. e.index) t.entities)

-- the list `all` contains `start`, and with each entity every entity that `next` gives for it
pub record IsClosed (next : ℕ → List ℕ) (start all : List ℕ) : Type 0 where
  pub begun : (x : ℕ) → Contains start x → Contains all x
  pub stepped : (x y : ℕ) → Contains all x → Contains (next x) y → Contains all y

-- a list has grown at its end, and contains each wanted entity
pub record Adds (wanted before after : List ℕ) : Type 0 where
  pub more : List ℕ
  pub behind : after ≡ before ++ more
  pub all : (e : ℕ) → Contains wanted e → Contains after e

-- P holds if the call answered true: no entity was left out
abbrev pub IfDone : {E : Type 0} → Result Bool E → Type 0 → Type 0
IfDone result P = IfOk result (λ done. done ≡ true → P)
