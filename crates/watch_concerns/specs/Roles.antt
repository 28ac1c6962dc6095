-- Roles: for which variables of a linked query an entity may stand, by its own ids, and by pairs with entities that may
-- stand for the variables before.
use Rattle.std.specs.Prelude.{◌≡◌, ℕ, ◌==◌, Bool, true, not, ◌&&◌, ◌||◌, nat_lt, List, is_none}
use Rattle.std.specs.List.{Contains, list_all, list_any}
use Rattle.ecs_id.specs.Id.{Id, pair}
use Rattle.ecs_model.specs.rows.Level.{Level}
use Rattle.ecs_model.specs.rows.View.{View}
use Rattle.query_model.specs.declared.query.Term.{Term}
use Rattle.query_model.specs.Query.{Query}
use Rattle.query_check.specs.Terms.{terms}
use Rattle.watch_concerns.specs.Anchored.{is_variable, may_be_variable}
use Rattle.watch_concerns.specs.Bonds.{are_all_bound, each_must, has_directly}
use Rattle.watch_concerns.specs.Concerns.{may_match}
use Rattle.watch_concerns.specs.Idle.{item_lacks_of}
use Rattle.watch_concerns.specs.Linked.{term_links}
use Rattle.watch_concerns.specs.Tied.{asks_near}

-- ---- the ids of the entity itself

-- whether a variable isn't v, or these ids lack an id that an item directly in the level requires on the variable's
-- entity
abbrev pub lacks_in : List Id → ℕ → ℕ → Level → Bool
lacks_in ids v u l = not (u == v) || has_directly (item_lacks_of ids v) l

-- whether a holder of exactly these ids may stand for a variable: in some level that the variable belongs to, no
-- required id is missing
unfoldable pub may_stand : Query → List Id → ℕ → Bool
may_stand q ids v = not (are_all_bound (lacks_in ids v) q)

-- whether a term asks the entity of a variable itself for a pair whose target is the entity of another variable
abbrev pub joins : ℕ → ℕ → Term → Bool
joins u v t = is_none t.up && not t.closed && is_variable u t.source && may_be_variable v t.target

-- ---- links by some terms alone

module _ (by : ℕ → Term → Bool) where
  -- whether a variable is `$this`, or an item directly in a level holds only by a pair that links it with an earlier
  -- one, by such a term
  abbrev pub is_linked_through : ℕ → Level → Bool
  is_linked_through v l = v == 0 || has_directly (each_must (λ t. by v t && term_links v t)) l

  -- whether each term tests the entities that a linked query may test, and each variable is linked by such terms in its
  -- own level
  unfoldable pub is_linked_by : Query → Bool
  is_linked_by q = list_all asks_near (terms q) && are_all_bound is_linked_through q

  -- ---- from the entity of a variable to that of a later one

  -- whether such a term may lead by this id, a pair, from its holder as the entity of u to its target as the entity of
  -- v
  unfoldable pub leads_out : Query → ℕ → ℕ → Id → Bool
  leads_out q u v i = nat_lt u v && list_any (λ t. by v t && joins u v t && may_match t.component t.target i) (terms q)

  -- and whether it may lead from its target as the entity of u to its holder as the entity of v
  unfoldable pub leads_in : Query → ℕ → ℕ → Id → Bool
  leads_in q u v i = nat_lt u v && list_any (λ t. by v t && joins v u t && may_match t.component t.target i) (terms q)

  -- in a view, if x is near as u and a term leads from it to y as v by a pair, and both may stand there by their ids,
  -- then y is near as v
  pub record LeadsOn (q : Query) (all : ℕ → List Id) (w : View) (near : ℕ → ℕ → Bool) : Type 0 where
    pub target : (u v r x y : ℕ) → near u x ≡ true → may_stand q (all x) u ≡ true → may_stand q (all y) v ≡ true → Contains (w.ids x) (pair r y) → leads_out q u v (pair r y) ≡ true → near v y ≡ true
    pub holder : (u v r x y : ℕ) → near u x ≡ true → may_stand q (all x) u ≡ true → may_stand q (all y) v ≡ true → Contains (w.ids y) (pair r x) → leads_in q u v (pair r x) ≡ true → near v y ≡ true
