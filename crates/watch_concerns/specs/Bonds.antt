-- Whether each variable of a query is bound in its own level, which is the query itself or the group that it belongs
-- to.
use Rattle.std.specs.Prelude.{ℕ, Bool, true, false, ◌&&◌, ◌||◌}
use Rattle.std.specs.List.{list_all}
use Rattle.ecs_model.specs.rows.Level.{Level, done, also, unless, top}
use Rattle.ecs_model.specs.rows.Rows.{visible}
use Rattle.query_model.specs.declared.query.Term.{Term}
use Rattle.query_model.specs.Query.{Item, must, may, either, equal, differ, Query}

-- whether an item holds only where a term matches that passes a test
abbrev pub each_must : (Term → Bool) → Item → Bool
each_must p (must t) = p t
each_must p (may t) = false
each_must p (either ts) = list_all p ts
each_must p (equal v r) = false
each_must p (differ v r) = false

-- whether an item directly in a level passes a test
abbrev pub has_directly : (Item → Bool) → Level → Bool
has_directly p done = false
has_directly p (also x rest) = p x || has_directly p rest
has_directly p (unless from_term own inner rest) = has_directly p rest

-- for a test that says whether a variable is bound in a level
module _ (bound : ℕ → Level → Bool) where
  -- whether the own variables of each group in a level are bound in the group
  abbrev pub groups_are_bound : Level → Bool
  groups_are_bound done = true
  groups_are_bound (also x rest) = groups_are_bound rest
  groups_are_bound (unless from_term own inner rest) = list_all (λ v. bound v inner) own && groups_are_bound inner && groups_are_bound rest

  -- whether each variable of a query is bound in its own level
  abbrev pub are_all_bound : Query → Bool
  are_all_bound q = list_all (λ v. bound v (top q)) (visible q) && groups_are_bound (top q)
