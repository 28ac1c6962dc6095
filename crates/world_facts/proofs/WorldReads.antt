-- What the calls of a world and of its links say of what is read.
use Rattle.std.proofs.Common.{◌≡◌, ◌⊎◌, ℕ, ◌<◌, ◌≤◌, ◌==◌, ◌&&◌, Bool, true, false, List, [], is_some, option_map, refl, sym, ap, subst, ◌∙◌, inl, inr, arith}
use Rattle.std.specs.Prelude.{find}
use Rattle.std.specs.List.{Contains, list_any}
use Rattle.std.specs.Ordering.{nat_cmp}
use Rattle.std.specs.Cmp.{nat_cmp_total}
use Rattle.std.specs.FinMap.{nat_cmp-IsAntisymmetric}
use Rattle.ecs_world.proofs.States.{copied}
use Rattle.ecs_id.specs.Id.{Id}
use Rattle.id_pattern.specs.declared.Pattern.{Pattern}
use Rattle.id_pattern.specs.Patterns.{matches}
use Rattle.component_index.proofs.ListedLemmas.{and_all}
use Rattle.ecs_archetypes.specs.Linked.{Linked, ids_at_index, indexes, rows_under, tables_under}
use Rattle.ecs_model.specs.Links.{AreLinks, IsReached, ancestor_line, is_reflexive, is_transitive, reaches}
use Rattle.ecs_model.specs.Map.{Map, has_key, keys, value_at}
use Rattle.ecs_model.specs.World.{WorldState, entities, ids_of}
use Rattle.ecs_model.proofs.ReachTests.{reaches_tells}
use Rattle.ecs_model.proofs.Members.{alike, and_true, both, eq_itself, eq_same}
use Rattle.ecs_model.proofs.steps.Facts.{key_there, there_key}
use Rattle.rel_traits.specs.Sees.{Sees}
use Rattle.query_meaning.specs.Variables.{contains}
use Rattle.rel_travel.specs.Coming.{above_list, below_list}
use Rattle.world_facts.specs.Shown.{all_above, all_below}
use Rattle.world_facts.proofs.LiveTargets.{contains_tells, leads_ends}

-- whether an index is that of a live entity
pub live_read : {Y : Type 0} (live : Map ℕ ℕ) (f : ℕ → Y) (i : ℕ) → is_some (option_map f (value_at nat_cmp live i)) ≡ contains (keys live) i
live_read live f i =
    copied f (value_at nat_cmp live i)
    ∙ alike (has_key nat_cmp live i) (contains (keys live) i)
    (λ h. (contains_tells (keys live) i).1 (key_there nat_cmp nat_cmp-IsAntisymmetric live i h))
    (λ h. there_key nat_cmp nat_cmp_total live i ((contains_tells (keys live) i).0 h))

with_false : (a : Bool) → false ≡ (a && false)
with_false true = refl
with_false false = refl

-- over entities below a size, with their ids
module _ {n : ℕ} {live : List ℕ} {ids : ℕ → List Id} (links : AreLinks n live ids) where
  pub live_below : (e : ℕ) → contains live e ≡ true → e < n
  live_below e h = links.below e ((contains_tells live e).0 h)

  -- outside a relationship leads from an entity to itself alone
  reached_outside : (r s t : ℕ) → (n ≤ s) ⊎ (n ≤ t) → reaches ids live r s t ≡ (is_reflexive ids r && s == t)
  reached_outside r s t out =
      alike (reaches ids live r s t) (is_reflexive ids r && s == t)
      (λ h. by ((reaches_tells links r s t).0 h))
      (λ h. let p = both (is_reflexive ids r) (s == t) h in (reaches_tells links r s t).1 (inl (p.0, eq_same s t p.1)))
    where
      apart : (n ≤ s) ⊎ (n ≤ t) → Contains live s × Contains live t → ⊥
      apart (inl o) c = let b = links.below s c.0 in omega arith
      apart (inr o) c = let b = links.below t c.1 in omega arith

      by : IsReached ids r s t → (is_reflexive ids r && s == t) ≡ true
      by (inl e) = and_true (is_reflexive ids r) (s == t) e.0 (rw e.1 (eq_itself t))
      by (inr l) = absurd (apart out (leads_ends links r (is_transitive ids r) s t l))

  pub outside_same : (r s t : ℕ) (b : Bool) → (n ≤ s) ⊎ (n ≤ t) → s ≡ t → b ≡ is_reflexive ids r → b ≡ reaches ids live r s t
  outside_same r s t b out same is =
      let test : (s == t) ≡ true = rw same (eq_itself t) in
      is ∙ and_all (is_reflexive ids r) ∙ ap (λ c. is_reflexive ids r && c) (sym test) ∙ sym (reached_outside r s t out)

  pub outside_apart : (r s t : ℕ) → (n ≤ s) ⊎ (n ≤ t) → (s ≡ t → ⊥) → (s == t) ≡ reaches ids live r s t
  outside_apart r s t out apart = by (s == t) refl ∙ sym (reached_outside r s t out)
    where
      by : (b : Bool) → (s == t) ≡ b → (s == t) ≡ (is_reflexive ids r && s == t)
      by true e = absurd (apart (eq_same s t e))
      by false e = rw e (with_false (is_reflexive ids r))

-- over a world that shows these entities with these ids
module _ {w : WorldState} {live : List ℕ} {ids : ℕ → List Id} (sees : Sees w live ids) where
  pub ids_same : ids_of w ≡ ids
  ids_same = λ i e. sees.ids_are e i

  pub world_links : {n : ℕ} → AreLinks n live ids → AreLinks n (entities w) (ids_of w)
  world_links {n} links = subst (λ f. AreLinks n (entities w) f) (sym ids_same) (subst (λ es. AreLinks n es ids) (sym sees.live_are) links)

  -- the first ancestor with an id of a pattern
  pub same_first : (p : Pattern) (r e : ℕ) → find (λ t. list_any (matches p) (ids t)) (ancestor_line ids live r e) ≡ find (λ t. list_any (matches p) (ids_of w t)) (ancestor_line (ids_of w) (entities w) r e)
  same_first p r e = λ i. find (λ t. list_any (matches p) (sym ids_same i t)) (ancestor_line (sym ids_same i) (sym sees.live_are i) r e)

  pub lives_same : (e : ℕ) → contains (entities w) e ≡ contains live e
  lives_same e = ap (λ es. contains es e) sees.live_are

-- the list of a live entity
module _ (l : Linked) (r e : ℕ) where
  pub above_all : contains (indexes l) e ≡ true → above_list l.size (ids_at_index l) r e ≡ all_above l r e
  above_all live = rw live refl

  pub below_all : contains (indexes l) e ≡ true → below_list (rows_under l) (tables_under l) l.size (ids_at_index l) r e ≡ all_below l r e
  below_all live = rw live refl

  pub above_none : contains (indexes l) e ≡ false → [] ≡ all_above l r e
  above_none dead = rw dead refl
