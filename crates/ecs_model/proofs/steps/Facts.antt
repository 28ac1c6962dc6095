-- Which facts a world has, by the lists that are read from it.
use Rattle.std.proofs.Common.{◌≡◌, ℕ, ◌==◌, Bool, true, false, cond, Some, None, refl, sym, ◌∙◌}
use Rattle.std.specs.Prelude.{if◌then◌else◌}
use Rattle.std.specs.List.{Contains}
use Rattle.std.specs.Cmp.{IsTotalOrder, Equal-is, nat_cmp_total, eq_by_cmp_equiv}
use Rattle.std.specs.FinMap.{nat_cmp-IsAntisymmetric}
use Rattle.std.specs.FinMap.Entries.{is_some-find}
use Rattle.std.specs.Ordering.{nat_cmp}
use Rattle.std.specs.declared.cmp.Ordering.{Ordering}
use Rattle.std.specs.declared.cmp.Ordering.TheVariants.{Equal}
use Rattle.std.proofs.lemmas.Map.Views.{Contains-from_any, list_any-from_Contains}
use Rattle.ecs_id.specs.Id.{Id, pair, id_eq, id_eq_itself, id_eq_same}
use Rattle.ecs_model.specs.Links.{is_held, upward}
use Rattle.ecs_model.specs.Map.{Map, has_key, keys}
use Rattle.ecs_model.specs.World.{WorldState, Key, key_cmp, is_live, entities, holds, ids_of}
use Rattle.ecs_model.proofs.LivePairs.{held_leads, leads_held}
use Rattle.ecs_model.proofs.Maps.{key_cmp_same, key_cmp_total}
use Rattle.ecs_model.proofs.Members.{alike, any_passes, eq_itself, eq_same, from_filter_map, in_filter_map, passing}

-- a key that is there is one of the keys
pub key_there : {K X : Type 0} (R : K → K → Ordering) → ((x y : K) → R x y ≡ Equal → x ≡ y) → (m : Map K X) (k : K) → has_key R m k ≡ true → Contains (keys m) k
key_there R same m k h = Contains-from_any (λ x y e. same x y ((Equal-is (R x y)).0 e)) k (keys m) (sym (is_some-find R k m) ∙ h)

pub there_key : {K X : Type 0} (R : K → K → Ordering) → IsTotalOrder R → (m : Map K X) (k : K) → Contains (keys m) k → has_key R m k ≡ true
there_key R o m k h = is_some-find R k m ∙ list_any-from_Contains (eq_by_cmp_equiv o) k (keys m) h

own_id : (e : ℕ) (k : Key) (i : Id) → (if k.0 == e then Some k.1 else None) ≡ Some i → k ≡ (e, i)
own_id e k i h = by (k.0 == e) refl h
  where
    by : (b : Bool) → (k.0 == e) ≡ b → cond b (Some k.1) None ≡ Some i → k ≡ (e, i)
    by true s h = let first : k.0 ≡ e = eq_same k.0 e s in let second : k.1 ≡ i = cc in λ j. (first j, second j)
    by false s h = absurd cc

module _ (w : WorldState) where
  pub live_listed : (e : ℕ) → is_live w e ≡ true → Contains (entities w) e
  live_listed e h = key_there nat_cmp nat_cmp-IsAntisymmetric w.live e h

  pub listed_live : (e : ℕ) → Contains (entities w) e → is_live w e ≡ true
  listed_live e h = there_key nat_cmp nat_cmp_total w.live e h

  pub held_listed : (e : ℕ) (i : Id) → holds w e i ≡ true → Contains (ids_of w e) i
  held_listed e i h =
      in_filter_map (λ (k : Key). if k.0 == e then Some k.1 else None) (keys w.facts) (e, i) i (key_there key_cmp key_cmp_same w.facts (e, i) h) (rw (eq_itself e) refl)

  pub listed_held : (e : ℕ) (i : Id) → Contains (ids_of w e) i → holds w e i ≡ true
  listed_held e i h =
      let k = from_filter_map (λ (k : Key). if k.0 == e then Some k.1 else None) (keys w.facts) i h in
      there_key key_cmp key_cmp_total w.facts (e, i) (rw (own_id e k.0 i k.2) at k.1)

  -- an id is among those of an entity where a fact says so
  pub is_held-holds : (e : ℕ) (i : Id) → is_held (ids_of w e) i ≡ holds w e i
  is_held-holds e i =
      alike (is_held (ids_of w e) i) (holds w e i)
      (λ h. let f = passing (λ j. id_eq j i) (ids_of w e) h in listed_held e i (rw (id_eq_same f.0 i f.2) at f.1))
      (λ h. any_passes (λ j. id_eq j i) (ids_of w e) i (held_listed e i h) (id_eq_itself i))

  -- a relationship leads along its pairs
  pub leads_holds : (r x y : ℕ) → Contains (upward (ids_of w) r x) y → holds w x (pair r y) ≡ true
  leads_holds r x y h = sym (is_held-holds x (pair r y)) ∙ leads_held (ids_of w) r x y h

  pub holds_leads : (r x y : ℕ) → holds w x (pair r y) ≡ true → Contains (upward (ids_of w) r x) y
  holds_leads r x y h = held_leads (ids_of w) r x y (is_held-holds x (pair r y) ∙ h)
