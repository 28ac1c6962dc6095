-- What a command that makes an entity or a component has changed, as the few entries that it is.
use Rattle.std.specs.Prelude.{◌≡◌, ℕ, Bool, true, false, not, List, [], ◌∷◌, map, ℤ, Option, Some, None, is_some, option_map, cond}
use Rattle.std.specs.List.{find}
use Rattle.std.specs.Option.{option_map_or}
use Rattle.std.specs.FinMap.Entries.{by_order}
use Rattle.std.specs.Ordering.{nat_cmp, eq_by_cmp, is_eq}
use Rattle.std.specs.declared.cmp.Ordering.{Ordering}
use Rattle.std.specs.declared.cmp.Ordering.TheVariants.{Less, Equal, Greater}
use Rattle.std.specs.Cmp.{IsTotalOrder, nat_cmp_total, tied_itself}
use Rattle.std.specs.FinMap.{nat_cmp-IsAntisymmetric}
use Rattle.std.proofs.Common.{refl, sym, ap, ◌∙◌, inl, inr, true≢false}
use Rattle.ecs_id.specs.declared.EntityId.{EntityId}
use Rattle.ecs_id.specs.Id.{plain}
use Rattle.ecs_model.specs.Map.{Map, value_at, has_key, with_value, without, keys}
use Rattle.ecs_model.specs.Schema.{Schema}
use Rattle.ecs_model.specs.World.{WorldState, Key, key_cmp, component, is_live, entity_at, entities, name_of}
use Rattle.ecs_model.specs.steps.Outcomes.{next_entity, with_born, with_named, with_component, counted, differences}
use Rattle.ecs_model.specs.steps.Step.{Fresh, Entity, Component, effect, written_by}
use Rattle.ecs_model.specs.steps.WellFormed.{IsWellFormed}
use Rattle.ecs_model.proofs.Maps.{key_cmp_total, key_cmp_same, eq_itself, value_at-with_value}
use Rattle.ecs_model.proofs.Reasons.{next_is_free}
use Rattle.ecs_model.proofs.Births.{with_birth}
use Rattle.ecs_model.proofs.MadeEntities.{no_fact}

module _ {K : Type 0} (R : K → K → Ordering) (o : IsTotalOrder R) where
  -- the first key is there, and so are those after it
  first_held : {X : Type 0} (x : K × X) (xs : Map K X) → has_key R (x ∷ xs) x.0 ≡ true
  first_held x xs = ap (λ b. is_some (cond b (Some x.1) (value_at R xs x.0))) (eq_itself R o x.0)

  held_behind : {X : Type 0} (x : K × X) (xs : Map K X) (q : K) → has_key R xs q ≡ true → has_key R (x ∷ xs) q ≡ true
  held_behind x xs q h = by (eq_by_cmp R q x.0)
    where
      by : (b : Bool) → is_some (cond b (Some x.1) (value_at R xs q)) ≡ true
      by true = refl
      by false = h

  -- without its own keys a map is empty
  pub without_all : {X : Type 0} (m : Map K X) (test : K → Bool) → ((q : K) → has_key R m q ≡ true → test q ≡ true) → without R m test ≡ []
  without_all [] test h = refl
  without_all (x ∷ xs) test h =
      ap (λ b. cond (not b) (x ∷ without R xs test) (without R xs test)) (h x.0 (first_held x xs)) ∙ without_all xs test (λ q t. h q (held_behind x xs q t))

  -- a key that ties with the first is there
  tied_held : {X : Type 0} (k : K) (x : K × X) (xs : Map K X) → R k x.0 ≡ Equal → has_key R (x ∷ xs) k ≡ true
  tied_held k x xs p = ap (λ r. is_some (cond (is_eq r) (Some x.1) (value_at R xs k))) p

  -- of a map with a new key, without the keys that it had, the new entry is left
  pub new_entry : {X : Type 0} (m : Map K X) (k : K) (x : X) (test : K → Bool) → test k ≡ false → ((q : K) → has_key R m q ≡ true → test q ≡ true)
      → without R (with_value R m k x) test ≡ (k, x) ∷ []
  new_entry [] k x test new h = ap (λ b. cond (not b) ((k, x) ∷ []) []) new
  new_entry (y ∷ ys) k x test new h = by (R k y.0) refl (new_entry ys k x test new (λ q t. h q (held_behind y ys q t)))
    where
      by : (r : Ordering) → R k y.0 ≡ r → without R (with_value R ys k x) test ≡ (k, x) ∷ []
          → without R (by_order r ((k, x) ∷ y ∷ ys) ((y.0, x) ∷ ys) (y ∷ with_value R ys k x)) test ≡ (k, x) ∷ []
      by Less p rest = λ i. cond (not (new i)) ((k, x) ∷ without_all (y ∷ ys) test h i) (without_all (y ∷ ys) test h i)
      by Equal p rest = absurd (true≢false (sym (h k (tied_held k y ys p)) ∙ new))
      by Greater p rest = ap (λ b. cond (not b) (y ∷ without R (with_value R ys k x) test) (without R (with_value R ys k x) test)) (h y.0 (first_held y ys)) ∙ rest

  -- and the new key is the one found
  pub find_new : {X : Type 0} (m : Map K X) (k : K) (x : X) (test : K → Bool) → test k ≡ true → ((q : K) → has_key R m q ≡ true → test q ≡ false)
      → find test (keys (with_value R m k x)) ≡ Some k
  find_new [] k x test new h = ap (λ b. cond b (Some k) None) new
  find_new (y ∷ ys) k x test new h = by (R k y.0) refl (find_new ys k x test new (λ q t. h q (held_behind y ys q t)))
    where
      by : (r : Ordering) → R k y.0 ≡ r → find test (keys (with_value R ys k x)) ≡ Some k
          → find test (keys (by_order r ((k, x) ∷ y ∷ ys) ((y.0, x) ∷ ys) (y ∷ with_value R ys k x))) ≡ Some k
      by Less p rest = ap (λ b. cond b (Some k) (find test (keys (y ∷ ys)))) new
      by Equal p rest = absurd (true≢false (sym new ∙ h k (tied_held k y ys p)))
      by Greater p rest = ap (λ b. cond b (Some y.0) (find test (keys (with_value R ys k x)))) (h y.0 (first_held y ys)) ∙ rest

  -- the second of two values at a key stands
  pub last_value : {X : Type 0} (m : Map K X) (k : K) (x y : X) → with_value R (with_value R m k x) k y ≡ with_value R m k y
  last_value [] k x y = ap (λ r. by_order r ((k, y) ∷ (k, x) ∷ []) ((k, y) ∷ []) ((k, x) ∷ (k, y) ∷ [])) (tied_itself o k)
  last_value (e ∷ es) k x y = by (R k e.0) refl (last_value es k x y)
    where
      by : (r : Ordering) → R k e.0 ≡ r → with_value R (with_value R es k x) k y ≡ with_value R es k y
          → with_value R (by_order r ((k, x) ∷ e ∷ es) ((e.0, x) ∷ es) (e ∷ with_value R es k x)) k y ≡ by_order r ((k, y) ∷ e ∷ es) ((e.0, y) ∷ es) (e ∷ with_value R es k y)
      by Less p rest = ap (λ r. by_order r ((k, y) ∷ (k, x) ∷ e ∷ es) ((k, y) ∷ e ∷ es) ((k, x) ∷ with_value R (e ∷ es) k y)) (tied_itself o k)
      by Equal p rest = ap (λ r. by_order r ((k, y) ∷ (e.0, x) ∷ es) ((e.0, y) ∷ es) ((e.0, x) ∷ with_value R es k y)) p
      by Greater p rest =
          ap (λ r. by_order r ((k, y) ∷ e ∷ with_value R es k x) ((e.0, y) ∷ with_value R es k x) (e ∷ with_value R (with_value R es k x) k y)) p
          ∙ ap (λ xs. e ∷ xs) rest

  module _ (same : (x y : K) → R x y ≡ Equal → x ≡ y) where
    -- a key that was there is there with one more value
    pub still_held : {X : Type 0} (m : Map K X) (k : K) (x : X) (q : K) → has_key R m q ≡ true → has_key R (with_value R m k x) q ≡ true
    still_held m k x q h = elim (value_at-with_value R o same m k x q) [ inl p ↦ ap is_some p.1 | inr p ↦ ap is_some p.1 ∙ h ]

-- a world with a new entity
of_birth : (w : WorldState) (e : EntityId) (names : Map ℕ (List ℕ)) (schemas : Map ℕ Schema) (facts : Map Key (List ℤ)) (came : List Key) → is_live w e.index ≡ false
    → keys (without key_cmp facts (has_key key_cmp w.facts)) ≡ came → keys (without key_cmp w.facts (has_key key_cmp facts)) ≡ []
    → differences w (with_birth w e.index e.generation names schemas facts) [] ≡ record { born = Some e; died = []; came = came; went = []; written = [] }
unfolding differences
of_birth w e names schemas facts came fresh c g = λ i. record {
  born = born i;
  died =
      map (λ d. (record { index = d.0; generation = d.1 }, name_of w d.0))
      (without_all nat_cmp nat_cmp_total w.live (is_live v) (still_held nat_cmp nat_cmp_total nat_cmp-IsAntisymmetric w.live e.index e.generation) i);
  came = c i;
  went = g i;
  written = [];
}
  where
    v : WorldState
    v = with_birth w e.index e.generation names schemas facts

    at : (o : Option ℕ) → o ≡ Some e.generation → option_map (λ g. record { index = e.index; generation = g }) o ≡ Some e
    at o p = ap (option_map (λ g. record { index = e.index; generation = g })) p

    there : entity_at v e.index ≡ Some e
    there =
        elim (value_at-with_value nat_cmp nat_cmp_total nat_cmp-IsAntisymmetric w.live e.index e.generation e.index) [
          | inl p ↦ at (value_at nat_cmp v.live e.index) p.1
          | inr p ↦ absurd (p.0 refl)
        ]

    born : option_map_or (entity_at v) (find (λ j. not (is_live w j)) (entities v)) None ≡ Some e
    born =
        ap (λ o. option_map_or (entity_at v) o None)
        (find_new nat_cmp nat_cmp_total w.live e.index e.generation (λ j. not (is_live w j)) (ap not fresh) (λ j l. ap not l))
        ∙ there

-- no fact comes, and none goes
same_facts : (w : WorldState) → keys (without key_cmp w.facts (has_key key_cmp w.facts)) ≡ []
same_facts w = ap keys (without_all key_cmp key_cmp_total w.facts (has_key key_cmp w.facts) (λ q l. l))

-- a new entity comes alone
pub differences_of_birth : (w : WorldState) (e : EntityId) → next_entity w ≡ Some e
    → differences w (counted (effect w Fresh)) (written_by Fresh) ≡ record { born = Some e; died = []; came = []; went = []; written = [] }
unfolding effect with_born
differences_of_birth w e next =
    ap (λ o. differences w (counted (with_born w o)) []) next ∙ of_birth w e w.names w.schemas w.facts [] (next_is_free w e next).fresh (same_facts w) (same_facts w)

-- and so does one with a name
pub differences_of_named_birth : (w : WorldState) (n : List ℕ) (e : EntityId) → next_entity w ≡ Some e
    → differences w (counted (effect w (Entity n))) (written_by (Entity n)) ≡ record { born = Some e; died = []; came = []; went = []; written = [] }
unfolding effect with_named
differences_of_named_birth w n e next =
    ap (λ o. differences w (counted (with_named w n o)) []) next
    ∙ of_birth w e (with_value nat_cmp w.names e.index n) w.schemas w.facts [] (next_is_free w e next).fresh (same_facts w) (same_facts w)

-- facts with one that wasn't there
new_fact : (w : WorldState) (k : Key) (x : List ℤ) → has_key key_cmp w.facts k ≡ false
    → keys (without key_cmp (with_value key_cmp w.facts k x) (has_key key_cmp w.facts)) ≡ k ∷ []
new_fact w k x new = ap keys (new_entry key_cmp key_cmp_total w.facts k x (has_key key_cmp w.facts) new (λ q l. l))

none_goes : (w : WorldState) (k : Key) (x : List ℤ) → keys (without key_cmp w.facts (has_key key_cmp (with_value key_cmp w.facts k x))) ≡ []
none_goes w k x = ap keys (without_all key_cmp key_cmp_total w.facts (has_key key_cmp (with_value key_cmp w.facts k x)) (still_held key_cmp key_cmp_total key_cmp_same w.facts k x))

-- a new component comes with the fact that it is one
pub differences_of_component : (w : WorldState) (n : List ℕ) (fs : Schema) (e : EntityId) → IsWellFormed w → next_entity w ≡ Some e
    → differences w (counted (effect w (Component n fs))) (written_by (Component n fs))
    ≡ record { born = Some e; died = []; came = (e.index, plain component) ∷ []; went = []; written = [] }
unfolding effect with_component
differences_of_component w n fs e sound next =
    let free = next_is_free w e next in
    let k : Key = (e.index, plain component) in
    ap (λ o. differences w (counted (with_component w n fs o)) []) next
    ∙ of_birth w e (with_value nat_cmp w.names e.index n) (with_value nat_cmp w.schemas e.index fs) (with_value key_cmp w.facts k []) (k ∷ []) free.fresh
    (new_fact w k [] (no_fact w e.index sound free.fresh (plain component))) (none_goes w k [])
