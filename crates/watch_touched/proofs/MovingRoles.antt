-- All who may have moved in or out of a linked query's rows are found in steps: those whose own facts came or went, those who may stand for `$this` behind one of whom a fact did that is asked
-- of another variable, and those who hold a pair with one below whom somebody may.
use Rattle.std.specs.Prelude.{◌≡◌, ◌↔◌, ℕ, suc, ◌<◌, ◌==◌, Bool, true, List, ◌∷◌, filter, flat_map, map}
use Rattle.std.specs.List.{Contains, range_with_len}
use Rattle.std.proofs.lemmas.Bool.{eqb-true}
use Rattle.std.proofs.Common.{◌⊎◌, inl, inr, refl, ap, subst}
use Rattle.ecs_model.specs.steps.Outcomes.{Changed}
use Rattle.ecs_model.specs.World.{WorldState, Key}
use Rattle.ecs_model.proofs.Members.{filtered, from_flat_map, head_or_tail, in_flat_map}
use Rattle.ecs_model.proofs.steps.AddedSets.{from_map, in_map}
use Rattle.query_model.specs.declared.query.Term.{Term}
use Rattle.query_model.specs.Query.{Query}
use Rattle.watch_concerns.specs.Concerns.{concerns}
use Rattle.watch_concerns.specs.Others.{concerns_below}
use Rattle.watch_touched.specs.Leaning.{Adds, HasAllBelow, concerns_beyond, leaning, moves_by}
use Rattle.watch_touched.specs.Moving.{entities_of, may_be_this}
use Rattle.watch_touched.specs.Roles.{AreMovingByRoles, behind, is_asked_of, roles_behind, roles_of, this_among}
use Rattle.watch_touched.proofs.GrownLists.{still}
use Rattle.watch_touched.proofs.RolesBehind.{below_range, roles_are}

module _ (q : Query) (w : WorldState) (by : ℕ → Term → Bool) (changed : Changed) where
  pub is_this_among : (roles : List (ℕ × ℕ)) (e : ℕ) → Contains roles (0, e) → may_be_this q w e ≡ true → Contains (this_among q w by changed roles) e
  is_this_among roles e h fit =
      let test : ℕ × ℕ → Bool = λ k. k.0 == 0 in
      let kept = (filtered test roles (0, e)).1 (h, refl) in
      (filtered (may_be_this q w) (map (λ (k : ℕ × ℕ). k.1) (filter test roles)) e).1 (in_map (λ (k : ℕ × ℕ). k.1) (filter test roles) (0, e) kept, fit)

  -- and the other way round
  pub of_this : (roles : List (ℕ × ℕ)) (e : ℕ) → Contains (this_among q w by changed roles) e → Contains roles (0, e) × (may_be_this q w e ≡ true)
  of_this roles e h =
      let test : ℕ × ℕ → Bool = λ k. k.0 == 0 in
      let f = (filtered (may_be_this q w) (map (λ (k : ℕ × ℕ). k.1) (filter test roles)) e).0 h in
      let k = from_map (λ (k : ℕ × ℕ). k.1) (filter test roles) e f.0 in
      let kept = (filtered test roles k.0).0 k.1 in
      let first : (k.0).0 ≡ 0 = eqb-true (k.0).0 0 kept.1 in
      let second : (k.0).1 ≡ e = k.2 in
      (subst (Contains roles) (λ j. (first j, second j)) kept.0, f.1)

  -- whoever is `$this` behind an entity as that of v is that one, or is behind somebody behind it as that of a variable before
  pub record IsBehind (n v y e : ℕ) : Type 0 where
    pub number : ℕ
    pub entity : ℕ
    pub below : number < v
    pub among : Contains (behind q w by changed number v y) entity
    pub further : Contains (this_among q w by changed (roles_behind q w by changed n number entity)) e

  pub this_behind : (n v y e : ℕ) → Contains (this_among q w by changed (roles_behind q w by changed (suc n) v y)) e → ((v ≡ 0) × (y ≡ e)) ⊎ IsBehind n v y e
  this_behind n v y e h =
      let next : ℕ → List (ℕ × ℕ) = λ u. flat_map (roles_behind q w by changed n u) (behind q w by changed u v y) in
      let rest : List (ℕ × ℕ) = flat_map next (range_with_len 0 v) in
      let found = of_this ((v, y) ∷ rest) e h in
      elim (head_or_tail (v, y) (0, e) rest found.0) [
        | inl same ↦ inl (ap (λ (k : ℕ × ℕ). k.0) same, ap (λ (k : ℕ × ℕ). k.1) same)
        | inr later ↦
            let a = from_flat_map next (range_with_len 0 v) (0, e) later in
            let u : ℕ = a.0 in
            let b = from_flat_map (roles_behind q w by changed n u) (behind q w by changed u v y) (0, e) a.2 in
            inr (record {
              number = u;
              entity = b.0;
              below = below_range v u a.1;
              among = b.1;
              further = is_this_among (roles_behind q w by changed n u b.0) e b.2 found.1;
            })
      ]

  -- us are the variables of which any fact is asked
  pub moving_by_roles : (us : List ℕ) → ((u : ℕ) (k : Key) → is_asked_of q w by changed u k ≡ true → Contains us u) → (own below between holders moving : List ℕ)
      → ((e : ℕ) → Contains own e ↔ Contains (entities_of (concerns q) changed) e) → HasAllBelow (λ ids. concerns_beyond q) w (entities_of (concerns_below q) changed) below
      → Adds (this_among q w by changed (roles_of q w by changed us)) own between → Adds (flat_map (leaning (moves_by q) w) below) between holders
      → ((e : ℕ) → Contains moving e ↔ Contains holders e) → AreMovingByRoles q w by changed moving
  moving_by_roles us all own below between holders moving are_own all_below first second same =
      let roles = roles_of q w by changed us in
      let later = λ (e : ℕ) (h : Contains between e). (same e).1 (still (flat_map (leaning (moves_by q) w) below) between holders second e h) in record {
        own = λ e h. later e (still (this_among q w by changed roles) own between first e ((are_own e).1 h));
        roles = roles;
        are_roles = roles_are q w by changed us all;
        this = λ e h fit. later e (first.all e (is_this_among roles e h fit));
        below = below;
        all_below = all_below;
        held = λ x e h on. (same e).1 (second.all e (in_flat_map (leaning (moves_by q) w) below x e h on));
      }
