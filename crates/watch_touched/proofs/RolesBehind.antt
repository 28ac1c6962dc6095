-- Back from the entity of a variable, to those of variables before it, all are found from whom terms lead there: so all are found for whom those may stand of whom a fact came or went, and all from whom they are reached.
use Rattle.std.specs.Prelude.{◌≡◌, ℕ, zero, suc, ◌<◌, ◌≤◌, Bool, true, false, ◌&&◌, List, [], ◌∷◌, ◌++◌, flat_map, if◌then◌else◌}
use Rattle.std.specs.List.{Contains, range_with_len}
use Rattle.std.proofs.Common.{refl, sym, ap, subst, ◌∙◌, inl, inr, arith}
use Rattle.std.proofs.lemmas.Bool.{and_parts, cases_Bool, ltb-true}
use Rattle.std.proofs.lemmas.List.Elements.{Contains-append_cases, Contains-append_right}
use Rattle.std.proofs.lemmas.List.FromFn.{get_or-range_with_len, length-range_with_len}
use Rattle.id_pattern.specs.Patterns.{matches}
use Rattle.ecs_id.specs.Id.{Id, plain, pair}
use Rattle.ecs_model.specs.steps.Outcomes.{Changed}
use Rattle.ecs_model.specs.World.{WorldState, Key, entities, ids_of}
use Rattle.ecs_model.proofs.Members.{filtered, from_flat_map, head_or_tail, in_flat_map, passing}
use Rattle.query_model.specs.declared.query.Term.{Term}
use Rattle.query_model.specs.Query.{Query}
use Rattle.watch_concerns.specs.Linked.{is_linked}
use Rattle.watch_concerns.specs.Roles.{is_linked_by, leads_in}
use Rattle.watch_touched.specs.Leaning.{leans, pairs_to, target_of}
use Rattle.watch_touched.specs.Roles.{AreRoles, behind, holders_as, holds_as, ids_of_both, is_asked_of, roles_behind, roles_of, roles_of_fact, stands_for, targets_as}
use Rattle.watch_touched.proofs.StayingRoles.{leads_in_below, leads_out_below}

-- ---- numbers below one

in_range : (n u : ℕ) → u < n → Contains (range_with_len 0 n) u
in_range n u low = (u, omega (arith, length-range_with_len 0 n), get_or-range_with_len 0 n u u low ∙ omega arith)

pub below_range : (n u : ℕ) → Contains (range_with_len 0 n) u → u < n
below_range n u c =
    let k : ℕ = c.0 in
    let low : k < n = omega (arith, c.1, length-range_with_len 0 n) in
    let is = get_or-range_with_len 0 n k u low in
    let same = c.2 in
    omega (arith, low, is, same)

-- ---- pairs lead back to variables before

-- what passes leads to a target
pub passes_target : (p : Id → Bool) (i : Id) (x : ℕ) → Contains (target_of p i) x → p i ≡ true
passes_target p (plain c) x h = absurd (omega (arith, h.1))
passes_target p (pair r y) x h = decided (p (pair r y)) h
  where
    decided : (b : Bool) → Contains (if b then y ∷ [] else []) x → b ≡ true
    decided true c = refl
    decided false c = absurd (omega (arith, c.1))

module _ (q : Query) (w : WorldState) (by : ℕ → Term → Bool) (changed : Changed) where
  behind_below : (u s x z : ℕ) → Contains (behind q w by changed u s z) x → u < s
  behind_below u s x z h = elim (Contains-append_cases (holders_as q w by changed u s z) (targets_as q w by changed u s z) x h) [
    | inl holds ↦
        let p = holds_as q w by changed u s in
        let f = (filtered (leans p w z) (entities w) x).0 holds in
        let found = passing (λ i. matches (pairs_to z) i && p (ids_of w x) i) (ids_of w x) f.1 in
        ltb-true u s (leads_out_below by q u s found.0 (and_parts _ _ (and_parts _ _ found.2).1).0)
    | inr held ↦
        let p = leads_in by q u s in
        let f = (filtered (stands_for q w by changed u) (flat_map (target_of p) (ids_of_both q w by changed z)) x).0 held in
        let found = from_flat_map (target_of p) (ids_of_both q w by changed z) x f.0 in
        ltb-true u s (leads_in_below by q u s found.0 (passes_target p found.0 x found.2))
  ]

  -- ---- all behind one

  starts : (n u x : ℕ) → Contains (roles_behind q w by changed n u x) (u, x)
  starts zero u x = (0, omega arith, refl)
  starts (suc n) u x = (0, omega arith, refl)

  pub behind_closed : (n v y : ℕ) → v ≤ n → (u s x z : ℕ) → Contains (roles_behind q w by changed n v y) (s, z) → Contains (behind q w by changed u s z) x → Contains (roles_behind q w by changed n v y) (u, x)
  behind_closed zero v y low u s x z c h =
      let below : u < s = behind_below u s x z h in
      elim (head_or_tail (v, y) (s, z) [] c) [
        | inl same ↦ let first : v ≡ s = ap (λ (k : ℕ × ℕ). k.0) same in absurd (omega (arith, low, below, first))
        | inr none ↦ absurd (omega (arith, none.1))
      ]
  behind_closed (suc n) v y low u s x z c h =
      let below : u < s = behind_below u s x z h in
      let next : ℕ → List (ℕ × ℕ) = λ u. flat_map (roles_behind q w by changed n u) (behind q w by changed u v y) in
      let rest : List (ℕ × ℕ) = flat_map next (range_with_len 0 v) in
      Contains-append_right ((v, y) ∷ []) rest (u, x) (elim (head_or_tail (v, y) (s, z) rest c) [
        | inl same ↦
            let first : v ≡ s = ap (λ (k : ℕ × ℕ). k.0) same in
            let under : u < v = omega (arith, below, first) in
            let here = subst (λ (k : ℕ × ℕ). Contains (behind q w by changed u k.0 k.1) x) (sym same) h in
            in_flat_map next (range_with_len 0 v) u (u, x) (in_range v u under) (in_flat_map (roles_behind q w by changed n u) (behind q w by changed u v y) x (u, x) here (starts n u x))
        | inr later ↦
            let a = from_flat_map next (range_with_len 0 v) (s, z) later in
            let t : ℕ = a.0 in
            let b = from_flat_map (roles_behind q w by changed n t) (behind q w by changed t v y) (s, z) a.2 in
            let under : t < v = below_range v t a.1 in
            let lower : t ≤ n = omega (arith, under, low) in
            in_flat_map next (range_with_len 0 v) t (u, x) a.1
            (in_flat_map (roles_behind q w by changed n t) (behind q w by changed t v y) b.0 (u, x) b.1 (behind_closed n t b.0 lower u s x z b.2 h))
      ])

  -- ---- all of them

  -- where these are the variables of which any fact is asked
  pub roles_are : (us : List ℕ) → ((u : ℕ) (k : Key) → is_asked_of q w by changed u k ≡ true → Contains us u) → AreRoles q w by changed (roles_of q w by changed us)
  roles_are us all = record {
    asked = λ u k c h. found u k c (all u k h) (u, k.0) h (starts u u k.0);
    closed = λ u v x y c h.
        let k = from_flat_map (roles_of_fact q w by changed us) (changed.came ++ changed.went) (v, y) c in
        let l = from_flat_map (λ u. if is_asked_of q w by changed u k.0 then roles_behind q w by changed u u (k.0).0 else []) us (v, y) k.2 in
        let s : ℕ = l.0 in
        elim (cases_Bool (is_asked_of q w by changed s k.0)) [
          | inl is ↦
              let there = subst (λ b. Contains (if b then roles_behind q w by changed s s (k.0).0 else []) (v, y)) is l.2 in
              found s k.0 k.1 l.1 (u, x) is (behind_closed s s (k.0).0 (omega arith) u v x y there h)
          | inr isnt ↦
              let there : Contains [] (v, y) = subst (λ b. Contains (if b then roles_behind q w by changed s s (k.0).0 else []) (v, y)) isnt l.2 in
              absurd (omega (arith, there.1))
        ];
  }
    where
      found : (u : ℕ) (k : Key) → Contains (changed.came ++ changed.went) k → Contains us u → (z : ℕ × ℕ) → is_asked_of q w by changed u k ≡ true → Contains (roles_behind q w by changed u u k.0) z
          → Contains (roles_of q w by changed us) z
      found u k c mine z is there =
          in_flat_map (roles_of_fact q w by changed us) (changed.came ++ changed.went) k z c
          (in_flat_map (λ u. if is_asked_of q w by changed u k then roles_behind q w by changed u u k.0 else []) us u z mine
          (subst (λ b. Contains (if b then roles_behind q w by changed u u k.0 else []) z) (sym is) there))

-- a linked query is linked by all terms that link its variables
pub linked_by_all : (q : Query) → is_linked q ≡ true → is_linked_by (λ v t. true) q ≡ true
unfolding is_linked is_linked_by
linked_by_all q h = h
