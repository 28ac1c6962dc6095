-- All who may have moved of a tied query, or where no fact matters for others, are found in steps: whoever's facts do; whoever's facts matter for those below, and those below;
-- and then those whose own facts came or went, and those who hold a pair with one of these.
use Rattle.std.specs.Prelude.{◌≡◌, ◌↔◌, ◌+◌, ◌<◌, ℕ, Bool, true, false, cond, List, [], ◌∷◌, ◌++◌, filter, flat_map, length, map, take, if◌then◌else◌}
use Rattle.std.specs.List.{Contains}
use Rattle.std.proofs.Common.{refl, sym, ap, subst, ◌∙◌, append_assoc, arith, get_or}
use Rattle.std.proofs.lemmas.Grind.{flat_map-append}
use Rattle.std.proofs.lemmas.List.{map-append}
use Rattle.std.proofs.lemmas.List.Elements.{Contains-append_left, Contains-append_right, filter_more}
use Rattle.ecs_id.specs.Id.{Id}
use Rattle.ecs_model.specs.steps.Outcomes.{Changed}
use Rattle.ecs_model.specs.World.{WorldState, Key}
use Rattle.ecs_model.proofs.Members.{in_flat_map}
use Rattle.query_model.specs.Query.{Query}
use Rattle.watch_concerns.specs.Concerns.{concerns}
use Rattle.watch_concerns.specs.Others.{concerns_below, concerns_others}
use Rattle.watch_touched.specs.Leaning.{Adds, HasAllBelow, concerns_beyond, leaning, moves_by}
use Rattle.watch_touched.specs.Moving.{AreMoving, AreTargets, entities_by, entities_of}
use Rattle.watch_touched.proofs.GrownLists.{and_then, still}

module _ (q : Query) (w : WorldState) (changed : Changed) where
  all_targets : (others below targets : List ℕ) → ((e : ℕ) → Contains others e ↔ Contains (entities_of (concerns_others q) changed) e)
      → HasAllBelow (λ ids. concerns_beyond q) w (entities_of (concerns_below q) changed) below → targets ≡ others ++ below → AreTargets q w changed targets
  all_targets others below targets are_others all_below are =
      let put = λ (e : ℕ) (h : Contains (others ++ below) e). subst (λ (es : List ℕ). Contains es e) (sym are) h in record {
        others = λ x h. put x (Contains-append_left others below x ((are_others x).1 h));
        below = λ x e h reached. put e (Contains-append_right others below e (all_below x e h reached));
      }

  -- who moves by a fact of a target is added for those first whose facts concern others, and then for those below
  pub all_moving : (own others below targets between holders moving : List ℕ) → ((e : ℕ) → Contains own e ↔ Contains (entities_of (concerns q) changed) e)
      → ((e : ℕ) → Contains others e ↔ Contains (entities_of (concerns_others q) changed) e) → HasAllBelow (λ ids. concerns_beyond q) w (entities_of (concerns_below q) changed) below
      → targets ≡ others ++ below → Adds (flat_map (leaning (moves_by q) w) others) own between → Adds (flat_map (leaning (moves_by q) w) below) between holders
      → ((e : ℕ) → Contains moving e ↔ Contains holders e) → AreMoving q w changed moving
  all_moving own others below targets between holders moving are_own are_others all_below are first second same =
      let next = leaning (moves_by q) w in
      let both = and_then (flat_map next others) (flat_map next below) own between holders first second in
      let adds : Adds (flat_map next targets) own holders = subst (λ (a : List ℕ). Adds a own holders) (sym (flat_map-append next others below) ∙ ap (flat_map next) (sym are)) both in record {
        own = λ e h. (same e).1 (still (flat_map next targets) own holders adds e ((are_own e).1 h));
        targets = targets;
        are_targets = all_targets others below targets are_others all_below are;
        held = λ x e h on. (same e).1 (adds.all e (in_flat_map next targets x e h on));
      }

-- ---- where no fact concerns others or those below

nobody_in : (es : List ℕ) → es ≡ [] → (x : ℕ) → Contains es x → ⊥
nobody_in [] none x h = omega (arith, h.1)
nobody_in (y ∷ ys) none x h = absurd cc

pub nobody : (xs ys : List ℕ) → xs ≡ ys → length xs ≡ 0 → ys ≡ []
nobody [] ys same e = sym same
nobody (x ∷ xs) ys same e = absurd (omega (arith, e))

-- those whose own facts came or went are all who may have moved
pub own_move : (q : Query) (w : WorldState) (changed : Changed) (own : List ℕ) → ((e : ℕ) → Contains own e ↔ Contains (entities_of (concerns q) changed) e)
    → entities_of (concerns_others q) changed ≡ [] → entities_of (concerns_below q) changed ≡ [] → AreMoving q w changed own
own_move q w changed own are_own others below = record {
  own = λ e h. (are_own e).1 h;
  targets = [];
  are_targets = record {
    others = λ x h. absurd (nobody_in (entities_of (concerns_others q) changed) others x h);
    below = λ x e h reached. absurd (nobody_in (entities_of (concerns_below q) changed) below x h);
  };
  held = λ x e h on. absurd (omega (arith, h.1));
}

-- ---- one more fact, whose entity is added if its id passes

picked : (b : Bool) (k : Key) → map (λ (k : Key). k.0) (cond b (k ∷ []) []) ≡ (if b then k.0 ∷ [] else [])
picked true k = refl
picked false k = refl

pub gathered_more : (p : Id → Bool) (ks : List Key) (i : ℕ) (d : Key) (initial old new : List ℕ) (b : Bool) (e : ℕ) → i < length ks → old ≡ initial ++ entities_by p (take i ks)
    → b ≡ p (get_or ks i d).1 → e ≡ (get_or ks i d).0 → new ≡ old ++ (if b then e ∷ [] else []) → new ≡ initial ++ entities_by p (take (i + 1) ks)
gathered_more p ks i d initial old new b e lt was is same now =
    let k = get_or ks i d in
    let passes : Key → Bool = λ k. p k.1 in
    let one : List ℕ = if b then e ∷ [] else [] in
    let front = entities_by p (take i ks) in
    let more : entities_by p (take (i + 1) ks) ≡ front ++ (if p k.1 then k.0 ∷ [] else []) =
    ap (map (λ (k : Key). k.0)) (filter_more passes ks i d lt) ∙ map-append (λ (k : Key). k.0) (filter passes (take i ks)) (cond (p k.1) (k ∷ []) []) ∙ ap (λ ys. front ++ ys) (picked (p k.1) k) in
    now ∙ ap (λ ys. ys ++ one) was ∙ append_assoc initial front one ∙ (λ j. initial ++ (front ++ (if is j then same j ∷ [] else []))) ∙ ap (λ ys. initial ++ ys) (sym more)
