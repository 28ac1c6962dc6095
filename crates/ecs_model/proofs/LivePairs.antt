-- Who lives, and to whom the pairs of a relationship lead.
use Rattle.std.proofs.Common.{◌≡◌, ℕ, suc, ◌<◌, ◌≤◌, ◌==◌, IsTrue, Bool, true, false, cond, List, ◌∷◌, length, get_or, take, drop, drop-cons, Some, None, refl, sym, arith}
use Rattle.std.specs.List.{All, Contains}
use Rattle.std.proofs.lemmas.List.{take-append-drop}
use Rattle.std.proofs.lemmas.List.Elements.{All-contains, Contains-append_right, Contains-get_or, filter_map-append}
use Rattle.ecs_id.specs.Id.{Id, plain, pair, id_eq, id_eq_itself, id_eq_same, mentioned}
use Rattle.ecs_model.specs.Links.{AreLinks, is_held, target_under, targets_in, upward}
use Rattle.ecs_model.proofs.Members.{any_passes, eq_itself, eq_same, from_filter_map, passing}

-- the target of a pair that is gone through is among the targets
pub target_there : (xs : List Id) (r p t : ℕ) (i : Id) → p < length xs → i ≡ get_or xs p i → target_under r i ≡ Some t → Contains (targets_in xs r) t
target_there xs r p t i l e is =
    rw (← take-append-drop p xs, filter_map-append (target_under r) (take p xs) (drop p xs), drop-cons xs p i l, ← e, is)
    (Contains-append_right (targets_in (take p xs) r) (t ∷ targets_in (drop (suc p) xs) r) t (0, omega arith, refl))

target_mentioned : (entities : List ℕ) (r t : ℕ) (i : Id) → target_under r i ≡ Some t → All (Contains entities) (mentioned i) → Contains entities t
target_mentioned entities r t (plain c) e a = absurd cc
target_mentioned entities r t (pair q u) e a = by (q == r) e
  where
    by : (same : Bool) → cond same (Some u) None ≡ Some t → Contains entities t
    by true e = let same : u ≡ t = cc in rw (← same) (a 1 0 (omega arith))
    by false e = absurd cc

-- what a relationship leads to lives, and is below the size
pub upward_lives : {n : ℕ} {entities : List ℕ} {ids : ℕ → List Id} → AreLinks n entities ids → (r x y : ℕ) → Contains (upward ids r x) y → Contains entities y
upward_lives {entities = entities} {ids = ids} links r x y h =
    let f = from_filter_map (target_under r) (ids x) y h in
    target_mentioned entities r y f.0 f.2 (links.live x f.0 f.1)

pub upward_below : {n : ℕ} {entities : List ℕ} {ids : ℕ → List Id} → AreLinks n entities ids → (r m : ℕ) → n ≤ m → (x : ℕ) → All (λ y. y < m) (upward ids r x)
upward_below {ids = ids} links r m l x k d in' =
    let there = upward_lives links r x (get_or (upward ids r x) k d) (Contains-get_or (upward ids r x) k d in') in
    omega (arith, links.below _ there)

-- so is the target of a pair that is gone through
pub next_below : {n : ℕ} {entities : List ℕ} {ids : ℕ → List Id} → AreLinks n entities ids → (r m : ℕ) → n ≤ m → (e p t : ℕ) (i : Id) → p < length (ids e) → i ≡ get_or (ids e) p i
    → target_under r i ≡ Some t → t < m
next_below {ids = ids} links r m l e p t i in' there is = All-contains (λ y. y < m) (upward ids r e) t (upward_below links r m l e) (target_there (ids e) r p t i in' there is)

-- who holds the pair of a relationship and a target, leads to the target
pub pair_of : (r t : ℕ) (i : Id) → i ≡ pair r t → target_under r i ≡ Some t
pair_of r t i e = rw (e, eq_itself r) refl

pub of_pair : (r t : ℕ) (i : Id) → target_under r i ≡ Some t → i ≡ pair r t
of_pair r t (plain c) e = absurd cc
of_pair r t (pair q u) e = by (q == r) refl e
  where
    by : (b : Bool) → (q == r) ≡ b → cond b (Some u) None ≡ Some t → pair q u ≡ pair r t
    by true s e = let first : q ≡ r = eq_same q r s in let second : u ≡ t = cc in cc
    by false s e = absurd cc

-- an entity leads to a target by one step where it holds the pair
pub held_leads : (ids : ℕ → List Id) (r s t : ℕ) → IsTrue (is_held (ids s) (pair r t)) → Contains (upward ids r s) t
held_leads ids r s t h =
    let i = passing (λ j. id_eq j (pair r t)) (ids s) h in
    target_there (ids s) r (i.1).0 t i.0 (i.1).1 (sym (i.1).2) (pair_of r t i.0 (id_eq_same i.0 (pair r t) i.2))

pub leads_held : (ids : ℕ → List Id) (r s t : ℕ) → Contains (upward ids r s) t → IsTrue (is_held (ids s) (pair r t))
leads_held ids r s t h =
    let i = from_filter_map (target_under r) (ids s) t h in
    any_passes (λ j. id_eq j (pair r t)) (ids s) i.0 i.1 (rw (of_pair r t i.0 i.2) (id_eq_itself (pair r t)))
