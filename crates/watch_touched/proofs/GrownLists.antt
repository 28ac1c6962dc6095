-- Lists that have grown, and have all that were wanted.
use Rattle.std.specs.Prelude.{◌≡◌, ℕ, ◌+◌, ◌<◌, ◌==◌, ◌&&◌, Bool, true, false, cond, List, [], ◌∷◌, ◌++◌, None, filter, flat_map, length, map, take, if◌then◌else◌}
use Rattle.std.specs.List.{Contains, list_any}
use Rattle.std.proofs.Common.{refl, sym, ap, subst, ◌∙◌, inl, inr, append_assoc, arith, get_or}
use Rattle.std.proofs.lemmas.Bool.{and_parts}
use Rattle.std.proofs.lemmas.Grind.{flat_map-append}
use Rattle.std.proofs.lemmas.List.{map-append, take_more}
use Rattle.std.proofs.lemmas.List.Elements.{Contains-append_cases, Contains-append_left, Contains-append_right, filter-append}
use Rattle.id_pattern.specs.Patterns.{matches}
use Rattle.ecs_id.specs.Id.{Id, plain, pair, second_of}
use Rattle.ecs_model.specs.World.{WorldState, entities, ids_of}
use Rattle.ecs_model.proofs.Members.{any_passes, eq_same, filtered, head_or_tail, passing}
use Rattle.watch_touched.specs.Leaning.{Adds, leaning, leans, pairs_to, target_of}

-- whoever was there still is
pub still : (a x y : List ℕ) → Adds a x y → (e : ℕ) → Contains x e → Contains y e
still a x y h e m = subst (λ zs. Contains zs e) (sym h.behind) (Contains-append_left x h.more e m)

pub nothing_behind : (xs : List ℕ) → xs ≡ xs ++ []
nothing_behind [] = refl
nothing_behind (x ∷ xs) = ap (λ ys. x ∷ ys) (nothing_behind xs)

-- all that are wanted may be there already
pub already : (a x : List ℕ) → ((e : ℕ) → Contains a e → Contains x e) → Adds a x x
already a x there = record { more = []; behind = nothing_behind x; all = there }

-- of nobody nothing is wanted
pub nothing_wanted : (next : ℕ → List ℕ) (xs x : List ℕ) → length xs ≡ 0 → Adds (flat_map next xs) x x
nothing_wanted next [] x none = already [] x (λ e m. absurd (omega (arith, m.1)))
nothing_wanted next (y ∷ ys) x none = absurd (omega (arith, none))

-- it grows in two steps
pub and_then : (a b x y z : List ℕ) → Adds a x y → Adds b y z → Adds (a ++ b) x z
and_then a b x y z h k = record {
  more = h.more ++ k.more;
  behind = k.behind ∙ ap (λ zs. zs ++ k.more) h.behind ∙ append_assoc x h.more k.more;
  all = λ e m. elim (Contains-append_cases a b e m) [ inl first ↦ still b y z k e (h.all e first) | inr later ↦ k.all e later ];
}

-- fewer may be wanted
pub fewer : (a b x y : List ℕ) → Adds a x y → ((e : ℕ) → Contains b e → Contains a e) → Adds b x y
fewer a b x y h less = record { more = h.more; behind = h.behind; all = λ e m. h.all e (less e m) }

-- all who lean on an entity are among those who hold a pair with it
module _ (p : List Id → Id → Bool) (w : WorldState) (x : ℕ) (holders : List ℕ)
    (exactly : (e : ℕ) → Contains (filter (λ e. list_any (matches (pairs_to x)) (ids_of w e)) (entities w)) e → Contains holders e) where
  pub leaning_are_holders : (e : ℕ) → Contains (leaning p w x) e → Contains (filter (leans p w x) holders) e
  leaning_are_holders e h =
      let f = (filtered (leans p w x) (entities w) e).0 h in
      let found = passing (λ i. matches (pairs_to x) i && p (ids_of w e) i) (ids_of w e) f.1 in
      let i : Id = found.0 in
      let pair_held = any_passes (matches (pairs_to x)) (ids_of w e) i found.1 (and_parts _ _ found.2).0 in
      (filtered (leans p w x) holders e).1 (exactly e ((filtered (λ e. list_any (matches (pairs_to x)) (ids_of w e)) (entities w) e).1 (f.0, pair_held)), f.1)

-- whoever is there already needn't be added
pub there_already : (xs : List ℕ) (x : ℕ) → list_any (λ y. y == x) xs ≡ true → Adds (x ∷ []) xs xs
there_already xs x h =
    let found = passing (λ y. y == x) xs h in
    already (x ∷ []) xs
    (λ e m. elim (head_or_tail x e [] m) [ inl same ↦ subst (Contains xs) (eq_same found.0 x found.2 ∙ same) found.1 | inr none ↦ absurd (omega (arith, none.1)) ])

-- ---- one more item of a list

pub added : {X : Type 0} (index : X → ℕ) (xs : List X) (i : ℕ) → i < length xs → (d : X) (x y z : List ℕ) → Adds (map index (take i xs)) x y → Adds (index (get_or xs i d) ∷ []) y z → Adds (map index (take (i + 1) xs)) x z
added index xs i inside d x y z h k =
    subst (λ a. Adds a x z) (sym (ap (map index) (take_more xs i d inside) ∙ map-append index (take i xs) (get_or xs i d ∷ [])))
    (and_then (map index (take i xs)) (index (get_or xs i d) ∷ []) x y z h k)

more_of : {X : Type 0} (next : X → List ℕ) (xs : List X) (x : X) → flat_map next (xs ++ (x ∷ [])) ≡ flat_map next xs ++ next x
more_of next xs x = flat_map-append next xs (x ∷ []) ∙ ap (λ ys. flat_map next xs ++ ys) (sym (nothing_behind (next x)))

-- all that one more item gives
pub given : {X : Type 0} (next : X → List ℕ) (xs : List X) (i : ℕ) → i < length xs → (d : X) (x y z : List ℕ) → Adds (flat_map next (take i xs)) x y → Adds (next (get_or xs i d)) y z → Adds (flat_map next (take (i + 1) xs)) x z
given next xs i inside d x y z h k =
    subst (λ a. Adds a x z) (sym (ap (flat_map next) (take_more xs i d inside) ∙ more_of next (take i xs) (get_or xs i d))) (and_then (flat_map next (take i xs)) (next (get_or xs i d)) x y z h k)

-- those of it that pass a test
pub given_within : {X : Type 0} (p : ℕ → Bool) (next : X → List ℕ) (xs : List X) (i : ℕ) → i < length xs → (d : X) (x y z : List ℕ) → Adds (filter p (flat_map next (take i xs))) x y → Adds (filter p (next (get_or xs i d))) y z
    → Adds (filter p (flat_map next (take (i + 1) xs))) x z
given_within p next xs i inside d x y z h k =
    subst (λ a. Adds a x z)
    (sym (ap (λ ys. filter p (flat_map next ys)) (take_more xs i d inside) ∙ ap (filter p) (more_of next (take i xs) (get_or xs i d)) ∙ filter-append p (flat_map next (take i xs)) (next (get_or xs i d))))
    (and_then (filter p (flat_map next (take i xs))) (filter p (next (get_or xs i d))) x y z h k)

-- ---- those of a list that pass a test

module _ (p : ℕ → Bool) where
  -- one alone, whether it passes or not
  pub kept_of_one : (e : ℕ) (x y : List ℕ) → Adds (e ∷ []) x y → Adds (filter p (e ∷ [])) x y
  kept_of_one e x y h = fewer (e ∷ []) (filter p (e ∷ [])) x y h (λ z m. ((filtered p (e ∷ []) z).0 m).0)

  pub one_behind : (e : ℕ) (x y : List ℕ) → y ≡ x ++ (e ∷ []) → Adds (filter p (e ∷ [])) x y
  one_behind e x y is = kept_of_one e x y (record { more = e ∷ []; behind = is; all = λ z m. subst (λ zs. Contains zs z) (sym is) (Contains-append_right x (e ∷ []) z m) })

  pub none_of_one : (e : ℕ) (x : List ℕ) → p e ≡ false → Adds (filter p (e ∷ [])) x x
  none_of_one e x fails = subst (λ b. Adds (cond b (e ∷ []) []) x x) (sym fails) (already [] x (λ z m. absurd (omega (arith, m.1))))

-- ---- the target of a pair

module _ (p : Id → Bool) where
  pub no_target : (i : Id) (found : List ℕ) → second_of i ≡ None → Adds (target_of p i) found found
  no_target (plain c) found h = already [] found (λ e m. absurd (omega (arith, m.1)))
  no_target (pair r x) found h = absurd cc

  pub fails_as_pair : (i : Id) (found : List ℕ) → p i ≡ false → Adds (target_of p i) found found
  fails_as_pair (plain c) found h = already [] found (λ e m. absurd (omega (arith, m.1)))
  fails_as_pair (pair r x) found h = subst (λ a. Adds a found found) (ap (λ b. if b then x ∷ [] else []) (sym h)) (already [] found (λ e m. absurd (omega (arith, m.1))))
