-- Who falls with an entity is found through those who hold its pairs, and through its users.
use Rattle.std.proofs.Common.{◌≡◌, ℕ, ◌<◌, ◌≤◌, ◌==◌, ◌⊎◌, ◌↔◌, true, false, ◌&&◌, List, [], ◌∷◌, ◌++◌, length, get_or, Some, None, refl, sym, ap, ◌∙◌, inl, inr, arith, true≢false, IsTrue}
use Rattle.std.specs.Prelude.{map}
use Rattle.std.specs.List.{All, Contains, flat_map, list_any}
use Rattle.std.proofs.lemmas.Bool.Decides.{nat_tests}
use Rattle.std.proofs.lemmas.Grind.{flat_map-append}
use Rattle.std.proofs.lemmas.List.Folds.{flat_map-map}
use Rattle.std.proofs.lemmas.List.Elements.{All-contains, Contains-get_or}
use Rattle.id_pattern.specs.declared.Part.TheVariants.{Is, Any}
use Rattle.id_pattern.specs.declared.Pattern.{Pattern}
use Rattle.id_pattern.specs.Patterns.{matches}
use Rattle.ecs_id.specs.Id.{Id, plain, pair, id_cmp, id_eq, id_eq_itself, id_eq_same}
use Rattle.ecs_model.specs.Cleanup.{deletes_sources, deletes_users, falling, falls_by}
use Rattle.rel_travel.specs.Holders.{holders, holders_of_pair, sources_falling}
use Rattle.ecs_model.specs.Links.{AreLinks, target_under, upward}
use Rattle.ecs_model.proofs.Members.{and_true, any_passes, both, eq_itself, filtered, from_filter_map, from_or, or_left, or_right, passing}
use Rattle.ecs_model.proofs.LivePairs.{of_pair, pair_of, target_there}
use Rattle.ecs_model.proofs.Members.{from_flat_map, in_flat_map}

-- what holds of all pieces holds of one
pub All-piece : {A B : Type 0} (P : B → Type 0) (f : A → List B) (xs : List A) (k : ℕ) (d : A) → k < length xs → All P (flat_map f xs) → All P (f (get_or xs k d))
All-piece P f xs k d l a j e in' =
    All-contains P (flat_map f xs) (get_or (f (get_or xs k d)) j e) a (in_flat_map f xs (get_or xs k d) (get_or (f (get_or xs k d)) j e) (Contains-get_or xs k d l) (Contains-get_or (f (get_or xs k d)) j e in'))

-- pieces of pieces
pub flat_map_twice : {A B C : Type 0} (g : B → List C) (f : A → List B) (xs : List A) → flat_map (λ x. flat_map g (f x)) xs ≡ flat_map g (flat_map f xs)
flat_map_twice g f [] = refl
flat_map_twice g f (x ∷ xs) = ap (λ ys. flat_map g (f x) ++ ys) (flat_map_twice g f xs) ∙ sym (flat_map-append g (f x) (flat_map f xs))

-- the pieces of two lists with the same items
pub flat_map_alike : {A B : Type 0} (f : A → List B) (xs ys : List A) → ((x : A) → Contains xs x → Contains ys x) → (z : B) → Contains (flat_map f xs) z → Contains (flat_map f ys) z
flat_map_alike f xs ys alike z h = let r = from_flat_map f xs z h in in_flat_map f ys r.0 z (alike r.0 r.1) r.2

-- what the patterns of cleanup match
pub matches_pair : (r t : ℕ) (i : Id) → matches (record { first = Is r; second = Some (Is t) }) i ≡ id_eq i (pair r t)
unfolding id_cmp
matches_pair r t (plain c) = grind (arith, nat_tests)
matches_pair r t (pair q u) = grind (arith, nat_tests)

pub All-alike : {A : Type 0} (P : A → Type 0) (xs ys : List A) → ((x : A) → Contains xs x → Contains ys x) → All P ys → All P xs
All-alike P xs ys alike a k d l = All-contains P ys (get_or xs k d) a (alike (get_or xs k d) (Contains-get_or xs k d l))

module _ {n : ℕ} {entities : List ℕ} {ids : ℕ → List Id} (links : AreLinks n entities ids) (x : ℕ) where
  -- the users of x by a plain id, and by pairs
  abbrev pub users : List ℕ
  users = holders entities ids (record { first = Is x; second = None })

  abbrev pub pair_users : List ℕ
  pair_users = holders entities ids (record { first = Is x; second = Some Any })

  deleting_held : (r : ℕ) → IsTrue (list_any (matches (record { first = Is 15; second = Some (Is 17) })) (ids r)) → IsTrue (deletes_sources ids r)
  deleting_held r h =
      let i = passing (matches (record { first = Is 15; second = Some (Is 17) })) (ids r) h in
      any_passes (λ j. id_eq j (pair 15 17)) (ids r) i.0 i.1 (sym (matches_pair 15 17 i.0) ∙ i.2)

  held_deleting : (r : ℕ) → IsTrue (deletes_sources ids r) → IsTrue (list_any (matches (record { first = Is 15; second = Some (Is 17) })) (ids r))
  held_deleting r h =
      let i = passing (λ j. id_eq j (pair 15 17)) (ids r) h in
      any_passes (matches (record { first = Is 15; second = Some (Is 17) })) (ids r) i.0 i.1 (matches_pair 15 17 i.0 ∙ i.2)

  pub sources_fall : (y : ℕ) → Contains (sources_falling entities ids x) y → Contains (falling ids entities x) y
  sources_fall y h =
      let r = from_flat_map (holders_of_pair entities ids x) (holders_of_pair entities ids 17 15) y h in
      let deletes = deleting_held r.0 ((filtered (λ z. list_any (matches (record { first = Is 15; second = Some (Is 17) })) (ids z)) entities r.0).0 r.1).1 in
      let holds = (filtered (λ z. list_any (matches (record { first = Is r.0; second = Some (Is x) })) (ids z)) entities y).0 r.2 in
      let i = passing (matches (record { first = Is r.0; second = Some (Is x) })) (ids y) holds.1 in
      let same : i.0 ≡ pair r.0 x = id_eq_same i.0 (pair r.0 x) (sym (matches_pair r.0 x i.0) ∙ i.2) in
      let falls : IsTrue (falls_by ids x i.0) = rw same (or_left ((x == x) && deletes_sources ids r.0) ((r.0 == x) && deletes_users ids x) (and_true (x == x) (deletes_sources ids r.0) (eq_itself x) deletes)) in
      (filtered (λ z. list_any (falls_by ids x) (ids z)) entities y).1 (holds.0, any_passes (falls_by ids x) (ids y) i.0 i.1 falls)

  falls_plain : IsTrue (deletes_users ids x) → (i : Id) → IsTrue (matches (record { first = Is x; second = None }) i) → IsTrue (falls_by ids x i)
  falls_plain u (plain c) m = and_true (c == x) (deletes_users ids x) m u
  falls_plain u (pair q t) m = absurd (true≢false (sym m))

  falls_pair : IsTrue (deletes_users ids x) → (i : Id) → IsTrue (matches (record { first = Is x; second = Some Any }) i) → IsTrue (falls_by ids x i)
  falls_pair u (plain c) m = absurd (true≢false (sym m))
  falls_pair u (pair q t) m = or_right ((t == x) && deletes_sources ids q) ((q == x) && deletes_users ids x) (and_true (q == x) (deletes_users ids x) ((both (q == x) true m).0) u)

  users_fall : (p : Pattern) → ((i : Id) → IsTrue (matches p i) → IsTrue (falls_by ids x i)) → (y : ℕ) → Contains (holders entities ids p) y → Contains (falling ids entities x) y
  users_fall p fall y h =
      let holds = (filtered (λ z. list_any (matches p) (ids z)) entities y).0 h in
      let i = passing (matches p) (ids y) holds.1 in
      (filtered (λ z. list_any (falls_by ids x) (ids z)) entities y).1 (holds.0, any_passes (falls_by ids x) (ids y) i.0 i.1 (fall i.0 i.2))

  pub plain_users_fall : IsTrue (deletes_users ids x) → (y : ℕ) → Contains users y → Contains (falling ids entities x) y
  plain_users_fall u = users_fall (record { first = Is x; second = None }) (falls_plain u)

  pub pair_users_fall : IsTrue (deletes_users ids x) → (y : ℕ) → Contains pair_users y → Contains (falling ids entities x) y
  pair_users_fall u = users_fall (record { first = Is x; second = Some Any }) (falls_pair u)

  -- in which way an entity falls by an id
  falls_how : (y : ℕ) (i : Id) → Contains entities y → Contains (ids y) i → IsTrue (falls_by ids x i) → Contains (sources_falling entities ids x) y ⊎ (IsTrue (deletes_users ids x) × (Contains users y ⊎ Contains pair_users y))
  falls_how y (plain c) live h f =
      let parts = both (c == x) (deletes_users ids x) f in
      inr (parts.1, inl ((filtered (λ z. list_any (matches (record { first = Is x; second = None })) (ids z)) entities y).1 (live, any_passes (matches (record { first = Is x; second = None })) (ids y) (plain c) h parts.0)))
  falls_how y (pair q t) live h f =
      elim (from_or ((t == x) && deletes_sources ids q) ((q == x) && deletes_users ids x) f) [
        | inl by_target ↦
            let parts = both (t == x) (deletes_sources ids q) by_target in
            let deleting = (filtered (λ z. list_any (matches (record { first = Is 15; second = Some (Is 17) })) (ids z)) entities q).1 (links.live y (pair q t) h 0 0 (omega arith), held_deleting q parts.1) in
            let holds = (filtered (λ z. list_any (matches (record { first = Is q; second = Some (Is x) })) (ids z)) entities y).1 (live, any_passes (matches (record { first = Is q; second = Some (Is x) })) (ids y) (pair q t) h (and_true (q == q) (t == x) (eq_itself q) parts.0)) in
            inl (in_flat_map (holders_of_pair entities ids x) (holders_of_pair entities ids 17 15) q y deleting holds)
        | inr by_user ↦
            let parts = both (q == x) (deletes_users ids x) by_user in
            inr (parts.1, inr ((filtered (λ z. list_any (matches (record { first = Is x; second = Some Any })) (ids z)) entities y).1 (live, any_passes (matches (record { first = Is x; second = Some Any })) (ids y) (pair q t) h (and_true (q == x) true parts.0 refl))))
      ]

  how : (y : ℕ) → Contains (falling ids entities x) y → Contains (sources_falling entities ids x) y ⊎ (IsTrue (deletes_users ids x) × (Contains users y ⊎ Contains pair_users y))
  how y h =
      let f = (filtered (λ z. list_any (falls_by ids x) (ids z)) entities y).0 h in
      let i = passing (falls_by ids x) (ids y) f.1 in
      falls_how y i.0 f.0 i.1 i.2

  -- those that fall, where users don't and where they do
  pub sources_alone : deletes_users ids x ≡ false → (y : ℕ) → Contains (sources_falling entities ids x) y ↔ Contains (falling ids entities x) y
  sources_alone no_users y = (sources_fall y, λ h. elim (how y h) [ inl s ↦ s | inr u ↦ absurd (true≢false (sym u.0 ∙ no_users)) ])

  pub sources_and_users : IsTrue (deletes_users ids x) → (y : ℕ) → ((Contains (sources_falling entities ids x) y ⊎ Contains users y) ⊎ Contains pair_users y) ↔ Contains (falling ids entities x) y
  sources_and_users u y = (
    λ h. elim h [ inl l ↦ elim l [ inl s ↦ sources_fall y s | inr p ↦ plain_users_fall u y p ] | inr p ↦ pair_users_fall u y p ],
    λ h. elim (how y h) [ inl s ↦ inl (inl s) | inr v ↦ elim v.1 [ inl p ↦ inl (inr p) | inr p ↦ inr p ] ],
  )

-- those that fall live, so they are below the size
pub falling_below : {n : ℕ} {entities : List ℕ} {ids : ℕ → List Id} → AreLinks n entities ids → (m : ℕ) → n ≤ m → (x : ℕ) → All (λ y. y < m) (falling ids entities x)
falling_below {entities = entities} {ids = ids} links m l x k d in' =
    let there = (filtered (λ z. list_any (falls_by ids x) (ids z)) entities (get_or (falling ids entities x) k d)).0 (Contains-get_or (falling ids entities x) k d in') in
    omega (arith, links.below _ there.0)

-- what the rows of one table bring, the rows of all tables bring
pub one_of_all : {T E : Type 0} (bring : ℕ → List ℕ) (rows : T → List ℕ) (ts : List T) (k : ℕ) (d : T) (f : E → ℕ) (es : List E) (all : List ℕ) → k < length ts → map f es ≡ rows (get_or ts k d)
    → ((r : ℕ) → Contains (flat_map rows ts) r → Contains all r) → (y : ℕ) → Contains (flat_map (λ e. bring (f e)) es) y → Contains (flat_map bring all) y
one_of_all bring rows ts k d f es all l e into y h =
    flat_map_alike bring (map f es) all (λ r c. into r (in_flat_map rows ts (get_or ts k d) r (Contains-get_or ts k d l) (rw (← e) c))) y (rw (flat_map-map bring f es) h)

pub holds_upward : {n : ℕ} {entities : List ℕ} {ids : ℕ → List Id} → AreLinks n entities ids → (r x y : ℕ) → Contains (holders_of_pair entities ids x r) y → Contains (upward ids r y) x
holds_upward {entities = entities} {ids = ids} links r x y h =
    let holds = (filtered (λ z. list_any (matches (record { first = Is r; second = Some (Is x) })) (ids z)) entities y).0 h in
    let i = passing (matches (record { first = Is r; second = Some (Is x) })) (ids y) holds.1 in
    let same : i.0 ≡ pair r x = id_eq_same i.0 (pair r x) (sym (matches_pair r x i.0) ∙ i.2) in
    target_there (ids y) r (i.1).0 x i.0 (i.1).1 (sym (i.1).2) (pair_of r x i.0 same)

pub upward_holds : {n : ℕ} {entities : List ℕ} {ids : ℕ → List Id} → AreLinks n entities ids → (r y x : ℕ) → Contains (upward ids r y) x → Contains (holders_of_pair entities ids x r) y
upward_holds {entities = entities} {ids = ids} links r y x h =
    let i = from_filter_map (target_under r) (ids y) x h in
    let found : IsTrue (matches (record { first = Is r; second = Some (Is x) }) i.0) = matches_pair r x i.0 ∙ rw (of_pair r x i.0 i.2) (id_eq_itself (pair r x)) in
    (filtered (λ z. list_any (matches (record { first = Is r; second = Some (Is x) })) (ids z)) entities y).1
    (links.held y i.0 i.1, any_passes (matches (record { first = Is r; second = Some (Is x) })) (ids y) i.0 i.1 found)

pub pairs_below : {n : ℕ} {entities : List ℕ} {ids : ℕ → List Id} → AreLinks n entities ids → (r m : ℕ) → n ≤ m → (x : ℕ) → All (λ y. y < m) (holders_of_pair entities ids x r)
pairs_below {entities = entities} {ids = ids} links r m l x k d in' =
    let there = (filtered (λ z. list_any (matches (record { first = Is r; second = Some (Is x) })) (ids z)) entities (get_or (holders_of_pair entities ids x r) k d)).0 (Contains-get_or (holders_of_pair entities ids x r) k d in') in
    omega (arith, links.below _ there.0)

-- an id with a target is one with that target of any relationship
any_pair : (r t : ℕ) (i : Id) → IsTrue (matches (record { first = Is r; second = Some (Is t) }) i) → IsTrue (matches (record { first = Any; second = Some (Is t) }) i)
any_pair r t (plain c) m = absurd (true≢false (sym m))
any_pair r t (pair q u) m = (both (q == r) (u == t) m).1

-- who falls with a target holds a pair with it
pub sources_any : (entities : List ℕ) (ids : ℕ → List Id) (t y : ℕ) → Contains (sources_falling entities ids t) y → Contains (holders entities ids (record { first = Any; second = Some (Is t) })) y
sources_any entities ids t y h =
    let r = from_flat_map (holders_of_pair entities ids t) (holders_of_pair entities ids 17 15) y h in
    let holds = (filtered (λ z. list_any (matches (record { first = Is r.0; second = Some (Is t) })) (ids z)) entities y).0 r.2 in
    let i = passing (matches (record { first = Is r.0; second = Some (Is t) })) (ids y) holds.1 in
    (filtered (λ z. list_any (matches (record { first = Any; second = Some (Is t) })) (ids z)) entities y).1
    (holds.0, any_passes (matches (record { first = Any; second = Some (Is t) })) (ids y) i.0 i.1 (any_pair r.0 t i.0 i.2))
