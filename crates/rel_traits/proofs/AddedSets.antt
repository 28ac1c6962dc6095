-- The added set: the facts along With, and of the symmetric ones among them the mirrors, along With again.
use Rattle.std.proofs.Common.{◌≡◌, ◌↔◌, ◌⊎◌, ℕ, zero, suc, ◌<◌, Bool, true, false, cond, List, [], ◌∷◌, ◌++◌, ◌+◌, length, take, get_or, Some, None, refl, sym, ap, inl, inr, arith}
use Rattle.std.specs.Prelude.{map}
use Rattle.std.specs.List.{All, Contains, filter}
use Rattle.std.proofs.lemmas.List.{append-nil, map-append, take_more}
use Rattle.std.proofs.lemmas.List.Elements.{All-contains, Contains-get_or, Contains-append_cases, Contains-append_left, Contains-append_right, Contains-push_cases, filter-append}
use Rattle.ecs_id.specs.Id.{Id, plain, pair, first_of, mentioned, second_of}
use Rattle.ecs_model.specs.World.{Key}
use Rattle.ecs_model.specs.Links.{AreLinks, upward}
use Rattle.ecs_model.specs.Reach.{Reached, itself, onward, IsLeast, IsReachedFrom}
use Rattle.rel_traits.specs.FactLists.{IsOfLive}
use Rattle.rel_travel.specs.Growing.{IsGrownBy}
use Rattle.rel_travel.specs.Finds.{with_find}
use Rattle.ecs_model.proofs.Members.{filtered}
use Rattle.rel_travel.proofs.Growth.{IsGrownBy-find}
use Rattle.ecs_model.proofs.LivePairs.{upward_lives}
use Rattle.rel_travel.proofs.SearchStarts.{from_one}
use Rattle.ecs_model.proofs.Members.{head_or_tail}
use Rattle.ecs_model.specs.Added.{brought, is_symmetric, mirror, with_first}

module _ {A B : Type 0} (f : A → B) where
  pub in_map : (xs : List A) (x : A) → Contains xs x → Contains (map f xs) (f x)
  in_map [] x h = absurd (omega (arith, h.1))
  in_map (y ∷ xs) x h =
      elim (head_or_tail y x xs h) [
        | inl e ↦ (0, omega arith, ap f e)
        | inr t ↦ Contains-append_right (f y ∷ []) (map f xs) (f x) (in_map xs x t)
      ]

  pub from_map : (xs : List A) (y : B) → Contains (map f xs) y → (x : A) × Contains xs x × (f x ≡ y)
  from_map [] y h = absurd (omega (arith, h.1))
  from_map (x ∷ xs) y h =
      elim (head_or_tail (f x) y (map f xs) h) [
        | inl e ↦ (x, (0, omega arith, refl), e)
        | inr t ↦ let r = from_map xs y t in (r.0, Contains-append_right (x ∷ []) xs r.0 r.1, r.2)
      ]

pub joined : {A : Type 0} {next : A → List A} {x y z : A} → Reached next x y → Reached next y z → Reached next x z
joined r itself = r
joined r (onward q h) = onward (joined r q) h

own_first : (i : Id) → with_first (first_of i) i ≡ i
own_first (plain c) = refl
own_first (pair r t) = refl

given_first : (c : ℕ) (i : Id) → first_of (with_first c i) ≡ c
given_first c (plain d) = refl
given_first c (pair r t) = refl

last_first : (c d : ℕ) (i : Id) → with_first d (with_first c i) ≡ with_first d i
last_first c d (plain b) = refl
last_first c d (pair r t) = refl

module _ (ids : ℕ → List Id) where
  abbrev pub withs : ℕ → List ℕ
  withs = upward ids 13

  -- what a fact brings by With
  pub by_with : (e c d : ℕ) (i : Id) → Contains (withs c) d → Contains (brought ids (e, with_first c i)) (e, with_first d i)
  by_with e c d i h =
      let all = withs (first_of (with_first c i)) in
      let there : Contains all d = rw (given_first c i) h in
      let there' : Contains (map (λ b. (e, with_first b (with_first c i))) all) (e, with_first d i) = rw (← last_first c d i) (in_map (λ b. (e, with_first b (with_first c i))) all d there) in
      Contains-append_left (map (λ b. (e, with_first b (with_first c i))) all) (mirror ids (e, with_first c i)) (e, with_first d i) there'

  by_mirror : (e c t : ℕ) → is_symmetric ids c ≡ true → Contains (brought ids (e, pair c t)) (t, pair c e)
  by_mirror e c t s = Contains-append_right (map (λ b. (e, pair b t)) (withs c)) (mirror ids (e, pair c t)) (t, pair c e) (rw s (0, omega arith, refl))

  -- and nothing else
  brings : (e : ℕ) (i : Id) (z : Key) → Contains (brought ids (e, i)) z → ((d : ℕ) × Contains (withs (first_of i)) d × (z ≡ (e, with_first d i))) ⊎ Contains (mirror ids (e, i)) z
  brings e i z h =
      elim (Contains-append_cases (map (λ c. (e, with_first c i)) (withs (first_of i))) (mirror ids (e, i)) z h) [
        | inl m ↦ let r = from_map (λ c. (e, with_first c i)) (withs (first_of i)) z m in inl (r.0, r.1, sym r.2)
        | inr m ↦ inr m
      ]

  mirrors : (e c t : ℕ) (z : Key) → Contains (mirror ids (e, pair c t)) z → (is_symmetric ids c ≡ true) × (z ≡ (t, pair c e))
  mirrors e c t z h = by (is_symmetric ids c) h
    where
      by : (b : Bool) → Contains (cond b ((t, pair c e) ∷ []) []) z → (b ≡ true) × (z ≡ (t, pair c e))
      by true h = elim (Contains-push_cases [] (t, pair c e) z h) [ inl n ↦ absurd (omega (arith, n.1)) | inr q ↦ (refl, sym q) ]
      by false h = absurd (omega (arith, h.1))

  -- the fact with a component or relationship to which With leads
  abbrev pub IsAlong : ℕ → Id → Key → Type 0
  IsAlong e i k = (c : ℕ) × Reached withs (first_of i) c × (k ≡ (e, with_first c i))

  -- the mirror of such a pair of a symmetric relationship, and what comes with the mirror by With
  abbrev pub IsBack : ℕ → ℕ → ℕ → Key → Type 0
  IsBack e r t k = (c : ℕ) × (b : ℕ) × Reached withs r b × (is_symmetric ids b ≡ true) × Reached withs b c × (k ≡ (t, pair c e))

  along_reached : (e : ℕ) (i : Id) → {b c : ℕ} → Reached withs b c → Reached (brought ids) (e, with_first b i) (e, with_first c i)
  along_reached e i itself = itself
  along_reached e i (onward {y} {z} r h) = onward (along_reached e i r) (by_with e y z i h)

  pub is_along : (e : ℕ) (i : Id) {k : Key} → IsAlong e i k → Reached (brought ids) (e, i) k
  is_along e i a = rw a.2 (rw (own_first i) at (along_reached e i a.1))

  pub is_back : (e r t : ℕ) {k : Key} → IsBack e r t k → Reached (brought ids) (e, pair r t) k
  is_back e r t (c, b, p, s, q, same) =
      let there : Reached (brought ids) (e, pair r t) (e, pair b t) = along_reached e (pair r t) p in
      let back : Reached (brought ids) (t, pair b e) (t, pair c e) = along_reached t (pair b e) q in
      rw same (joined (onward there (by_mirror e b t s)) back)

  pub plain_only : (e c : ℕ) {k : Key} → Reached (brought ids) (e, plain c) k → IsAlong e (plain c) k
  plain_only e c itself = (c, itself, refl)
  plain_only e c (onward {y} {z} r h) = further (plain_only e c r)
    where
      further : IsAlong e (plain c) y → IsAlong e (plain c) z
      further a =
          elim (brings e (plain a.0) z (rw a.2 at h)) [
            | inl w ↦ (w.0, onward a.1 w.1, w.2)
            | inr m ↦ absurd (omega (arith, m.1))
          ]

  pub pair_only : (e r t : ℕ) {k : Key} → Reached (brought ids) (e, pair r t) k → IsAlong e (pair r t) k ⊎ IsBack e r t k
  pair_only e r t itself = inl (r, itself, refl)
  pair_only e r t (onward {y} {z} p h) = further (pair_only e r t p)
    where
      further : IsAlong e (pair r t) y ⊎ IsBack e r t y → IsAlong e (pair r t) z ⊎ IsBack e r t z
      further (inl a) =
          elim (brings e (pair a.0 t) z (rw a.2 at h)) [
            | inl w ↦ inl (w.0, onward a.1 w.1, w.2)
            | inr m ↦ let s = mirrors e a.0 t z m in inr (a.0, a.0, a.1, s.0, itself, s.1)
          ]
      further (inr (c, b, p, s, q, same)) =
          elim (brings t (pair c e) z (rw same at h)) [
            | inl w ↦ inr (w.0, b, p, s, onward q w.1, w.2)
            | inr m ↦ let s' = mirrors t c e z m in inl (c, joined p q, s'.1)
          ]

  -- one start
  least_of : {next : Key → List Key} (k : Key) (all : List Key) → ((z : Key) → Contains all z ↔ Reached next k z) → IsLeast next (k ∷ []) all
  least_of {next} k all same z = (λ h. (k, (0, omega arith, refl), (same z).0 h), λ r. (same z).1 (only r))
    where
      only : IsReachedFrom next (k ∷ []) z → Reached next k z
      only r = elim (Contains-push_cases [] k r.0 r.1) [ inl n ↦ absurd (omega (arith, n.1)) | inr q ↦ rw q r.2 ]

  -- the facts that the found make
  abbrev pub facts_with : ℕ → Id → List ℕ → List Key
  facts_with e i cs = map (λ c. (e, with_first c i)) cs

  in_facts : (e : ℕ) (i : Id) (cs : List ℕ) → ((c : ℕ) → Contains cs c ↔ Reached withs (first_of i) c) → (z : Key) → Contains (facts_with e i cs) z ↔ IsAlong e i z
  in_facts e i cs tells z = (
    λ h. let r = from_map (λ c. (e, with_first c i)) cs z h in (r.0, (tells r.0).0 r.1, sym r.2),
    λ a. rw a.2 (in_map (λ c. (e, with_first c i)) cs a.0 ((tells a.0).1 a.1)),
  )

  pub closed_plain : (e c : ℕ) (cs : List ℕ) → ((d : ℕ) → Contains cs d ↔ Reached withs c d) → IsLeast (brought ids) ((e, plain c) ∷ []) (facts_with e (plain c) cs)
  closed_plain e c cs tells =
      least_of (e, plain c) (facts_with e (plain c) cs) (λ z.
      let there = in_facts e (plain c) cs tells z in (λ h. is_along e (plain c) (there.0 h), λ r. there.1 (plain_only e c r)))

  -- the mirror of a pair with its own entity is the pair
  pub closed_loop : (e r : ℕ) (cs : List ℕ) → ((d : ℕ) → Contains cs d ↔ Reached withs r d) → IsLeast (brought ids) ((e, pair r e) ∷ []) (facts_with e (pair r e) cs)
  closed_loop e r cs tells =
      least_of (e, pair r e) (facts_with e (pair r e) cs) (λ z.
      let there = in_facts e (pair r e) cs tells z in
      (λ h. is_along e (pair r e) (there.0 h), λ p. there.1 (elim (pair_only e r e p) [ inl a ↦ a | inr (c, b, p, s, q, same) ↦ (c, joined p q, same) ])))

  -- the symmetric ones among what was found
  abbrev pub symmetric_of : List Key → List ℕ
  symmetric_of ks = filter (is_symmetric ids) (map (λ k. first_of k.1) ks)

  firsts_of : (e : ℕ) (i : Id) (cs : List ℕ) → map (λ k. first_of k.1) (facts_with e i cs) ≡ cs
  firsts_of e i [] = refl
  firsts_of e i (c ∷ cs) = rw (given_first c i, firsts_of e i cs) refl

  pub closed_pair : (e r t : ℕ) (cs start ds : List ℕ) → ((d : ℕ) → Contains cs d ↔ Reached withs r d) → IsGrownBy (symmetric_of (facts_with e (pair r t) cs)) [] start → IsLeast withs start ds
      → IsLeast (brought ids) ((e, pair r t) ∷ []) (facts_with e (pair r t) cs ++ facts_with t (pair r e) ds)
  closed_pair e r t cs start ds tells grown least = least_of (e, pair r t) ((facts_with e (pair r t) cs) ++ (facts_with t (pair r e) ds)) (λ z. (λ h. into z h, λ p. out z (pair_only e r t p)))
    where
      begun : (b : ℕ) → Contains start b → Reached withs r b × (is_symmetric ids b ≡ true)
      begun b h =
          elim ((grown.exact b).0 h) [
            | inl n ↦ absurd (omega (arith, n.1))
            | inr m ↦ let f = (filtered (is_symmetric ids) cs b).0 (rw (firsts_of e (pair r t) cs) at m) in ((tells b).0 f.0, f.1)
          ]

      begins : (b : ℕ) → Reached withs r b → is_symmetric ids b ≡ true → Contains start b
      begins b p s = (grown.exact b).1 (inr (rw (firsts_of e (pair r t) cs) ((filtered (is_symmetric ids) cs b).1 ((tells b).1 p, s))))

      into : (z : Key) → Contains ((facts_with e (pair r t) cs) ++ (facts_with t (pair r e) ds)) z → Reached (brought ids) (e, pair r t) z
      into z h =
          elim (Contains-append_cases (facts_with e (pair r t) cs) (facts_with t (pair r e) ds) z h) [
            | inl f ↦ is_along e (pair r t) ((in_facts e (pair r t) cs tells z).0 f)
            | inr g ↦
                let m = from_map (λ c. (t, pair c e)) ds z g in
                let p = (least m.0).0 m.1 in
                let b = begun p.0 p.1 in
                is_back e r t (m.0, p.0, b.0, b.1, p.2, sym m.2)
          ]

      out : (z : Key) → IsAlong e (pair r t) z ⊎ IsBack e r t z → Contains ((facts_with e (pair r t) cs) ++ (facts_with t (pair r e) ds)) z
      out z (inl a) = Contains-append_left (facts_with e (pair r t) cs) (facts_with t (pair r e) ds) z ((in_facts e (pair r t) cs tells z).1 a)
      out z (inr (c, b, p, s, q, same)) = Contains-append_right (facts_with e (pair r t) cs) (facts_with t (pair r e) ds) z (rw same (in_map (λ c. (t, pair c e)) ds c ((least c).1 (b, begins b p s, q))))

-- one more fact among those that are gone through
pub symmetric_more : (ids : ℕ → List Id) (ks : List Key) (n : ℕ) (d : Key) → n < length ks
    → symmetric_of ids (take (n + 1) ks) ≡ symmetric_of ids (take n ks) ++ filter (is_symmetric ids) (first_of ((get_or ks n d).1) ∷ [])
symmetric_more ids ks n d l =
    rw (take_more ks n d l, map-append (λ k. first_of k.1) (take n ks) (get_or ks n d ∷ []))
    (filter-append (is_symmetric ids) (map (λ k. first_of k.1) (take n ks)) (first_of ((get_or ks n d).1) ∷ []))

-- what a fact brings to it, by whether its component or relationship is symmetric
pub grown_by_symmetric : (ids : ℕ → List Id) (ks : List Key) (n x : ℕ) (k : Key) (old new : List ℕ) → n < length ks → k ≡ get_or ks n k → x ≡ first_of k.1 → is_symmetric ids x ≡ true
    → IsGrownBy (symmetric_of ids (take n ks)) old new → IsGrownBy (symmetric_of ids (take (n + 1) ks)) old (with_find new x)
grown_by_symmetric ids ks n x k old new l e f s g = rw (symmetric_more ids ks n k l, ← e, ← f, s) (IsGrownBy-find (symmetric_of ids (take n ks)) old new x g)

pub grown_by_other : (ids : ℕ → List Id) (ks : List Key) (n x : ℕ) (k : Key) (old new : List ℕ) → n < length ks → k ≡ get_or ks n k → x ≡ first_of k.1 → is_symmetric ids x ≡ false
    → IsGrownBy (symmetric_of ids (take n ks)) old new → IsGrownBy (symmetric_of ids (take (n + 1) ks)) old new
grown_by_other ids ks n x k old new l e f s g = rw (symmetric_more ids ks n k l, ← e, ← f, s, append-nil (symmetric_of ids (take n ks))) g

-- what With leads to lives
reached_lives : {n : ℕ} {entities : List ℕ} {ids : ℕ → List Id} → AreLinks n entities ids → {x y : ℕ} → Contains entities x → Reached (upward ids 13) x y → Contains entities y
reached_lives links h itself = h
reached_lives links h (onward {y} {z} r m) = upward_lives links 13 y z m

pub lives_along : {n : ℕ} {entities : List ℕ} {ids : ℕ → List Id} → AreLinks n entities ids → (start all : List ℕ) → IsLeast (upward ids 13) start all → All (Contains entities) start → All (Contains entities) all
lives_along links start all least lives k d l = let r = (least (get_or all k d)).0 (Contains-get_or all k d l) in reached_lives links (All-contains (Contains _) start r.0 lives r.1) r.2

-- the symmetric ones are among those that were found
pub symmetric_lives : (P : ℕ → Type 0) (ids : ℕ → List Id) (e : ℕ) (i : Id) (cs start : List ℕ) → IsGrownBy (symmetric_of ids (facts_with ids e i cs)) [] start → All P cs → All P start
symmetric_lives P ids e i cs start grown a k d l =
    elim ((grown.exact (get_or start k d)).0 (Contains-get_or start k d l)) [
      | inl n ↦ absurd (omega (arith, n.1))
      | inr m ↦ All-contains P cs (get_or start k d) a ((filtered (is_symmetric ids) cs (get_or start k d)).0 (rw (firsts_of ids e i cs) at m)).0
    ]

pub facts_below : (ids : ℕ → List Id) (e : ℕ) (i : Id) (cs : List ℕ) (n : ℕ) → All (λ c. c < n) cs → All (λ k. first_of k.1 < n) (facts_with ids e i cs)
facts_below ids e i cs n a k d l =
    let m = from_map (λ c. (e, with_first c i)) cs (get_or (facts_with ids e i cs) k d) (Contains-get_or (facts_with ids e i cs) k d l) in
    rw (← m.2, given_first m.0 i) (All-contains (λ c. c < n) cs m.0 a m.1)

pub one_lives : (P : ℕ → Type 0) (x : ℕ) (xs : List ℕ) → xs ≡ x ∷ [] → P x → All P xs
one_lives P x xs e h = rw e (λ k d l. let z : k ≡ 0 = omega arith in rw z h)

pub All-weaker : {X : Type 0} (P Q : X → Type 0) (xs : List X) → ((x : X) → P x → Q x) → All P xs → All Q xs
All-weaker P Q xs f a k d l = f (get_or xs k d) (a k d l)

-- the added set, by whether the id is a pair
pub closed_at : (ids : ℕ → List Id) (e c : ℕ) (i : Id) (start cs : List ℕ) (items : List Key) → first_of i ≡ c → second_of i ≡ None → start ≡ c ∷ [] → IsLeast (upward ids 13) start cs
    → items ≡ [] ++ facts_with ids e i cs → IsLeast (brought ids) ((e, i) ∷ []) items
closed_at ids e c (plain d) start cs items q s b least is = rw (is, q) (closed_plain ids e c cs (from_one (upward ids 13) c start cs b least))
closed_at ids e c (pair r t) start cs items q s b least is = absurd cc

pub closed_on_itself : (ids : ℕ → List Id) (e c : ℕ) (i : Id) (start cs : List ℕ) (items : List Key) → first_of i ≡ c → second_of i ≡ Some e → start ≡ c ∷ [] → IsLeast (upward ids 13) start cs
    → items ≡ [] ++ facts_with ids e i cs → IsLeast (brought ids) ((e, i) ∷ []) items
closed_on_itself ids e c (plain d) start cs items q s b least is = absurd cc
closed_on_itself ids e c (pair r t) start cs items q s b least is =
    let same : t ≡ e = cc in
    rw (is, q, same) (closed_loop ids e c cs (from_one (upward ids 13) c start cs b least))

pub closed_both_ways : (ids : ℕ → List Id) (e c t : ℕ) (i : Id) (start cs back ds : List ℕ) (mid items : List Key) → first_of i ≡ c → second_of i ≡ Some t → start ≡ c ∷ [] → IsLeast (upward ids 13) start cs
    → mid ≡ [] ++ facts_with ids e i cs → IsGrownBy (symmetric_of ids mid) [] back → IsLeast (upward ids 13) back ds → items ≡ mid ++ facts_with ids t (pair c e) ds
    → IsLeast (brought ids) ((e, i) ∷ []) items
closed_both_ways ids e c t (plain d) start cs back ds mid items q s b least at_mid grown least' is = absurd cc
closed_both_ways ids e c t (pair r u) start cs back ds mid items q s b least at_mid grown least' is =
    let same : u ≡ t = cc in
    rw (is, at_mid, q, same) (closed_pair ids e c t cs back ds (from_one (upward ids 13) c start cs b least) (rw (at_mid, same) at grown) least')

same_items : (xs ys : List Key) (z : Key) → xs ≡ ys → Contains xs z → Contains ys z
same_items xs ys z e h = rw (← e) h

-- all of one entity, and of two
pub facts_of_one : (P : ℕ → Type 0) (ids : ℕ → List Id) (e : ℕ) (i : Id) (cs : List ℕ) (items : List Key) → items ≡ [] ++ facts_with ids e i cs → P e → All (λ k. P k.0) items
facts_of_one P ids e i cs items is h k d l =
    let m = from_map (λ c. (e, with_first c i)) cs (get_or items k d) (same_items items (facts_with ids e i cs) (get_or items k d) is (Contains-get_or items k d l)) in
    rw (← m.2) h

pub facts_of_two : (P : ℕ → Type 0) (ids : ℕ → List Id) (e : ℕ) (i : Id) (cs : List ℕ) (mid items : List Key) → items ≡ mid ++ facts_with ids e i cs → All (λ k. P k.0) mid → P e → All (λ k. P k.0) items
facts_of_two P ids e i cs mid items is a h k d l =
    elim (Contains-append_cases mid (facts_with ids e i cs) (get_or items k d) (same_items items (mid ++ facts_with ids e i cs) (get_or items k d) is (Contains-get_or items k d l))) [
      | inl m ↦ All-contains (λ k. P k.0) mid (get_or items k d) a m
      | inr f ↦ let m = from_map (λ c. (e, with_first c i)) cs (get_or items k d) f in rw (← m.2) h
    ]

-- what is added to live entities is of live entities
all_two : (P : ℕ → Type 0) (x y : ℕ) → P x → P y → All P (x ∷ y ∷ [])
all_two P x y p q zero d l = p
all_two P x y p q (suc zero) d l = q
all_two P x y p q (suc (suc k)) d l = absurd (omega arith)

pub added_live : {n : ℕ} {entities : List ℕ} {ids : ℕ → List Id} → AreLinks n entities ids → (e : ℕ) (i : Id) → Contains entities e → Contains entities (first_of i) → All (Contains entities) (mentioned i)
    → (z : Key) → Reached (brought ids) (e, i) z → IsOfLive entities z
added_live {entities = entities} {ids = ids} links e (plain c) h f m z p =
    let a = plain_only ids e c p in rw a.2 (h, one_lives (Contains entities) a.0 (a.0 ∷ []) refl (reached_lives links f a.1))
added_live {entities = entities} {ids = ids} links e (pair r t) h f m z p =
    elim (pair_only ids e r t p) [
      | inl (c, q, same) ↦ rw same (h, all_two (Contains entities) c t (reached_lives links f q) target)
      | inr (c, b, q, s, w, same) ↦ rw same (target, all_two (Contains entities) c e (reached_lives links f (joined q w)) h)
    ]
  where
    target : Contains entities t
    target = m 1 t (omega arith)
