-- Who refers to some entities shows in the patterns of each of them.
use Rattle.std.proofs.Common.{◌≡◌, ℕ, ◌+◌, ◌<◌, ◌≤◌, ◌==◌, ◌↔◌, IsTrue, true, false, ◌&&◌, List, [], ◌∷◌, ◌++◌, length, get_or, take, Some, None, refl, sym, inl, inr, arith, true≢false}
use Rattle.std.specs.Prelude.{map}
use Rattle.std.specs.List.{Contains, filter, flat_map, list_any}
use Rattle.std.proofs.lemmas.List.{append-nil, map-append, take_more}
use Rattle.std.proofs.lemmas.List.Elements.{Contains-append_cases, Contains-append_left, Contains-append_right, filter-append}
use Rattle.id_pattern.specs.declared.Part.TheVariants.{Is, Any}
use Rattle.id_pattern.specs.declared.Pattern.{Pattern}
use Rattle.id_pattern.specs.Patterns.{matches}
use Rattle.ecs_id.specs.Id.{Id, plain, pair, mentioned}
use Rattle.ecs_model.specs.Links.{AreLinks}
use Rattle.ecs_model.proofs.Members.{and_true, any_passes, both, eq_itself, eq_same, filtered, from_flat_map, from_or, in_flat_map, passing}
use Rattle.rel_travel.specs.Finds.{is_among, with_find}
use Rattle.rel_travel.specs.Growing.{IsGrownBy}
use Rattle.rel_travel.specs.Holders.{holders}
use Rattle.rel_travel.specs.Outside.{is_outside, outside_holders, outside_referrers}
use Rattle.rel_travel.specs.Referring.{mentions_any, referrers}
use Rattle.rel_travel.proofs.Growth.{IsGrownBy-find, is_among_tells}

-- one more row, where those outside are added
pub outside_more : {E : Type 0} (f : E → ℕ) (members : List ℕ) (es : List E) (k : ℕ) (d : E) → k < length es
    → filter (is_outside members) (map f (take (k + 1) es)) ≡ filter (is_outside members) (map f (take k es)) ++ filter (is_outside members) (f (get_or es k d) ∷ [])
outside_more f members es k d l = rw (take_more es k d l, map-append f (take k es) (get_or es k d ∷ [])) (filter-append (is_outside members) (map f (take k es)) (f (get_or es k d) ∷ []))

pub outside_added : {E : Type 0} (f : E → ℕ) (members : List ℕ) (es : List E) (k : ℕ) (d : E) (old new : List ℕ) → k < length es → is_among members (f (get_or es k d)) ≡ false
    → IsGrownBy (filter (is_outside members) (map f (take k es))) old new → IsGrownBy (filter (is_outside members) (map f (take (k + 1) es))) old (with_find new (f (get_or es k d)))
outside_added f members es k d old new l e g = rw (outside_more f members es k d l, e) (IsGrownBy-find (filter (is_outside members) (map f (take k es))) old new (f (get_or es k d)) g)

pub inside_skipped : {E : Type 0} (f : E → ℕ) (members : List ℕ) (es : List E) (k : ℕ) (d : E) (old new : List ℕ) → k < length es → is_among members (f (get_or es k d)) ≡ true
    → IsGrownBy (filter (is_outside members) (map f (take k es))) old new → IsGrownBy (filter (is_outside members) (map f (take (k + 1) es))) old new
inside_skipped f members es k d old new l e g = rw (outside_more f members es k d l, e, append-nil (filter (is_outside members) (map f (take k es)))) g

-- those outside among lists with the same items
pub outside_alike : {T : Type 0} (members : List ℕ) (rows : T → List ℕ) (ts : List T) (all : List ℕ) → ((y : ℕ) → Contains (flat_map rows ts) y ↔ Contains all y)
    → (y : ℕ) → Contains (flat_map (λ t. filter (is_outside members) (rows t)) ts) y ↔ Contains (filter (is_outside members) all) y
outside_alike members rows ts all same y = (into, out)
  where
    into : Contains (flat_map (λ t. filter (is_outside members) (rows t)) ts) y → Contains (filter (is_outside members) all) y
    into h =
        let t = from_flat_map (λ t. filter (is_outside members) (rows t)) ts y h in
        let f = (filtered (is_outside members) (rows t.0) y).0 t.2 in
        (filtered (is_outside members) all y).1 ((same y).0 (in_flat_map rows ts t.0 y t.1 f.0), f.1)

    out : Contains (filter (is_outside members) all) y → Contains (flat_map (λ t. filter (is_outside members) (rows t)) ts) y
    out h =
        let f = (filtered (is_outside members) all y).0 h in
        let t = from_flat_map rows ts y ((same y).1 f.0) in
        in_flat_map (λ t. filter (is_outside members) (rows t)) ts t.0 y t.1 ((filtered (is_outside members) (rows t.0) y).1 (t.2, f.1))

module _ (entities : List ℕ) (ids : ℕ → List Id) (members : List ℕ) where
  abbrev as_plain : ℕ → Pattern
  as_plain x = record { first = Is x; second = None }

  abbrev as_first : ℕ → Pattern
  as_first x = record { first = Is x; second = Some Any }

  abbrev as_target : ℕ → Pattern
  as_target x = record { first = Any; second = Some (Is x) }

  mentioned_any : (i : Id) (x : ℕ) → Contains members x → Contains (mentioned i) x → IsTrue (mentions_any members i)
  mentioned_any i x h m = any_passes (is_among members) (mentioned i) x m ((is_among_tells members x).1 h)

  by_plain : (x : ℕ) (i : Id) → IsTrue (matches (as_plain x) i) → Contains (mentioned i) x
  by_plain x (plain c) m = (0, omega arith, eq_same c x m)
  by_plain x (pair r t) m = absurd (true≢false (sym m))

  by_first : (x : ℕ) (i : Id) → IsTrue (matches (as_first x) i) → Contains (mentioned i) x
  by_first x (plain c) m = absurd (true≢false (sym m))
  by_first x (pair r t) m = (0, omega arith, eq_same r x ((both (r == x) true m).0))

  by_target : (x : ℕ) (i : Id) → IsTrue (matches (as_target x) i) → Contains (mentioned i) x
  by_target x (plain c) m = absurd (true≢false (sym m))
  by_target x (pair r t) m = (1, omega arith, eq_same t x m)

  refers : (p : Pattern) (x y : ℕ) → Contains members x → ((i : Id) → IsTrue (matches p i) → Contains (mentioned i) x) → Contains (outside_holders entities ids members p) y → Contains (referrers ids entities members) y
  refers p x y h by hy =
      let f = (filtered (is_outside members) (holders entities ids p) y).0 hy in
      let g = (filtered (λ z. list_any (matches p) (ids z)) entities y).0 f.0 in
      let i = passing (matches p) (ids y) g.1 in
      let tells = any_passes (mentions_any members) (ids y) i.0 i.1 (mentioned_any i.0 x h (by i.0 i.2)) in
      (filtered (λ z. is_outside members z && list_any (mentions_any members) (ids z)) entities y).1 (g.0, and_true (is_outside members y) (list_any (mentions_any members) (ids y)) f.1 tells)

  pub all_refer : (y : ℕ) → Contains (flat_map (outside_referrers entities ids members) members) y → Contains (referrers ids entities members) y
  all_refer y h =
      let r = from_flat_map (outside_referrers entities ids members) members y h in
      let x = r.0 in
      elim (Contains-append_cases (outside_holders entities ids members (as_plain x) ++ outside_holders entities ids members (as_first x)) (outside_holders entities ids members (as_target x)) y r.2) [
        | inl two ↦
            elim (Contains-append_cases (outside_holders entities ids members (as_plain x)) (outside_holders entities ids members (as_first x)) y two) [
              | inl p ↦ refers (as_plain x) x y r.1 (by_plain x) p
              | inr p ↦ refers (as_first x) x y r.1 (by_first x) p
            ]
        | inr p ↦ refers (as_target x) x y r.1 (by_target x) p
      ]

  holds_outside : (p : Pattern) (y : ℕ) (i : Id) → Contains entities y → IsTrue (is_outside members y) → Contains (ids y) i → IsTrue (matches p i) → Contains (outside_holders entities ids members p) y
  holds_outside p y i live out h m =
      (filtered (is_outside members) (holders entities ids p) y).1 ((filtered (λ z. list_any (matches p) (ids z)) entities y).1 (live, any_passes (matches p) (ids y) i h m), out)

  found_for : (y : ℕ) (i : Id) → Contains entities y → IsTrue (is_outside members y) → Contains (ids y) i → IsTrue (mentions_any members i) → Contains (flat_map (outside_referrers entities ids members) members) y
  found_for y (plain c) live out h m =
      let x = passing (is_among members) (c ∷ []) m in
      let is = only c x.0 x.1 in
      let there : Contains members c = rw is ((is_among_tells members x.0).0 x.2) in
      let held = holds_outside (as_plain c) y (plain c) live out h (eq_itself c) in
      in_flat_map (outside_referrers entities ids members) members c y there
      (Contains-append_left (outside_holders entities ids members (as_plain c) ++ outside_holders entities ids members (as_first c)) (outside_holders entities ids members (as_target c)) y
      (Contains-append_left (outside_holders entities ids members (as_plain c)) (outside_holders entities ids members (as_first c)) y held))
    where
      only : (c x : ℕ) → Contains (c ∷ []) x → c ≡ x
      only c x (k, l, e) = let z : k ≡ 0 = omega arith in rw z at e
  found_for y (pair r t) live out h m = elim (from_or (is_among members r) (list_any (is_among members) (t ∷ [])) m) [ inl a ↦ by_r a | inr b ↦ elim (from_or (is_among members t) false b) [ inl c ↦ by_t c | inr d ↦ absurd (true≢false (sym d)) ] ]
    where
      by_r : IsTrue (is_among members r) → Contains (flat_map (outside_referrers entities ids members) members) y
      by_r a =
          let held = holds_outside (as_first r) y (pair r t) live out h (and_true (r == r) true (eq_itself r) refl) in
          in_flat_map (outside_referrers entities ids members) members r y ((is_among_tells members r).0 a)
          (Contains-append_left (outside_holders entities ids members (as_plain r) ++ outside_holders entities ids members (as_first r)) (outside_holders entities ids members (as_target r)) y
          (Contains-append_right (outside_holders entities ids members (as_plain r)) (outside_holders entities ids members (as_first r)) y held))

      by_t : IsTrue (is_among members t) → Contains (flat_map (outside_referrers entities ids members) members) y
      by_t a =
          let held = holds_outside (as_target t) y (pair r t) live out h (eq_itself t) in
          in_flat_map (outside_referrers entities ids members) members t y ((is_among_tells members t).0 a)
          (Contains-append_right (outside_holders entities ids members (as_plain t) ++ outside_holders entities ids members (as_first t)) (outside_holders entities ids members (as_target t)) y held)

  pub all_found : (y : ℕ) → Contains (referrers ids entities members) y → Contains (flat_map (outside_referrers entities ids members) members) y
  all_found y h =
      let f = (filtered (λ z. is_outside members z && list_any (mentions_any members) (ids z)) entities y).0 h in
      let tests = both (is_outside members y) (list_any (mentions_any members) (ids y)) f.1 in
      let i = passing (mentions_any members) (ids y) tests.1 in
      found_for y i.0 f.0 tests.0 i.1 i.2

-- who holds what a pattern matches lives, and is below the size
pub holders_below : {n : ℕ} {entities : List ℕ} {ids : ℕ → List Id} → AreLinks n entities ids → (m : ℕ) → n ≤ m → (p : Pattern) → (y : ℕ) → Contains (holders entities ids p) y → y < m
holders_below {entities = entities} {ids = ids} links m l p y h = omega (arith, l, links.below y (((filtered (λ z. list_any (matches p) (ids z)) entities y).0 h).0))
