-- Who forbids that one of some entities is deleted refers to it.
use Rattle.std.proofs.Common.{◌≡◌, ℕ, ◌+◌, ◌==◌, ◌<◌, ◌≤◌, ◌↔◌, IsTrue, Bool, true, false, ◌&&◌, ◌||◌, not, List, length, get_or, take, take_all, Some, None, refl, sym, ◌∙◌, inl, inr, arith}
use Rattle.std.specs.List.{All, Contains, list_any}
use Rattle.std.proofs.lemmas.List.Folds.{list_any_more}
use Rattle.std.proofs.lemmas.List.Elements.{Contains-get_or}
pub use Rattle.std.proofs.lemmas.Bool.{and_left as not_left, and_right as not_right}
use Rattle.ecs_id.specs.Id.{Id, plain, pair, first_of, second_of, mentioned}
use Rattle.ecs_model.specs.Links.{AreLinks}
use Rattle.ecs_model.proofs.Members.{alike, and_true, any_passes, both, eq_itself, eq_same, filtered, from_or, or_left, or_right, passing}
use Rattle.rel_travel.specs.Finds.{is_among}
use Rattle.rel_travel.specs.Outside.{forbids_any}
use Rattle.ecs_model.specs.steps.Rules.{forbids, forbids_with_sources, forbids_with_users}
use Rattle.rel_travel.specs.Referring.{is_forbidden, mentions_any, referrers}
use Rattle.rel_travel.proofs.Growth.{is_among_tells}

module _ (ids : ℕ → List Id) (members : List ℕ) where
  forbids_mentioned : (i : Id) → IsTrue (forbids_any ids members i) → IsTrue (mentions_any members i)
  forbids_mentioned (plain c) h = or_left (is_among members c) false ((both (is_among members c) (forbids_with_users ids c) h).0)
  forbids_mentioned (pair r t) h =
      elim (from_or (is_among members r && forbids_with_users ids r) (is_among members t && forbids_with_sources ids r) h) [
        | inl u ↦ or_left (is_among members r) (is_among members t || false) ((both (is_among members r) (forbids_with_users ids r) u).0)
        | inr s ↦ or_right (is_among members r) (is_among members t || false) (or_left (is_among members t) false ((both (is_among members t) (forbids_with_sources ids r) s).0))
      ]

  -- by one of them
  abbrev one_is_forbidden : Id → Bool
  one_is_forbidden i = list_any (λ x. forbids ids x i) members

  forbidden_by : (i : Id) (x : ℕ) → IsTrue (is_among members x) → IsTrue (forbids ids x i) → IsTrue (one_is_forbidden i)
  forbidden_by i x a f = any_passes (λ x. forbids ids x i) members x ((is_among_tells members x).0 a) f

  any_forbids : (i : Id) → IsTrue (forbids_any ids members i) → IsTrue (one_is_forbidden i)
  any_forbids (plain c) h = let parts = both (is_among members c) (forbids_with_users ids c) h in forbidden_by (plain c) c parts.0 (and_true (c == c) (forbids_with_users ids c) (eq_itself c) parts.1)
  any_forbids (pair r t) h =
      elim (from_or (is_among members r && forbids_with_users ids r) (is_among members t && forbids_with_sources ids r) h) [
        | inl u ↦
            let parts = both (is_among members r) (forbids_with_users ids r) u in
            forbidden_by (pair r t) r parts.0 (or_right (t == r && forbids_with_sources ids r) (r == r && forbids_with_users ids r) (and_true (r == r) (forbids_with_users ids r) (eq_itself r) parts.1))
        | inr s ↦
            let parts = both (is_among members t) (forbids_with_sources ids r) s in
            forbidden_by (pair r t) t parts.0 (or_left (t == t && forbids_with_sources ids r) (r == t && forbids_with_users ids t) (and_true (t == t) (forbids_with_sources ids r) (eq_itself t) parts.1))
      ]

  forbids_some : (i : Id) → IsTrue (one_is_forbidden i) → IsTrue (forbids_any ids members i)
  forbids_some i h = let x = passing (λ x. forbids ids x i) members h in by i x.0 ((is_among_tells members x.0).1 x.1) x.2
    where
      by : (i : Id) (x : ℕ) → IsTrue (is_among members x) → IsTrue (forbids ids x i) → IsTrue (forbids_any ids members i)
      by (plain c) x a f = let parts = both (c == x) (forbids_with_users ids x) f in let same : c ≡ x = eq_same c x parts.0 in rw same (and_true (is_among members x) (forbids_with_users ids x) a parts.1)
      by (pair r t) x a f =
          elim (from_or (t == x && forbids_with_sources ids r) (r == x && forbids_with_users ids x) f) [
            | inl s ↦
                let parts = both (t == x) (forbids_with_sources ids r) s in
                let same : t ≡ x = eq_same t x parts.0 in
                or_right (is_among members r && forbids_with_users ids r) (is_among members t && forbids_with_sources ids r) (and_true (is_among members t) (forbids_with_sources ids r) (rw same a) parts.1)
            | inr u ↦
                let parts = both (r == x) (forbids_with_users ids x) u in
                let same : r ≡ x = eq_same r x parts.0 in
                or_left (is_among members r && forbids_with_users ids r) (is_among members t && forbids_with_sources ids r) (and_true (is_among members r) (forbids_with_users ids r) (rw same a) (rw same parts.1))
          ]

  abbrev pub one_forbids : ℕ → Bool
  one_forbids y = list_any (forbids_any ids members) (ids y)

  -- the test over those who refer is that over all
  pub shown : (entities referring : List ℕ) → ((y : ℕ) → Contains referring y ↔ Contains (referrers ids entities members) y) → list_any one_forbids referring ≡ is_forbidden ids entities members
  shown entities referring same = alike (list_any one_forbids referring) (is_forbidden ids entities members) into out
    where
      into : IsTrue (list_any one_forbids referring) → IsTrue (is_forbidden ids entities members)
      into h =
          let y = passing one_forbids referring h in
          let f = (filtered (λ z. not (is_among members z) && list_any (mentions_any members) (ids z)) entities y.0).0 ((same y.0).0 y.1) in
          let out' = (both (not (is_among members y.0)) (list_any (mentions_any members) (ids y.0)) f.1).0 in
          let i = passing (forbids_any ids members) (ids y.0) y.2 in
          let one = any_passes one_is_forbidden (ids y.0) i.0 i.1 (any_forbids i.0 i.2) in
          any_passes (λ z. not (is_among members z) && list_any one_is_forbidden (ids z)) entities y.0 f.0 (and_true (not (is_among members y.0)) (list_any one_is_forbidden (ids y.0)) out' one)

      out : IsTrue (is_forbidden ids entities members) → IsTrue (list_any one_forbids referring)
      out h =
          let y = passing (λ z. not (is_among members z) && list_any one_is_forbidden (ids z)) entities h in
          let tests = both (not (is_among members y.0)) (list_any one_is_forbidden (ids y.0)) y.2 in
          let i = passing one_is_forbidden (ids y.0) tests.1 in
          let some = forbids_some i.0 i.2 in
          let mentions = any_passes (mentions_any members) (ids y.0) i.0 i.1 (forbids_mentioned i.0 some) in
          let refers = (filtered (λ z. not (is_among members z) && list_any (mentions_any members) (ids z)) entities y.0).1 (y.1, and_true (not (is_among members y.0)) (list_any (mentions_any members) (ids y.0)) tests.0 mentions) in
          any_passes one_forbids referring y.0 ((same y.0).1 refers) (any_passes (forbids_any ids members) (ids y.0) i.0 i.1 some)

  -- by an id's parts
  pub of_first : (i : Id) → is_among members (first_of i) ≡ true → forbids_with_users ids (first_of i) ≡ true → true ≡ forbids_any ids members i
  of_first (plain c) a u = sym (and_true (is_among members c) (forbids_with_users ids c) a u)
  of_first (pair r t) a u = sym (or_left (is_among members r && forbids_with_users ids r) (is_among members t && forbids_with_sources ids r) (and_true (is_among members r) (forbids_with_users ids r) a u))

  pub of_target : (i : Id) (t : ℕ) → (is_among members (first_of i) && forbids_with_users ids (first_of i)) ≡ false → Some t ≡ second_of i → (is_among members t && forbids_with_sources ids (first_of i)) ≡ forbids_any ids members i
  of_target (plain c) t none e = absurd cc
  of_target (pair r u) t none e = let same : t ≡ u = cc in rw (none, same) refl

  pub of_none : (i : Id) → (is_among members (first_of i) && forbids_with_users ids (first_of i)) ≡ false → None ≡ second_of i → false ≡ forbids_any ids members i
  of_none (plain c) none e = sym none
  of_none (pair r u) none e = absurd cc

-- what an id mentions is below the size
pub mentioned_below : {n : ℕ} {entities : List ℕ} {ids : ℕ → List Id} → AreLinks n entities ids → (m : ℕ) → n ≤ m → (e : ℕ) (i : Id) → Contains (ids e) i → All (λ x. x < m) (mentioned i)
mentioned_below links m l e i h k d in' = let live = links.below _ (links.live e i h k d in') in omega (arith, live)

-- the test stops at the first that passes, or passes none
module _ {A : Type 0} (p : A → Bool) (xs : List A) (k : ℕ) (d : A) where
  pub none_yet : k < length xs → list_any p (take k xs) ≡ false → p (get_or xs k d) ≡ false → list_any p (take (k + 1) xs) ≡ false
  none_yet l none e = list_any_more p xs k d l ∙ (rw (none, e) refl)

  pub one_is : k < length xs → p (get_or xs k d) ≡ true → list_any p xs ≡ true
  one_is l e = any_passes p xs (get_or xs k d) (Contains-get_or xs k d l) e

pub none_is : {A : Type 0} (p : A → Bool) (xs : List A) (k : ℕ) → length xs ≤ k → list_any p (take k xs) ≡ false → list_any p xs ≡ false
none_is p xs k l none = rw (take_all k xs l) at none
