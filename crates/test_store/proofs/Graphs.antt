-- A closed list of rows is a graph.
use Rattle.std.proofs.Common.{◌≡◌, ℕ, zero, suc, ◌+◌, ◌-◌, ◌<◌, ◌≤◌, ◌↔◌, ◌⊎◌, IsTrue, List, [], ◌∷◌, length, get_or, Some, sym, ap, subst, ◌∙◌, inl, inr, arith}
use Rattle.std.specs.Prelude.{IfSome, nat_lt}
use Rattle.std.specs.List.{All, Contains}
use Rattle.std.proofs.lemmas.Bool.{cases_lt}
use Rattle.std.proofs.lemmas.Bool.Decides.{nat_tests}
use Rattle.std.proofs.lemmas.List.{get_or-map, get_or_past, length-map}
use Rattle.std.proofs.lemmas.List.Elements.{All-contains, Contains-append_right}
use Rattle.ecs_id.specs.Id.{Id, last_index, mentioned, second_of}
use Rattle.ecs_model.specs.Links.{AreLinks, IsAcyclic, target_under, upward}
use Rattle.ecs_model.specs.Reach.{Reached, itself, onward}
use Rattle.ecs_model.proofs.LivePairs.{of_pair}
use Rattle.ecs_model.proofs.Members.{from_filter_map, head_or_tail}
use Rattle.std.specs.declared.vec.Vec.{Vec}
use Rattle.test_store.specs.Closed.{FallBelow, IsClosed, IsInside, MentionsInside, Rows, down_from, live_in, row_at, rows_in}

pub in_down : (n x : ℕ) → Contains (down_from n) x → (0 < x) × (x ≤ n)
unfolding down_from
in_down zero x h = absurd (omega (arith, h.1))
in_down (suc n) x h = elim (head_or_tail (suc n) x (down_from n) h) [ inl e ↦ (omega (arith, e), omega (arith, e)) | inr t ↦ let r = in_down n x t in (r.0, omega (arith, r.1)) ]

pub down_has : (n x : ℕ) → 0 < x → x ≤ n → Contains (down_from n) x
unfolding down_from
down_has zero x p l = absurd (omega arith)
down_has (suc n) x p l = elim (cases_lt n x) [ inl more ↦ (0, omega arith, omega arith) | inr less ↦ Contains-append_right (suc n ∷ []) (down_from n) x (down_has n x p less) ]

module _ (rows : Rows) where
  -- a row with ids stands at an index of the list
  row_there : (e : ℕ) (i : Id) → Contains (row_at rows e) i → e < length rows
  row_there e i h = elim (cases_lt e (length rows)) [ inl l ↦ l | inr over ↦ let none : row_at rows e ≡ [] = get_or_past rows e [] over in absurd (let l = (rw none at h).1 in omega (arith, l)) ]

  module _ (closed : IsClosed rows) where
    not_zero : (e : ℕ) (i : Id) → Contains (row_at rows e) i → 0 < e
    not_zero zero i h = let l = (rw closed.none_at_zero at h).1 in absurd (omega (arith, l))
    not_zero (suc e) i h = omega arith

    is_live : (x : ℕ) → IsInside (length rows) x → Contains (live_in rows) x
    is_live x h = down_has (length rows - 1) x h.0 (omega (arith, h.1))

    pub links : AreLinks (length rows) (live_in rows) (row_at rows)
    links = record {
      indexes = λ e h. let p = in_down (length rows - 1) e h in (p.0, omega (arith, p.1, closed.few));
      below = λ e h. let p = in_down (length rows - 1) e h in omega (arith, p.0, p.1);
      held = λ e i h. is_live e (not_zero e i h, row_there e i h);
      live = λ e i h k d l. is_live (get_or (mentioned i) k d) (All-contains (MentionsInside (length rows)) (row_at rows e) i (closed.inside e [] (row_there e i h)) h k d l);
    }

  -- where each pair leads down, none leads back
  module _ (fall : (k : ℕ) → k < length rows → FallBelow k (row_at rows k)) (r : ℕ) where
    target_below : (n t : ℕ) (i : Id) → target_under r i ≡ Some t → IfSome (second_of i) (λ u. u < n) → t < n
    target_below n t i e h = rw (of_pair r t i e) at h

    steps_down : (x y : ℕ) → Contains (upward (row_at rows) r x) y → y < x
    steps_down x y h =
        let i = from_filter_map (target_under r) (row_at rows x) y h in
        target_below x y i.0 i.2 (All-contains (λ j. IfSome (second_of j) (λ u. u < x)) (row_at rows x) i.0 (fall x (row_there x i.0 i.1)) i.1)

    goes_down : {x y : ℕ} → Reached (upward (row_at rows) r) x y → y ≤ x
    goes_down itself = omega arith
    goes_down (onward {y} {z} p h) = omega (arith, goes_down p, steps_down y z h)

    pub no_way_back : IsAcyclic (row_at rows) r
    no_way_back x (m, h, p) = omega (arith, steps_down x m h, goes_down p)

-- what is true of each list is true of each row
pub all_rows : {Y : Type 0} (P : List Id → Type 0) (vs : List (Vec Id Y)) → All (λ v. P v.items) vs → All P (rows_in vs)
all_rows P [] a k d l = absurd (omega arith)
all_rows P (v ∷ vs) a zero d l = a zero v (omega arith)
all_rows P (v ∷ vs) a (suc k) d l = all_rows P vs (λ j e m. a (suc j) e (omega (arith, m))) k d (omega (arith, l))

pub closed_from : {Y : Type 0} (vs first all : List (Vec Id Y)) (n : ℕ) → first ≡ vs → all ≡ vs → n ≡ length vs → n ≤ last_index + 1 → (length first ≡ 0) ⊎ (row_at (rows_in first) 0 ≡ []) → All (λ v. All (MentionsInside n) v.items) all → IsClosed (rows_in vs)
closed_from vs first all n f a is few none inside = record {
  few = omega (arith, length-map vs (λ v. v.items), is, few);
  none_at_zero = elim none [ inl e ↦ get_or_past (rows_in vs) 0 [] (omega (arith, length-map vs (λ v. v.items), ap length f, e)) | inr e ↦ rw f at e ];
  inside = all_rows (λ row. All (MentionsInside (length (rows_in vs))) row) vs (subst (λ m. All (λ v. All (MentionsInside m) v.items) vs) (is ∙ sym (length-map vs (λ v. v.items))) (subst (λ ws. All (λ v. All (MentionsInside n) v.items) ws) a inside));
}

-- whether an entity is at an index
pub live_tells : (rows : Rows) (x n : ℕ) → n ≡ length rows → 0 < x → IsTrue (nat_lt x n) ↔ Contains (live_in rows) x
live_tells rows x n is more = (
  λ h. let l : x < n = grind (arith, nat_tests, h) in down_has (length rows - 1) x more (omega (arith, is, l)),
  λ h. let p = in_down (length rows - 1) x h in let l : x < n = omega (arith, is, p.0, p.1) in grind (arith, nat_tests, l),
)

-- one more row whose pairs lead down
pub fallen_more : {Y : Type 0} (rows : Rows) (vs : List (Vec Id Y)) (k index : ℕ) (v : Vec Id Y) → rows_in vs ≡ rows → index < length vs → v ≡ get_or vs index v → FallBelow index v.items
    → ((j : ℕ) → j < index → FallBelow j (row_at rows j)) → k < index + 1 → FallBelow k (row_at rows k)
fallen_more rows vs k index v is l read fall before m =
    elim (cases_lt k index) [
      | inl less ↦ before k less
      | inr more ↦
          let same : k ≡ index = omega arith in
          let row : row_at rows index ≡ v.items = ap (λ rs. row_at rs index) (sym is) ∙ get_or-map (λ w. w.items) vs index v [] l ∙ ap (λ w. w.items) (sym read) in
          subst (λ j. FallBelow j (row_at rows j)) (sym same) (subst (λ is. FallBelow index is) (sym row) fall)
    ]
