-- A list of facts that was sorted, and of which each was kept once.
use Rattle.std.proofs.Common.{◌≡◌, ◌↔◌, ◌<◌, ℕ, true, IsTrue, List, [], ◌∷◌, get_or, length, refl, arith}
use Rattle.std.specs.List.{All, Contains, dedup, filter, flat_map}
use Rattle.std.specs.List.Sorted.{IsPermutation, IsSorted, IsStrictlySortedBy}
use Rattle.std.specs.Cmp.{Equal-is}
use Rattle.std.proofs.lemmas.Cmp.{eq_by_cmp_equiv}
use Rattle.std.proofs.lemmas.List.Elements.{All-contains, Contains-get_or}
use Rattle.std.proofs.lemmas.List.Kept.{Contains-dedup, Contains-from_dedup, IsStrictlySortedBy-dedup}
use Rattle.std.proofs.lemmas.List.Sorted.{Contains-permutation, IsPermutation-sym}
use Rattle.ecs_model.proofs.Maps.{key_cmp_same, key_cmp_total}
use Rattle.ecs_model.proofs.Members.{filtered, from_flat_map, in_flat_map}
use Rattle.ecs_id.specs.Id.{Id}
use Rattle.ecs_model.specs.Added.{displaced}
use Rattle.ecs_model.specs.World.{Key, key_cmp, key_eq}
use Rattle.rel_traits.specs.FactLists.{GivesWay, IsListOf, is_fact}

pub key_eq_same : (x y : Key) → key_eq x y ≡ true → x ≡ y
key_eq_same x y e = key_cmp_same x y ((Equal-is (key_cmp x y)).0 e)

module _ (old mid new : List Key) (is : new ≡ dedup key_eq mid) where
  pub in_order : IsSorted key_cmp mid → IsStrictlySortedBy key_cmp new
  in_order sorted = rw is (IsStrictlySortedBy-dedup key_cmp_total (λ x y. refl) mid sorted)

  pub same_facts : IsPermutation old mid → (k : Key) → Contains new k ↔ Contains old k
  same_facts moved k = (
    λ h. Contains-permutation mid old k (IsPermutation-sym old mid moved) (Contains-from_dedup key_eq mid k (rw is at h)),
    λ h. rw is (Contains-dedup (eq_by_cmp_equiv key_cmp_total) key_eq_same mid k (Contains-permutation old mid k moved h)),
  )

-- a list of one fact at most is in order
pub few_in_order : (xs : List Key) → length xs < 2 → IsStrictlySortedBy key_cmp xs
unfolding IsStrictlySortedBy
few_in_order [] few = tt
few_in_order (x ∷ []) few = (tt, tt)
few_in_order (x ∷ y ∷ xs) few = absurd (omega arith)

-- what is true of the members of a list
pub all_of : {A : Type 0} (P : A → Type 0) (xs : List A) → ((x : A) → Contains xs x → P x) → All P xs
all_of P xs f k d l = f (get_or xs k d) (Contains-get_or xs k d l)

pub all_same : {A : Type 0} (P : A → Type 0) (old new : List A) → ((x : A) → Contains new x ↔ Contains old x) → All P old → All P new
all_same P old new same a = all_of P new (λ x h. All-contains P old x a ((same x).0 h))

-- the held ones of a list, in order
pub held_ones : (ids : ℕ → List Id) (P : Key → Type 0) (old kept new : List Key) → ((k : Key) → Contains old k ↔ P k) → kept ≡ filter (is_fact ids) old → IsStrictlySortedBy key_cmp new → ((k : Key) → Contains new k ↔ Contains kept k)
    → IsListOf (λ k. P k × IsTrue (is_fact ids k)) new
held_ones ids P old kept new exact is ascends same = record { ascends = ascends; exact = λ k. (into k, out k) }
  where
    into : (k : Key) → Contains new k → P k × IsTrue (is_fact ids k)
    into k h = let f = (filtered (is_fact ids) old k).0 (rw is at ((same k).0 h)) in ((exact k).0 f.0, f.1)

    out : (k : Key) → P k × IsTrue (is_fact ids k) → Contains new k
    out k h = (same k).1 (rw is ((filtered (is_fact ids) old k).1 ((exact k).1 h.0, h.1)))

-- what gives way, in a list
pub ways_given : (ids : ℕ → List Id) (ks all : List Key) → all ≡ flat_map (displaced ids) ks → (z : Key) → Contains all z ↔ GivesWay ids ks z
ways_given ids ks all is z = (λ h. from_flat_map (displaced ids) ks z (rw is at h), λ w. rw is (in_flat_map (displaced ids) ks w.0 z w.1 w.2))
