-- Look-ups in finite maps, and what is true of a value if there is one.
use Rattle.std.specs.Prelude.{◌≡◌, ◌≢◌, ◌⊎◌, ℕ, ◌+◌, ◌≤◌, Bool, true, false, ◌&&◌, List, [], ◌∷◌, filter_map, length, Option, Some, None, is_some, IfSome, cond, T}
use Rattle.std.specs.List.{cons_option}
use Rattle.std.specs.FinMap.Entries.{find-put, is_sorted-put, is_sorted, below_all, by_order}
use Rattle.std.specs.Ordering.{nat_cmp, eq_by_cmp, is_eq, is_lt, ordering_then}
use Rattle.std.specs.declared.cmp.Ordering.{Ordering}
use Rattle.std.specs.declared.cmp.Ordering.TheVariants.{Less, Equal, Greater}
use Rattle.std.specs.Cmp.{IsTotalOrder, nat_cmp_total, Equal-is}
use Rattle.std.specs.FinMap.{nat_cmp-IsAntisymmetric}
use Rattle.std.proofs.Common.{refl, sym, ap, subst, ◌∙◌, inl, inr, arith, true≢false}
use Rattle.std.proofs.lemmas.Cmp.{tied_itself}
pub use Rattle.std.proofs.lemmas.Bool.{and_parts as both_true}
use Rattle.ecs_id.specs.Id.{id_cmp, id_cmp_same}
use Rattle.ecs_model.specs.Map.{Map, IsMap, value_at, has_key, with_value, keys}
use Rattle.ecs_model.specs.World.{Key, key_cmp}
pub use Rattle.ecs_model.specs.FactOrder.{key_cmp_total}

pub to_T : (b : Bool) → b ≡ true → T b
to_T b e = subst T (sym e) tt

pub from_T : (b : Bool) → T b → b ≡ true
from_T true h = refl
from_T false h = absurd h

-- what is true of the value if there is one, is true of a value that is there
pub of_some : {A : Type 0} (P : A → Type 0) (o : Option A) → IfSome o P → (x : A) → o ≡ Some x → P x
of_some P None h x e = cc
of_some P (Some y) h x e = let same : y ≡ x = cc in subst P same h

pub if_some : {A : Type 0} (P : A → Type 0) (o : Option A) → ((x : A) → o ≡ Some x → P x) → IfSome o P
if_some P None h = tt
if_some P (Some x) h = h x refl

pub some_of : {A : Type 0} (o : Option A) → is_some o ≡ true → (x : A) × (o ≡ Some x)
some_of None h = absurd (true≢false (sym h))
some_of (Some x) h = (x, refl)

pub less : (r : Ordering) → is_lt r ≡ true → r ≡ Less
less Less h = refl
less Equal h = cc
less Greater h = cc

at_front : {A : Type 0} (o : Option A) (xs : List A) → length (cons_option o xs) ≤ length xs + 1
at_front None xs = omega arith
at_front (Some x) xs = omega arith

behind : {A : Type 0} (o : Option A) (xs ys : List A) → length xs ≤ length ys + 1 → length (cons_option o xs) ≤ length (cons_option o ys) + 1
behind None xs ys h = h
behind (Some x) xs ys h = omega arith

-- the order of facts
pub key_cmp_same : (x y : Key) → key_cmp x y ≡ Equal → x ≡ y
unfolding key_cmp
key_cmp_same x y e = by (nat_cmp x.0 y.0) refl e
  where
    by : (r : Ordering) → nat_cmp x.0 y.0 ≡ r → ordering_then r (id_cmp x.1 y.1) ≡ Equal → x ≡ y
    by Less p q = cc
    by Equal p q = λ i. (nat_cmp-IsAntisymmetric x.0 y.0 p i, id_cmp_same x.1 y.1 q i)
    by Greater p q = cc

module _ {K : Type 0} (R : K → K → Ordering) (o : IsTotalOrder R) where
  pub IsMap-with_value : {X : Type 0} (m : Map K X) (k : K) (x : X) → IsMap R m → IsMap R (with_value R m k x)
  IsMap-with_value m k x h = from_T _ (is_sorted-put R o k x m (to_T _ h))

  pub eq_itself : (k : K) → eq_by_cmp R k k ≡ true
  eq_itself k = ap is_eq (tied_itself o k)

  -- the new value at its key, and every other value as it was
  pub value_at-with_value : ((x y : K) → R x y ≡ Equal → x ≡ y) → {X : Type 0} (m : Map K X) (k : K) (x : X) (q : K)
      → ((q ≡ k) × (value_at R (with_value R m k x) q ≡ Some x)) ⊎ ((q ≢ k) × (value_at R (with_value R m k x) q ≡ value_at R m q))
  value_at-with_value same m k x q = by (eq_by_cmp R q k) refl
    where
      by : (b : Bool) → eq_by_cmp R q k ≡ b
          → ((q ≡ k) × (value_at R (with_value R m k x) q ≡ Some x)) ⊎ ((q ≢ k) × (value_at R (with_value R m k x) q ≡ value_at R m q))
      by true e = inl (same q k ((Equal-is (R q k)).0 e), find-put R o q k x m ∙ ap (λ b. cond b (Some x) (value_at R m q)) e)
      by false e =
          inr ((λ p. true≢false (sym (subst (λ y. eq_by_cmp R y k ≡ true) (sym p) (eq_itself k)) ∙ e)), find-put R o q k x m ∙ ap (λ b. cond b (Some x) (value_at R m q)) e)

  -- no key of a list in order stands below its first
  below_less : {X : Type 0} (x y : K) (es : Map K X) → R x y ≡ Less → below_all R y es ≡ true → below_all R x es ≡ true
  below_less x y [] p h = refl
  below_less x y (e ∷ es) p h =
      let parts = both_true (is_lt (R y e.0)) (below_all R y es) h in
      λ i. is_lt (o.trans x y e.0 p (less (R y e.0) parts.0) i) && below_less x y es p parts.1 i

  pub absent_below : {X : Type 0} (x : K) (es : Map K X) → below_all R x es ≡ true → value_at R es x ≡ None
  absent_below x [] h = refl
  absent_below x (e ∷ es) h =
      let parts = both_true (is_lt (R x e.0)) (below_all R x es) h in
      λ i. cond (is_eq (less (R x e.0) parts.0 i)) (Some e.1) (absent_below x es parts.1 i)

  -- a new value at a key that is there leaves the keys as they are
  pub keys-with_value : {X : Type 0} (m : Map K X) (k : K) (x : X) → IsMap R m → has_key R m k ≡ true → keys (with_value R m k x) ≡ keys m
  keys-with_value [] k x s h = absurd (true≢false (sym h))
  keys-with_value (e ∷ es) k x s h =
      let parts = both_true (below_all R e.0 es) (is_sorted R es) s in by (R k e.0) refl h parts.0 (λ g. keys-with_value es k x parts.1 g)
    where
      by : (r : Ordering) → R k e.0 ≡ r → is_some (cond (is_eq r) (Some e.1) (value_at R es k)) ≡ true → below_all R e.0 es ≡ true
          → (has_key R es k ≡ true → keys (with_value R es k x) ≡ keys es)
          → keys (by_order r ((k, x) ∷ e ∷ es) ((e.0, x) ∷ es) (e ∷ with_value R es k x)) ≡ keys (e ∷ es)
      by Less p g low rest = absurd (true≢false (sym g ∙ ap is_some (absent_below k es (below_less k e.0 es p low))))
      by Equal p g low rest = refl
      by Greater p g low rest = ap (λ ks. e.0 ∷ ks) (rest g)

  -- what is made of the keys, where nothing is made of the new one
  pub filter_map-with_value : {X Y : Type 0} (h : K → Option Y) (m : Map K X) (k : K) (x : X) → h k ≡ None
      → filter_map h (keys (with_value R m k x)) ≡ filter_map h (keys m)
  filter_map-with_value h [] k x e = ap (λ p. cons_option p []) e
  filter_map-with_value h (y ∷ ys) k x e = by (R k y.0) (filter_map-with_value h ys k x e)
    where
      by : (r : Ordering) → filter_map h (keys (with_value R ys k x)) ≡ filter_map h (keys ys)
          → filter_map h (keys (by_order r ((k, x) ∷ y ∷ ys) ((y.0, x) ∷ ys) (y ∷ with_value R ys k x))) ≡ filter_map h (keys (y ∷ ys))
      by Less rest = ap (λ p. cons_option p (filter_map h (keys (y ∷ ys)))) e
      by Equal rest = refl
      by Greater rest = ap (cons_option (h y.0)) rest

  -- a new value makes at most one more key
  pub length-filter_map-with_value : {X Y : Type 0} (h : K → Option Y) (m : Map K X) (k : K) (x : X)
      → length (filter_map h (keys (with_value R m k x))) ≤ length (filter_map h (keys m)) + 1
  length-filter_map-with_value h [] k x = at_front (h k) []
  length-filter_map-with_value h (y ∷ ys) k x = by (R k y.0) (length-filter_map-with_value h ys k x)
    where
      by : (r : Ordering) → length (filter_map h (keys (with_value R ys k x))) ≤ length (filter_map h (keys ys)) + 1
          → length (filter_map h (keys (by_order r ((k, x) ∷ y ∷ ys) ((y.0, x) ∷ ys) (y ∷ with_value R ys k x)))) ≤ length (filter_map h (keys (y ∷ ys))) + 1
      by Less rest = at_front (h k) (filter_map h (keys (y ∷ ys)))
      by Equal rest = omega arith
      by Greater rest = behind (h y.0) _ _ rest

pub nat_value_at : {X : Type 0} (m : Map ℕ X) (k : ℕ) (x : X) (q : ℕ)
    → ((q ≡ k) × (value_at nat_cmp (with_value nat_cmp m k x) q ≡ Some x)) ⊎ ((q ≢ k) × (value_at nat_cmp (with_value nat_cmp m k x) q ≡ value_at nat_cmp m q))
nat_value_at = value_at-with_value nat_cmp nat_cmp_total nat_cmp-IsAntisymmetric

pub fact_value_at : {X : Type 0} (m : Map Key X) (k : Key) (x : X) (q : Key)
    → ((q ≡ k) × (value_at key_cmp (with_value key_cmp m k x) q ≡ Some x)) ⊎ ((q ≢ k) × (value_at key_cmp (with_value key_cmp m k x) q ≡ value_at key_cmp m q))
fact_value_at = value_at-with_value key_cmp key_cmp_total key_cmp_same
