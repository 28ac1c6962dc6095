-- What counts, lists and tests say of the keys that are there.
use Rattle.std.specs.Prelude.{◌≡◌, ℕ, ◌+◌, ◌-◌, ◌^◌, ◌<◌, ◌==◌, Bool, true, false, List, [], ◌∷◌, filter_map, ℤ, Option, Some, None, is_some, cond, nat_le, if◌then◌else◌}
use Rattle.std.specs.List.{list_any, cons_option}
use Rattle.std.specs.Ordering.{nat_cmp, eq_by_cmp}
use Rattle.std.proofs.Common.{refl, sym, subst, ◌∙◌, arith, true≢false}
use Rattle.std.proofs.lemmas.Bool.Decides.{nat_tests, Decides-eqb}
use Rattle.ecs_id.specs.Id.{Id}
use Rattle.ecs_model.specs.Map.{Map, value_at, has_key, keys}
use Rattle.ecs_model.specs.World.{Key, key_cmp}
use Rattle.ecs_model.proofs.Maps.{key_cmp_total, eq_itself}
use Rattle.ecs_model.proofs.Reasons.{neither}

pub hidden : {A : Type 0} (b : Bool) (x : A) (o : Option A) → is_some (cond b (Some x) o) ≡ false → (b ≡ false) × (is_some o ≡ false)
hidden true x o h = absurd (true≢false h)
hidden false x o h = (refl, h)

-- an entity that holds no id has none
pub none_held : (e : ℕ) (m : Map Key (List ℤ)) → ((i : Id) → has_key key_cmp m (e, i) ≡ false)
    → filter_map (λ k. if k.0 == e then Some k.1 else None) (keys m) ≡ []
none_held e [] h = refl
none_held e (x ∷ xs) h =
    by ((x.0).0 == e) refl (hidden (eq_by_cmp key_cmp (e, (x.0).1) x.0) x.1 (value_at key_cmp xs (e, (x.0).1)) (h (x.0).1)).0
    (none_held e xs (λ i. (hidden (eq_by_cmp key_cmp (e, i) x.0) x.1 (value_at key_cmp xs (e, i)) (h i)).1))
  where
    ids : List Id
    ids = filter_map (λ k. if k.0 == e then Some k.1 else None) (keys xs)

    by : (b : Bool) → ((x.0).0 == e) ≡ b → eq_by_cmp key_cmp (e, (x.0).1) x.0 ≡ false → ids ≡ [] → cons_option (if b then Some (x.0).1 else None) ids ≡ []
    by true p q rest =
        let same : (x.0).0 ≡ e = (Decides-eqb (x.0).0 e).0 p in
        let tied : eq_by_cmp key_cmp (e, (x.0).1) x.0 ≡ true = subst (λ n. eq_by_cmp key_cmp (n, (x.0).1) x.0 ≡ true) same (eq_itself key_cmp key_cmp_total x.0) in
        absurd (true≢false (sym tied ∙ q))
    by false p q rest = rest

-- what no key passes, a key that is there does not pass
pub none_passes : {X : Type 0} (test : ℕ → Bool) (m : Map ℕ X) (k : ℕ) → has_key nat_cmp m k ≡ true → list_any test (keys m) ≡ false → test k ≡ false
none_passes test [] k h g = absurd (true≢false (sym h))
none_passes test (x ∷ xs) k h g =
    let parts = neither (test x.0) (list_any test (keys xs)) g in by (eq_by_cmp nat_cmp k x.0) refl h parts.0 (λ f. none_passes test xs k f parts.1)
  where
    by : (b : Bool) → eq_by_cmp nat_cmp k x.0 ≡ b → is_some (cond b (Some x.1) (value_at nat_cmp xs k)) ≡ true → test x.0 ≡ false
        → (has_key nat_cmp xs k ≡ true → test k ≡ false) → test k ≡ false
    by true p q t rest = let same : k ≡ x.0 = grind (arith, nat_tests) in subst (λ n. test n ≡ false) (sym same) t
    by false p q t rest = rest q

pub not_spent : (n : ℕ) → nat_le (2 ^ 64 - 1) n ≡ false → n + 1 < 2 ^ 64
not_spent n h = grind (arith, nat_tests)
