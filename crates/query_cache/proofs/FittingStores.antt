-- What fits a store fits what the store goes on to.
use Rattle.std.proofs.Common.{◌≡◌, ◌≤◌, false, List, [], Option, Some, None, IsTrue, is_some, map, option_map, refl, sym, ap, subst, ◌∙◌, true≢false, arith}
use Rattle.std.specs.List.{Contains}
use Rattle.std.specs.Option.{option_map_or}
use Rattle.std.specs.List.Sorted.{IsStrictlySortedBy}
use Rattle.std.specs.Ordering.{nat_cmp}
use Rattle.ecs_id.specs.Id.{Id}
use Rattle.ecs_id.specs.declared.TableKey.{TableKey}
use Rattle.id_pattern.specs.declared.Pattern.{Pattern}
use Rattle.ecs_table.specs.Archetype.{Archetype}
use Rattle.table_store.specs.Going.{TablesGoOn}
use Rattle.table_store.specs.Store.{Store, ids_at, table_at}
use Rattle.query_cache.specs.Kept.{Fits, IsRising, Kept, is_kept, stands, suits}

-- a table that stands later has the test that it had
module _ (patterns : List Pattern) (s t : Store) (on : TablesGoOn s t) (k : TableKey) (h : k.serial ≤ s.last) where
  kept_before : IsTrue (is_kept patterns t k) → IsTrue (is_kept patterns s k)
  kept_before = by (ids_at t k) refl
    where
      by : (o : Option (List Id)) → ids_at t k ≡ o → IsTrue (option_map_or (suits patterns) o false) → IsTrue (is_kept patterns s k)
      by None e y = absurd (true≢false (sym y))
      by (Some ids) e y = subst (λ o. IsTrue (option_map_or (suits patterns) o false)) (sym (on.stood k ids h e)) y

  stood_before : IsTrue (stands t k) → IsTrue (stands s k)
  stood_before = by (table_at t k) refl (table_at s k) refl
    where
      by : (o : Option Archetype) → table_at t k ≡ o → (p : Option Archetype) → table_at s k ≡ p → IsTrue (is_some o) → IsTrue (is_some p)
      by None e p f y = absurd (true≢false (sym y))
      by (Some x) e (Some z) f y = refl
      by (Some x) e None f y =
          let was : option_map (λ t. t.ids) (table_at s k) ≡ Some x.ids = on.stood k x.ids h (ap (option_map (λ t. t.ids)) e) in
          let no : None ≡ Some x.ids = sym (ap (option_map (λ t. t.ids)) f) ∙ was in
          absurd (cc)

  kept_later : IsTrue (stands t k) → IsTrue (is_kept patterns s k) → IsTrue (is_kept patterns t k)
  kept_later = by (table_at t k) refl
    where
      by : (o : Option Archetype) → table_at t k ≡ o → IsTrue (is_some o) → IsTrue (is_kept patterns s k) → IsTrue (is_kept patterns t k)
      by None e y was = absurd (true≢false (sym y))
      by (Some x) e y was =
          let ids : ids_at t k ≡ Some x.ids = ap (option_map (λ t. t.ids)) e in
          subst (λ o. IsTrue (option_map_or (suits patterns) o false)) (on.stood k x.ids h ids ∙ sym ids) was

pub fits_later : (kept : Kept) (s t : Store) → TablesGoOn s t → Fits kept s → Fits kept t
fits_later kept s t on fits = record {
  last = omega (arith, fits.last, on.last);
  has = λ k one h y. fits.has k one h (kept_before kept.patterns s t on k (omega (arith, h, fits.last)) y);
  only = λ k c y.
      let h : k.serial ≤ s.last = omega (arith, fits.given k c, fits.last) in
      kept_later kept.patterns s t on k h y (fits.only k c (stood_before kept.patterns s t on k h y));
  given = fits.given;
  rising = fits.rising;
}

none_in : (k : TableKey) → Contains [] k → {A : Type 0} → A
none_in k c = absurd (omega (arith, c.1))

no_rise : (keys : List TableKey) → keys ≡ [] → IsRising keys
unfolding IsStrictlySortedBy
no_rise keys e = subst (λ l. IsStrictlySortedBy nat_cmp (map (λ k. k.serial) l)) (sym e) tt

pub new_fits : (kept : Kept) (s : Store) → kept.keys ≡ [] → kept.last ≡ 0 → Fits kept s
new_fits kept s keys last = record {
  last = omega (arith, last);
  has = λ k one h y. absurd (omega (arith, one, h, last));
  only = λ k c y. none_in k (subst (λ l. Contains l k) keys c);
  given = λ k c. none_in k (subst (λ l. Contains l k) keys c);
  rising = no_rise kept.keys keys;
}
