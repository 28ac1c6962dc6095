-- The ids of the tests keep their sizes over each call.
use Rattle.std.proofs.Common.{◌≡◌, ℕ, suc, zero, ◌≤◌, ◌==◌, ◌&&◌, Bool, true, false, if◌then◌else◌, [], ◌∷◌, Option, Some, None, IsTrue, IsSome, IfSome, MatchOption, Result, Ok, Err, is_some, not, option_map, slice_get, refl, sym, ap, subst, ◌∙◌, true≢false, arith, inl, inr}
use Rattle.std.proofs.lemmas.Bool.Decides.{Decides-eqb}
use Rattle.std.specs.List.{find}
use Rattle.ecs_id.specs.declared.TableKey.{TableKey}
use Rattle.std.specs.FinMap.{is_sorted}
use Rattle.ecs_id.specs.Id.{Id, id_cmp, id_eq, packed, plain}
use Rattle.ecs_table.specs.Archetype.{Archetype}
use Rattle.ecs_id.specs.TableKeys.{table_eq}
use Rattle.table_store.specs.Store.{HasSize, Shape, Store, find_in, shape_at, shape_of, shaped_at, table_at, with_id, without_id}
use Rattle.table_store.specs.Kept.{IsPut}
use Rattle.test_store.specs.Sizes.{IsOfSizes, IsSized, bytes_of}
use Rattle.table_store.proofs.MadeTables.{some_of}
use Rattle.table_store.proofs.Shapes.{both, found_get, get_filtered, get_put}
use Rattle.table_store.proofs.Slots.{none_is_some, one_some}
use Rattle.table_store.proofs.Steps.{if_each}

pub at_place : (f : Shape) (j : ℕ) (c : Id × ℕ) → IsOfSizes f → slice_get f j ≡ Some c → c.1 ≡ bytes_of c.0
at_place [] zero c h e = absurd (none_is_some c e)
at_place [] (suc j) c h e = absurd (none_is_some c e)
at_place (d ∷ f) zero c h e = subst (λ v. v.1 ≡ bytes_of v.0) (one_some d c e) ((Decides-eqb d.1 (bytes_of d.0)).0 (both _ _ h).0)
at_place (d ∷ f) (suc j) c h e = at_place f j c (both _ _ h).1 e

joined : (a b : Bool) → IsTrue a → IsTrue b → IsTrue (a && b)
joined true b h k = k
joined false b h k = absurd (true≢false (sym h))

each_place : (f : Shape) → ((j : ℕ) (c : Id × ℕ) → slice_get f j ≡ Some c → c.1 ≡ bytes_of c.0) → IsOfSizes f
each_place [] h = refl
each_place (c ∷ f) h = joined _ _ ((Decides-eqb c.1 (bytes_of c.0)).1 (h 0 c refl)) (each_place f (λ j d e. h (suc j) d e))

small : (i : Id) → bytes_of i ≤ 64
small i = by (packed i == 64)
  where
    by : (a : Bool) → (if a then 4 else 0) ≤ 64
    by true = omega arith
    by false = omega arith

pub small_cells : (f : Shape) → IsOfSizes f → (j : ℕ) → IfSome (slice_get f j) (λ c. c.1 ≤ 64)
small_cells f h j = if_each (slice_get f j) (λ c e. subst (λ n. n ≤ 64) (sym (at_place f j c h e)) (small c.0))

-- an id has its size in each table
pub has_size : (s : Store) → IsSized s → (i : Id) → HasSize s i (bytes_of i)
has_size s h i k f e = if_each (find_in i f) (λ m x. let r = found_get f i m x in sym r.4 ∙ at_place f r.0 r.1 (h k f e) r.2 ∙ ap bytes_of r.3)

pub sizes_of_cells : (s : Store) → IsSized s → (f : Shape) → IsOfSizes f → (j : ℕ) → IfSome (slice_get f j) (λ c. HasSize s c.0 c.1)
sizes_of_cells s h f is j = if_each (slice_get f j) (λ c e. subst (HasSize s c.0) (sym (at_place f j c is e)) (has_size s h c.0))

pub sized_with : (f : Shape) (i : Id) → IsOfSizes f → IsOfSizes (with_id f i (bytes_of i))
sized_with f i h = each_place _ (λ j c e. elim (get_put i (bytes_of i) f j c e) [ inl a ↦ a.1 ∙ ap bytes_of (sym a.0) | inr a ↦ at_place f a.0 c h a.1 ])

pub sized_without : (f : Shape) (i : Id) → IsOfSizes f → IsOfSizes (without_id f i)
sized_without f i h = each_place _ (λ j c e. let m = get_filtered (λ c. not (id_eq c.0 i)) f j c e in at_place f m.0 c h m.1)

sized_made : (s n : Store) (k : TableKey) (f : Shape) → IsOfSizes f → ((q : TableKey) → shape_at n q ≡ shaped_at s k f q) → IsSized s → IsSized n
sized_made s n k f h shapes is q g e = by (table_eq q k) (sym (shapes q) ∙ e)
  where
    by : (b : Bool) → (if b then Some f else shape_at s q) ≡ Some g → IsOfSizes g
    by true x = subst IsOfSizes (one_some f g x) h
    by false x = is q g x

pub sized_empty : (s : Store) → s.tables ≡ [] → IsSized s
unfolding table_at
sized_empty s none k f e = absurd (none_is_some f (ap (λ l. option_map shape_of (option_map (λ x. x.1) (find (λ x. table_eq k x.0) l))) (sym none) ∙ e))

-- the table that `get` answers stands
pub stands : {X : Type 0} (r : Option X) (o : Option Archetype) (t : X → Archetype) → is_some r ≡ true → MatchOption r (o ≡ None) (λ x. o ≡ Some (t x)) → IsSome o
stands None o t h m = absurd (true≢false (sym h))
stands (Some x) o t h m = some_of o (t x) m

abbrev pub pair_of : Id → Id → Shape
pair_of a t = (a, 4) ∷ (t, 0) ∷ []

pub pair_ascends : (a t : Id) → a ≡ plain 64 → t ≡ plain 100 → IsTrue (is_sorted id_cmp (pair_of a t))
unfolding id_cmp
pair_ascends a t p q = subst (λ l. IsTrue (is_sorted id_cmp l)) (λ i. pair_of (sym p i) (sym q i)) refl

pub pair_sizes : (a t : Id) → a ≡ plain 64 → t ≡ plain 100 → IsOfSizes (pair_of a t)
pair_sizes a t p q = subst IsOfSizes (λ i. pair_of (sym p i) (sym q i)) refl

-- the sizes stay, or an id of its size comes
pub sized_after : {E : Type 0} (s n : Store) (r : Result TableKey E) (f : Shape) → IsOfSizes f → IsPut s f r n → IsSized s → IsSized n
sized_after s n (Ok k) f h put is = sized_made s n k f h put.ok.shapes is
sized_after s n (Err e) f h put is = subst IsSized (sym put.err) is
