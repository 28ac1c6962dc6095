-- What a well-formed world shows has no repeats.
use Rattle.std.proofs.Common.{◌≡◌, ℕ, true, false, cond, inl, inr, List, [], ◌∷◌, refl, sym, ap, ◌∙◌, subst}
use Rattle.std.specs.Prelude.{filter_map, ◌==◌, Option, Some, None, if◌then◌else◌}
use Rattle.std.specs.List.{cons_option}
use Rattle.std.specs.declared.cmp.Ordering.{Ordering}
use Rattle.std.specs.declared.cmp.Ordering.TheVariants.{Equal}
use Rattle.std.specs.Ordering.{nat_cmp, is_lt, ordering_then}
use Rattle.std.specs.Cmp.{nat_cmp_is}
use Rattle.std.specs.FinMap.Entries.{below_all}
use Rattle.std.proofs.lemmas.Bool.{false≢true, and_parts, eqb-true}
use Rattle.std.proofs.lemmas.Option.{same_Some}
use Rattle.ecs_id.specs.Id.{Id, id_cmp, rank, first_of, target_or_zero}
use Rattle.ecs_model.specs.Map.{Map, IsMap, keys}
use Rattle.ecs_model.specs.World.{WorldState, Key, key_cmp, ids_of, entities}
use Rattle.ecs_model.specs.steps.WellFormed.{IsWellFormed}
use Rattle.ecs_model.specs.rows.View.{view_of}
use Rattle.query_meaning.specs.Laws.{WorldsHaveNoRepeats}
use Rattle.query_meaning.proofs.Lists.{In, Distinct, AllPairs-from_Distinct}

In-filter_map_from : {X Y : Type 0} (h : X → Option Y) (xs : List X) (y : Y) → In y (filter_map h xs) → (x : X) × (In x xs) × (h x ≡ Some y)
In-filter_map_from h [] y i = absurd i
In-filter_map_from {X} {Y} h (x ∷ xs) y i =
    elim (h x) as (λ o. h x ≡ o → In y (cons_option o (filter_map h xs)) → (z : X) × (In z (x ∷ xs)) × (h z ≡ Some y)) [
      | None ↦ λ t i. let r = In-filter_map_from h xs y i in (r.0, inr r.1, r.2)
      | Some z ↦ λ t i. elim i [
        | inl e ↦ (x, inl refl, t ∙ ap Some e)
        | inr j ↦ let r = In-filter_map_from h xs y j in (r.0, inr r.1, r.2)
      ]
    ] refl i

Distinct-filter_map : {X Y : Type 0} (h : X → Option Y) → ((a b : X) (y : Y) → h a ≡ Some y → h b ≡ Some y → a ≡ b) → (xs : List X) → Distinct xs → Distinct (filter_map h xs)
Distinct-filter_map h same [] d = tt
Distinct-filter_map h same (x ∷ xs) d =
    elim (h x) as (λ o. h x ≡ o → Distinct (cons_option o (filter_map h xs))) [
      | None ↦ λ t. Distinct-filter_map h same xs d.1
      | Some z ↦ λ t. (λ i. let r = In-filter_map_from h xs z i in d.0 (subst (λ k. In k xs) (same r.0 x z r.2 t) r.1), Distinct-filter_map h same xs d.1)
    ] refl

module _ {K X : Type 0} (R : K → K → Ordering) (tie : (k : K) → R k k ≡ Equal) where
  above : (k : K) (m : Map K X) → below_all R k m ≡ true → In k (keys m) → ⊥
  above k [] h i = i
  above k (e ∷ es) h (inl same) = false≢true (ap is_lt (sym (tie k)) ∙ ap (λ x. is_lt (R k x)) (sym same) ∙ (and_parts _ _ h).0)
  above k (e ∷ es) h (inr i) = above k es (and_parts _ _ h).1 i

  pub Distinct-keys_of : (m : Map K X) → IsMap R m → Distinct (keys m)
  Distinct-keys_of [] h = tt
  Distinct-keys_of (e ∷ es) h = (above e.0 es (and_parts _ _ h).0, Distinct-keys_of es (and_parts _ _ h).1)

nat_tie : (k : ℕ) → nat_cmp k k ≡ Equal
nat_tie k = sym (nat_cmp_is k k Equal refl)

then_tie : (a b : Ordering) → a ≡ Equal → b ≡ Equal → ordering_then a b ≡ Equal
then_tie a b h k = ap (λ o. ordering_then o b) h ∙ k

key_tie : (k : Key) → key_cmp k k ≡ Equal
unfolding key_cmp id_cmp
key_tie k = then_tie _ _ (nat_tie k.0) (then_tie _ _ (nat_tie (rank k.1)) (then_tie _ _ (nat_tie (first_of k.1)) (nat_tie (target_or_zero k.1))))

kept_key : (e : ℕ) (k : Key) (y : Id) → (if k.0 == e then Some k.1 else None) ≡ Some y → (k.0 ≡ e) × (k.1 ≡ y)
kept_key e k y h = elim (k.0 == e) as (λ b. (k.0 == e) ≡ b → (if b then Some k.1 else None) ≡ Some y → (k.0 ≡ e) × (k.1 ≡ y)) [
  | true ↦ λ t h. (eqb-true k.0 e t, same_Some k.1 y h)
  | false ↦ λ t h. cc
] refl h

Distinct-ids_of : (w : WorldState) (e : ℕ) → IsMap key_cmp w.facts → Distinct (ids_of w e)
Distinct-ids_of w e order =
    Distinct-filter_map (λ k. if k.0 == e then Some k.1 else None) (λ a b y p q. let x = kept_key e a y p in let z = kept_key e b y q in let sources : a.0 ≡ b.0 = x.0 ∙ sym z.0 in let ids : a.1 ≡ b.1 = x.1 ∙ sym z.1 in λ i. (sources i, ids i)) (keys w.facts) (Distinct-keys_of key_cmp key_tie w.facts order)

pub worlds_have_no_repeats : WorldsHaveNoRepeats
worlds_have_no_repeats w sound =
    let order = sound.in_order in
    record {
      entities = AllPairs-from_Distinct (entities w) (Distinct-keys_of nat_cmp nat_tie w.live order.live);
      ids = λ e. AllPairs-from_Distinct (ids_of w e) (Distinct-ids_of w e order.facts);
    }
