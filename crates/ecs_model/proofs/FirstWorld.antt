-- The first world is well formed, where it has what traits ask: its entries are few, and each is looked at.
use Rattle.std.specs.Prelude.{◌≡◌, ◌≢◌, ℕ, zero, suc, ◌+◌, ◌^◌, ◌<◌, ◌≤◌, ◌==◌, Bool, true, false, ◌&&◌, List, [], ◌∷◌, filter_map, length, ℤ, Option, Some, None, cond, if◌then◌else◌}
use Rattle.std.specs.List.{list_all, cons_option}
use Rattle.std.specs.Option.{option_eq, option_or}
use Rattle.std.specs.Ordering.{nat_cmp, eq_by_cmp}
use Rattle.std.specs.declared.cmp.Ordering.{Ordering}
use Rattle.std.specs.declared.cmp.Ordering.TheVariants.{Equal}
use Rattle.std.specs.Cmp.{Equal-is}
use Rattle.std.specs.FinMap.{nat_cmp-IsAntisymmetric}
use Rattle.std.proofs.Common.{refl, sym, ap, subst, ◌∙◌, inl, arith, true≢false}
use Rattle.std.proofs.lemmas.Bool.Decides.{nat_tests, Decides-eqb}
use Rattle.ecs_id.specs.Id.{Id, plain, pair, mentioned, id_cmp}
use Rattle.ecs_model.specs.Map.{Map, value_at, keys, count_at}
use Rattle.ecs_model.specs.Text.{is_name}
use Rattle.ecs_model.specs.World.{Key, key_cmp, first_world, is_live, is_built_in, holds, value_of, name_of, named, ids_of, type_of_id, pair_is_tag}
use Rattle.ecs_model.specs.steps.WellFormed.{IsWellFormed, KeepsTraits}
use Rattle.ecs_model.proofs.Maps.{if_some, some_of, both_true, key_cmp_same}
use Rattle.ecs_model.proofs.TypedValues.{IsTyped}

-- what each entry passes, an entry that is found passes
pub entries_pass : {K X : Type 0} (R : K → K → Ordering) → ((x y : K) → R x y ≡ Equal → x ≡ y) → (p : K → X → Bool) (m : Map K X)
    → list_all (λ e. p e.0 e.1) m ≡ true → (k : K) (x : X) → value_at R m k ≡ Some x → p k x ≡ true
entries_pass R same p [] h k x f = cc
entries_pass R same p (e ∷ es) h k x f =
    let parts = both_true (p e.0 e.1) (list_all (λ e. p e.0 e.1) es) h in by (eq_by_cmp R k e.0) refl f parts.0 (entries_pass R same p es parts.1 k x)
  where
    by : (b : Bool) → eq_by_cmp R k e.0 ≡ b → cond b (Some e.1) (value_at R es k) ≡ Some x → p e.0 e.1 ≡ true → (value_at R es k ≡ Some x → p k x ≡ true) → p k x ≡ true
    by true q g here rest = let key : k ≡ e.0 = same k e.0 ((Equal-is (R k e.0)).0 q) in let is : e.1 ≡ x = cc in λ i. (ap (λ j. p j x) key ∙ ap (p e.0) (sym is) ∙ here) i
    by false q g here rest = rest g

-- whether the n numbers from i on pass
passes : (ℕ → Bool) → ℕ → ℕ → Bool
passes p zero i = true
passes p (suc n) i = p i && passes p n (i + 1)

passes_at : (p : ℕ → Bool) (n i k : ℕ) → passes p n i ≡ true → i ≤ k → k < i + n → p k ≡ true
unfolding passes
passes_at p zero i k h low high = absurd (omega arith)
passes_at p (suc n) i k h low high =
    let parts = both_true (p i) (passes p n (i + 1)) h in by (i == k) refl parts.0 (passes_at p n (i + 1) k parts.1)
  where
    by : (b : Bool) → (i == k) ≡ b → p i ≡ true → (i + 1 ≤ k → k < i + 1 + n → p k ≡ true) → p k ≡ true
    by true q here rest = subst (λ j. p j ≡ true) ((Decides-eqb i k).0 q) here
    by false q here rest = let ne : i ≢ k = λ e. true≢false (sym ((Decides-eqb i k).1 e) ∙ q) in rest (omega arith) (omega arith)

bounds : (i : ℕ) → is_built_in i ≡ true → (1 ≤ i) × (i < 1 + 22)
bounds i h = (grind (arith, nat_tests), grind (arith, nat_tests))

each_built_in : (p : ℕ → Bool) → passes p 22 1 ≡ true → (i : ℕ) → is_built_in i ≡ true → p i ≡ true
each_built_in p h i b = let within = bounds i b in passes_at p 22 1 i h within.0 within.1

pub is_value : (o : Option ℕ) (n : ℕ) → option_eq ◌==◌ o (Some n) ≡ true → o ≡ Some n
is_value None n h = absurd (true≢false (sym h))
is_value (Some m) n h = ap Some ((Decides-eqb m n).0 h)

no_type : (i : Id) → type_of_id first_world i ≡ None
unfolding first_world
no_type (plain c) = refl
no_type (pair r t) = by (holds first_world r (plain pair_is_tag))
  where
    by : (b : Bool) → (if b then None else option_or (value_at nat_cmp first_world.schemas r) (value_at nat_cmp first_world.schemas t)) ≡ None
    by true = refl
    by false = refl

few_made : {A B : Type 0} (h : A → Option B) (xs : List A) → length (filter_map h xs) ≤ length xs
few_made h [] = omega arith
few_made {B = B} h (x ∷ xs) = by (h x) (few_made h xs)
  where
    by : (o : Option B) → length (filter_map h xs) ≤ length xs → length (cons_option o (filter_map h xs)) ≤ suc (length xs)
    by None rest = omega arith
    by (Some y) rest = omega arith

pub live_is_built_in : (i : ℕ) → is_live first_world i ≡ true → is_built_in i ≡ true
unfolding first_world
live_is_built_in i l = let found = some_of (value_at nat_cmp first_world.live i) l in entries_pass nat_cmp nat_cmp-IsAntisymmetric (λ k g. is_built_in k) first_world.live refl i found.0 found.1

built_in_is_live : (i : ℕ) → is_built_in i ≡ true → value_at nat_cmp first_world.live i ≡ Some 0
unfolding first_world passes
built_in_is_live i b = is_value (value_at nat_cmp first_world.live i) 0 (each_built_in (λ j. option_eq ◌==◌ (value_at nat_cmp first_world.live j) (Some 0)) refl i b)

generations : (i g : ℕ) → value_at nat_cmp first_world.live i ≡ Some g → (g ≡ count_at first_world.deletions i) × (g < 2 ^ 16)
unfolding first_world
generations i g found =
    let zero_there : g ≡ 0 = (Decides-eqb g 0).0 (entries_pass nat_cmp nat_cmp-IsAntisymmetric (λ k g. g == 0) first_world.live refl i g found) in
    (zero_there, omega arith)

names_live : (i : ℕ) (n : List ℕ) → name_of first_world i ≡ Some n → (is_live first_world i ≡ true) × (is_name n ≡ true)
unfolding first_world
names_live i n found =
    both_true (is_live first_world i) (is_name n)
    (entries_pass nat_cmp nat_cmp-IsAntisymmetric (λ k m. is_live first_world k && is_name m) first_world.names refl i n found)

named_by : (i : ℕ) (n : List ℕ) → name_of first_world i ≡ Some n → named first_world n ≡ Some i
unfolding first_world
named_by i n found =
    is_value (named first_world n) i
    (entries_pass nat_cmp nat_cmp-IsAntisymmetric (λ k m. option_eq ◌==◌ (named first_world m) (Some k)) first_world.names refl i n found)

names_differ : (i j : ℕ) (n : List ℕ) → name_of first_world i ≡ Some n → name_of first_world j ≡ Some n → i ≡ j
names_differ i j n p q = let same : Some i ≡ Some j = sym (named_by i n p) ∙ named_by j n q in cc

pub facts_live : (e : ℕ) (i : Id) → holds first_world e i ≡ true → (is_live first_world e ≡ true) × (list_all (is_live first_world) (mentioned i) ≡ true)
unfolding first_world
facts_live e i held =
    let found = some_of (value_of first_world e i) held in
    both_true (is_live first_world e) (list_all (is_live first_world) (mentioned i))
    (entries_pass key_cmp key_cmp_same (λ k x. is_live first_world k.0 && list_all (is_live first_world) (mentioned k.1)) first_world.facts refl (e, i) found.0 found.1)

no_values : (e : ℕ) (i : Id) (x : List ℤ) → value_of first_world e i ≡ Some x → IsTyped None x
unfolding first_world
no_values e i x found =
    ((Decides-eqb (length x) 0).0 (entries_pass key_cmp key_cmp_same (λ k y. length y == 0) first_world.facts refl (e, i) x found), refl)

few_ids : (e : ℕ) → length (ids_of first_world e) ≤ 64
unfolding first_world
few_ids e = let few = few_made (λ (k : Key). if k.0 == e then Some k.1 else None) (keys first_world.facts) in omega (arith, few)

pub first_world_is_sound : KeepsTraits first_world → IsWellFormed first_world
unfolding first_world key_cmp id_cmp
first_world_is_sound traits = record {
  in_order = record { live = refl; facts = refl; names = refl; schemas = refl; deletions = refl; pins = refl };
  indexes = record {
    given_out = λ i l. inl (live_is_built_in i l);
    generation = λ i. if_some (λ g. (g ≡ count_at first_world.deletions i) × (g < 2 ^ 16)) (value_at nat_cmp first_world.live i) (generations i);
  };
  built_in = record { live = built_in_is_live; names = λ i b. refl; facts = λ e i b. refl; schemas = λ i b. refl };
  live = record {
    names = λ i. if_some (λ n. (is_live first_world i ≡ true) × (is_name n ≡ true)) (name_of first_world i) (names_live i);
    names_differ = names_differ;
    schemas = λ i. tt;
    pins = λ i. tt;
    facts = facts_live;
  };
  typed = λ e i. if_some (IsTyped (type_of_id first_world i)) (value_of first_world e i) (λ x found. subst (λ o. IsTyped o x) (sym (no_type i)) (no_values e i x found));
  few_ids = few_ids;
  counted = omega arith;
  traits = traits;
}
