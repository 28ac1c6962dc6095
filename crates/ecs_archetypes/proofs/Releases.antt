-- Tables that are released, one after another.
use Rattle.std.proofs.Common.{◌≡◌, ◌↔◌, ℕ, zero, suc, length, unwrap_or, ◌-◌, ◌<◌, Bool, true, false, cond, List, [], ◌∷◌, Option, Some, None, option_map, is_some, refl, sym, ap, subst, ◌∙◌, arith}
use Rattle.std.specs.Prelude.{Contains, MatchOption, slice_get}
use Rattle.std.specs.Option.{IsSome}
use Rattle.std.specs.FinMap as finite
use Rattle.std.specs.FinMap.{empty_of_len, get-empty, len, len-remove}
use Rattle.ecs_id.specs.declared.Place.{Place}
use Rattle.ecs_id.specs.declared.TableKey.{TableKey}
use Rattle.ecs_id.specs.Id.{Id}
use Rattle.ecs_table.specs.Archetype.{Archetype}
use Rattle.ecs_model.proofs.Maps.{some_of}
use Rattle.id_pattern.specs.declared.Pattern.{Pattern}
use Rattle.component_index.specs.Entered.{Entered, IsMatched, table_cmp, table_cmp_total}
use Rattle.table_store.specs.Going.{goes_on_same}
use Rattle.table_store.specs.Rows.{IsStored, row_at, rows_in}
use Rattle.ecs_id.specs.TableKeys.{table_eq}
use Rattle.table_store.specs.Store.{Store, released_at, table_at}
use Rattle.ecs_archetypes.specs.Housing.{AreEntered}
use Rattle.ecs_archetypes.specs.Scans.{HasMatch, StandApart}
use Rattle.ecs_archetypes.proofs.Placings.{table_eq-tells}

-- what is listed by the entries are the tables with a match
pub all_matched : (s : Store) (x : Entered) → AreEntered s x → (pattern : Pattern) (tables : List TableKey) → ((k : TableKey) → Contains tables k ↔ IsMatched x pattern k) → (k : TableKey) → Contains tables k ↔ HasMatch s pattern k
all_matched s x entered pattern tables listed k = (
  λ c. let m = (listed k).0 c in (m.0, sym (entered k) ∙ m.1, m.2),
  λ m. (listed k).1 (m.0, entered k ∙ m.1, m.2),
)

-- an entry that goes leaves one less
pub one_less : (s : Store) (key : TableKey) (x y : Entered) → AreEntered s x → IsSome (table_at s key) → y ≡ finite.remove x key → len y < len x
one_less s key x y are there left =
    let t = some_of (table_at s key) there in
    let found : finite.get x key ≡ Some (t.0).ids = are key ∙ ap (option_map (λ t. t.ids)) t.1 in
    let less : len y ≡ len x - 1 = ap len left ∙ len-remove table_cmp_total x key ∙ ap (λ o. cond (is_some o) (len x - 1) (len x)) found in
    by (len x) refl (λ none. let no : None ≡ Some (t.0).ids = sym (ap (λ z. finite.get z key) (empty_of_len x none) ∙ get-empty table_cmp key) ∙ found in cc) less
  where
    by : (n : ℕ) → len x ≡ n → (len x ≡ 0 → ⊥) → len y ≡ len x - 1 → len y < len x
    by zero e some less = absurd (some e)
    by (suc n) e some less = omega (arith, e, less)

-- a table that stands is found
pub found_there : {X : Type 0} (r : Option X) (o : Option Archetype) (Q : X → Type 0) → MatchOption r (o ≡ None) Q → IsSome o → IsSome r
found_there None o Q none there = subst IsSome none there
found_there (Some x) o Q found there = refl

pub first_in : {X : Type 0} (xs : List X) (x : X) → slice_get xs 0 ≡ Some x → Contains xs x
first_in [] x h = cc
first_in (y ∷ ys) x h = (0, omega arith, let same : y ≡ x = cc in same)

pub none_in : {X : Type 0} (xs : List X) → slice_get xs 0 ≡ None → (x : X) → Contains xs x → ⊥
none_in [] h x c = let lt = c.1 in omega (arith, lt)
none_in (y ∷ ys) h x c = cc

-- matched tables of the store before are released, and the others stand
pub record AreReleased (pattern : Pattern) (before now : Store) (x : Entered) : Type 0 where
  pub entered : AreEntered now x
  pub stored : IsStored now
  pub apart : StandApart pattern before now
  pub fewer : (k : TableKey) (t : Archetype) → table_at now k ≡ Some t → table_at before k ≡ Some t
  pub rows : (p : Place) → row_at now p ≡ row_at before p

pub released_none : (pattern : Pattern) (before : Store) (x : Entered) → AreEntered before x → IsStored before → AreReleased pattern before before x
released_none pattern before x entered stored = record {
  entered = entered;
  stored = stored;
  apart = record { others = λ k h. refl; goes_on = goes_on_same before; last = refl };
  fewer = λ k t h. h;
  rows = λ p. refl;
}

stands : (o : Option Archetype) (ids : List Id) → option_map (λ t. t.ids) o ≡ Some ids → (t : Archetype) × (o ≡ Some t) × (t.ids ≡ ids)
stands None ids h = cc
stands (Some t) ids h = (t, refl, cc)

module _ (pattern : Pattern) (before now : Store) (x : Entered) (so_far : AreReleased pattern before now x) where
  -- what is matched now was matched before
  matched_before : (k : TableKey) → HasMatch now pattern k → HasMatch before pattern k
  matched_before k m = let t = stands (table_at now k) m.0 m.1 in (m.0, ap (option_map (λ t. t.ids)) (so_far.fewer k t.0 t.1) ∙ ap Some t.2, m.2)

  pub matched_stands : (k : TableKey) → HasMatch now pattern k → IsSome (table_at now k)
  matched_stands k m = let t = stands (table_at now k) m.0 m.1 in subst IsSome (sym t.1) refl

  pub matched_empty : ((k : TableKey) → HasMatch before pattern k → rows_in before k ≡ 0) → (k : TableKey) → HasMatch now pattern k → rows_in now k ≡ 0
  matched_empty empty k m =
      let t = stands (table_at now k) m.0 m.1 in
      ap rows_of (t.1 ∙ sym (so_far.fewer k t.0 t.1)) ∙ empty k (matched_before k m)
    where
      rows_of : Option Archetype → ℕ
      rows_of o = unwrap_or (option_map (λ t. length t.entities) o) 0

  module _ (next : Store) (y : Entered) (key : TableKey) (has : HasMatch now pattern key) (tables : (q : TableKey) → table_at next q ≡ released_at now key q) where
    released_by : (b : Bool) (k : TableKey) (t : Archetype) → cond b None (table_at now k) ≡ Some t → table_at now k ≡ Some t
    released_by true k t h = cc
    released_by false k t h = h

    fewer : (k : TableKey) (t : Archetype) → table_at next k ≡ Some t → table_at before k ≡ Some t
    fewer k t h = so_far.fewer k t (released_by (table_eq k key) k t (sym (tables k) ∙ h))

    others : (k : TableKey) → (HasMatch before pattern k → ⊥) → table_at next k ≡ table_at before k
    others k apart = tables k ∙ by (table_eq k key) (table_eq-tells k key).0 ∙ so_far.apart.others k apart
      where
        by : (b : Bool) → (b ≡ true → k ≡ key) → cond b None (table_at now k) ≡ table_at now k
        by true same = absurd (apart (subst (HasMatch before pattern) (sym (same refl)) (matched_before key has)))
        by false same = refl

    pub released_more : AreEntered next y → IsStored next → next.last ≡ now.last → ((p : Place) → row_at next p ≡ row_at now p) → AreReleased pattern before next y
    released_more entered stored last rows = record {
      entered = entered;
      stored = stored;
      apart = record {
        others = others;
        goes_on = record { stood = λ k ids given h. let t = stands (table_at next k) ids h in ap (option_map (λ t. t.ids)) (fewer k t.0 t.1) ∙ ap Some t.2; last = let e = so_far.apart.last in omega (arith, e, last) };
        last = last ∙ so_far.apart.last;
      };
      fewer = fewer;
      rows = λ p. rows p ∙ so_far.rows p;
    }
