-- What the mark of a slot says of the table under a key.
use Rattle.std.proofs.Common.{◌≡◌, ℕ, ◌+◌, ◌-◌, ◌<◌, ◌≤◌, IsSome, cond, Bool, true, false, List, [], ◌∷◌, map, arith, Option, None, Some, IfSome, MatchOption, length, nat_lt, option_map, unwrap_or, slice_index_or, refl, sym, ap, ◌∙◌}
use Rattle.std.specs.Int.{bit_at}
use Rattle.std.specs.Option.{option_map_or}
use Rattle.slab.specs.Slab.{Slab}
use Rattle.ecs_id.specs.declared.EntityId.{EntityId}
use Rattle.ecs_id.specs.declared.TableKey.{TableKey}
use Rattle.ecs_table.specs.Archetype.{Archetype}
use Rattle.table_store.specs.Store.{Store, table_at}
use Rattle.table_store.specs.Rows.{rows_in}
use Rattle.table_store.specs.Kept.{AreMarked, Held, is_filled, store_of}
use Rattle.table_store.proofs.Changes.{rows_here, the_slot, there}
use Rattle.table_store.proofs.Marks.{filled_more, not_filled}

pub no_rows : (s : Store) (k : TableKey) → table_at s k ≡ None → rows_in s k ≡ 0
no_rows s k e = ap (λ o. unwrap_or (option_map (λ (t : Archetype). length t.entities) o) 0) e

-- where a table has no rows, no entity stands
pub nobody_by : {X : Type 0} (f : EntityId → X) (s : Store) (k : TableKey) → rows_in s k ≡ 0 → option_map_or (λ (t : Archetype). map f t.entities) (table_at s k) [] ≡ []
nobody_by {X} f s k = by (table_at s k)
  where
    none : (es : List EntityId) → length es ≡ 0 → map f es ≡ []
    none [] h = refl
    none (e ∷ es) h = absurd (omega (arith, h))

    by : (o : Option Archetype) → unwrap_or (option_map (λ (t : Archetype). length t.entities) o) 0 ≡ 0 → option_map_or (λ (t : Archetype). map f t.entities) o [] ≡ []
    by None h = refl
    by (Some t) h = none t.entities h

pub nobody : (s : Store) (k : TableKey) → rows_in s k ≡ 0 → option_map_or (λ (t : Archetype). t.entities) (table_at s k) [] ≡ []
nobody s k = by (table_at s k)
  where
    none : (es : List EntityId) → length es ≡ 0 → es ≡ []
    none [] h = refl
    none (e ∷ es) h = absurd (omega (arith, h))

    by : (o : Option Archetype) → unwrap_or (option_map (λ (t : Archetype). length t.entities) o) 0 ≡ 0 → option_map_or (λ (t : Archetype). t.entities) o [] ≡ []
    by None h = refl
    by (Some t) h = none t.entities h

-- what is said of no answer, and of one
pub none_to : {T : Type 0} (o : Option T) (A B : Type 0) (P : T → Type 0) → (A → B) → MatchOption o A P → MatchOption o B P
none_to None A B P f h = f h
none_to (Some x) A B P f h = h

pub some_to : {T : Type 0} (o : Option T) (A : Type 0) (P Q : T → Type 0) → ((x : T) → P x → Q x) → MatchOption o A P → IfSome o Q
some_to None A P Q g h = tt
some_to (Some x) A P Q g h = g x h

module _ {Y : Type 0} (tables : Slab (Held Y)) (last : ℕ) (s : Store) (view : store_of tables last ≡ s) (filled : List Bool) (marked : AreMarked tables filled) (k : TableKey) where
  mark_here : (t : Archetype) → table_at s k ≡ Some t → slice_index_or filled k.slot false ≡ nat_lt 0 (length t.entities)
  mark_here t at =
      let slot = the_slot tables last s view k t at in
      marked.told k.slot ∙ ap is_filled slot.1 ∙ ap (λ (v : Archetype). nat_lt 0 (length v.entities)) slot.3

  pub filled_rows : slice_index_or filled k.slot false ≡ true → (t : Archetype) → table_at s k ≡ Some t → 0 < length t.entities
  filled_rows mark t at = filled_more (length t.entities) (sym (mark_here t at) ∙ mark)

  pub empty_rows : slice_index_or filled k.slot false ≡ false → rows_in s k ≡ 0
  empty_rows mark = by (table_at s k) refl
    where
      by : (o : Option Archetype) → table_at s k ≡ o → rows_in s k ≡ 0
      by None e = no_rows s k e
      by (Some t) e = rows_here s k t e ∙ not_filled t.entities (sym (mark_here t e) ∙ mark)

  -- of some slots from one on, the bit of the table's
  pub filled_bit : (bits slot : ℕ) → ((n : ℕ) → n < 64 → bit_at bits n ≡ cond (slice_index_or filled (slot + n) false) 1 0) → IsSome (table_at s k) → slot ≤ k.slot → k.slot < slot + 64
      → bit_at bits (k.slot - slot) ≡ cond (nat_lt 0 (rows_in s k)) 1 0
  filled_bit bits slot are is low high =
      let t = there (table_at s k) is in
      let at : slot + (k.slot - slot) ≡ k.slot = omega (arith, low) in
      are (k.slot - slot) (omega (arith, low, high))
      ∙ ap (λ n. cond (slice_index_or filled n false) 1 0) at
      ∙ ap (λ b. cond b 1 0) (mark_here t.0 t.1 ∙ ap (nat_lt 0) (sym (rows_here s k t.0 t.1)))
