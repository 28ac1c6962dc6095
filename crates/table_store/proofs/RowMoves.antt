-- A row moves to another table of the store: its table comes out of its slot, gives up the row, and comes back.
use Rattle.std.proofs.Common.{◌≡◌, ◌≢◌, ℕ, suc, zero, ◌+◌, ◌<◌, ◌==◌, ◌&&◌, Bool, true, false, cond, if◌then◌else◌, List, [], ◌∷◌, Option, Some, None, IsSome, is_some, length, nat_lt, set, option_map, option_and_then, slice_index_or, slice_set, fold, refl, sym, ap, subst, ◌∙◌, true≢false, arith}
use Rattle.std.proofs.lemmas.Bool.Decides.{Decides-eqb}
use Rattle.std.proofs.lemmas.List.{get_or-set_other, length-set}
use Rattle.std.specs.declared.vec.Vec.{Vec}
use Rattle.slab.specs.Slab as slots
use Rattle.slab.specs.Slab.{Slab, Updates, with_value, slab_len}
use Rattle.slab.proofs.SlabLemmas.{Updates-with_value}
use Rattle.ecs_id.specs.declared.Place.{Place}
use Rattle.ecs_id.specs.declared.TableKey.{TableKey}
use Rattle.ecs_table.specs.Archetype.{Archetype, HaveEqualSizes, HaveOneSize, IsSound, entity_at, with_moved, without_row}
use Rattle.ecs_table.proofs.Rows.{equal_sizes, row_of_moved, row_past, shape_of_moved, shape_of_removed}
use Rattle.ecs_table.proofs.Soundness.{sound_with_moved, sound_without_row}
use Rattle.ecs_table.proofs.TableIds.{both_first}
use Rattle.table_store.specs.declared.store.TableSlot.{TableSlot}
use Rattle.ecs_id.specs.TableKeys.{table_eq}
use Rattle.table_store.specs.Store.{Shape, Store, changed_at, moved_at, shape_at, shape_of, table_at}
use Rattle.table_store.specs.Rows.{IsStored, Row, carried, filler, gap_filled, last_place, moved_rows, removed_rows, row_at, row_of, same_place, with_row_at, without_row_at}
use Rattle.table_store.specs.Kept.{AreInTurn, AreMarked, ByIds, Held, store_of, IsKept}
use Rattle.table_store.proofs.Marks.{filled_already, marked_moved, not_first, pushed_fills}
use Rattle.table_store.proofs.Slots.{key_eq_false, one_some, same_key}
use Rattle.table_store.proofs.StoreLemmas.{stored}
use Rattle.table_store.proofs.Turns.{turns_updated}
use Rattle.table_store.proofs.Changes.{IsKept-changed, changed, row_changed, row_here, shape_here, shapes, table_here, the_slot, written, written_kept, written_row, written_shapes}
use Rattle.table_store.proofs.RowCalls.{removed_is, sound_here}

-- a slot that is written over is still taken
fold_set : {X : Type 0} (xs : List (Option X)) (k n : ℕ) (x y : X) → slice_index_or xs k None ≡ Some x
    → fold (λ (a : ℕ) o. a + cond (is_some o) 1 0) n (slice_set xs k (Some y)) ≡ fold (λ (a : ℕ) o. a + cond (is_some o) 1 0) n xs
fold_set [] zero n x y e = refl
fold_set [] (suc k) n x y e = refl
fold_set (None ∷ xs) zero n x y e = absurd (true≢false (sym (ap is_some e)))
fold_set (Some z ∷ xs) zero n x y e = refl
fold_set (None ∷ xs) (suc k) n x y e = fold_set xs k (n + 0) x y e
fold_set (Some z ∷ xs) (suc k) n x y e = fold_set xs k (n + 1) x y e

pub still_room : {X : Type 0} (s : Slab X) (k : ℕ) (x y : X) → slots.get s k ≡ Some x → slab_len (with_value s k y) ≡ slab_len s
still_room s k x y e = fold_set s.slots k 0 x y e

-- what stands in the place of a row that came, and in that of the one that filled a gap
places_apart : (rows : Place → Option Row) (p last q : Place) (o : Option Row) (v : Row) (r : Place) → (same_place r q ≡ true → same_place r p ≡ false) → (same_place r q ≡ true → same_place r last ≡ false)
    → with_row_at (gap_filled (without_row_at rows p) last p o) q v r ≡ gap_filled (with_row_at (without_row_at rows p) q v) last p o r
places_apart rows p last q None v r one two = refl
places_apart rows p last q (Some w) v r one two = by (same_place r q) (same_place r p) (same_place r last) one two
  where
    by : (a b c : Bool) → (a ≡ true → b ≡ false) → (a ≡ true → c ≡ false)
        → cond a (Some v) (cond b (Some w) (cond c None (cond b None (rows r)))) ≡ cond b (Some w) (cond c None (cond a (Some v) (cond b None (rows r))))
    by true true c h g = absurd (true≢false (h refl))
    by true false true h g = absurd (true≢false (g refl))
    by true false false h g = refl
    by false b c h g = refl

-- a place in one table is none in another
other_table : (r q p : Place) → q.table ≢ p.table → same_place r q ≡ true → same_place r p ≡ false
other_table r q p apart e = ap (λ b. b && r.row == p.row) (key_eq_false r.table p.table (λ same. apart (sym (same_key r.table q.table (both_first (table_eq r.table q.table) (r.row == q.row) e)) ∙ same)))

module _ {Y : Type 0} (tables out back : Slab (Held Y)) (last : ℕ) (s : Store) (view : store_of tables last ≡ s) (by_ids : ByIds Y) (by_serial : Vec TableKey Y) (kept : IsKept tables by_ids by_serial last)
    (from to : TableKey) (apart : from ≢ to) (src tgt : Archetype) (at_from : table_at s from ≡ Some src) (at_to : table_at s to ≡ Some tgt) (row : ℕ) (there : row < length src.entities)
    (x : Held Y) (is_x : slots.get tables from.slot ≡ Some x) (u1 : Updates tables out from.slot None) where
  slots_differ : to.slot ≢ from.slot
  slots_differ e =
      let f = the_slot tables last s view from src at_from in let t = the_slot tables last s view to tgt at_to in
      let same : f.0 ≡ t.0 = one_some f.0 t.0 (sym f.1 ∙ ap (slots.get tables) (sym e) ∙ t.1) in
      let serials : from.serial ≡ to.serial = sym f.2 ∙ ap (λ (v : Held Y). v.value.serial) same ∙ t.2 in
      apart (λ i. record { slot = sym e i; serial = serials i })

  pub target_there : IsSome (slots.get out to.slot)
  target_there = subst IsSome (sym (u1.others to.slot slots_differ ∙ (the_slot tables last s view to tgt at_to).1)) refl

  pub source_is : x.value.table ≡ src
  source_is = table_here tables last s view from src at_from x is_x

  module _ (z : Held Y) (is_z : slots.get out to.slot ≡ Some z) where
    pub is_z0 : slots.get tables to.slot ≡ Some z
    is_z0 = sym (u1.others to.slot slots_differ) ∙ is_z

    pub target_is : z.value.table ≡ tgt
    target_is = table_here tables last s view to tgt at_to z is_z0

    sound_src : IsSound src
    sound_src = sound_here tables last s view from src at_from x is_x by_ids by_serial kept

    sound_tgt : IsSound tgt
    sound_tgt = sound_here tables last s view to tgt at_to z is_z0 by_ids by_serial kept

    -- both slots have marks
    pub moved_within : (filled : List Bool) → AreMarked tables filled → (from.slot < length filled) × (to.slot < length filled)
    moved_within filled marked = (marked.within from.slot (subst IsSome (sym is_x) refl), marked.within to.slot (subst IsSome (sym is_z0) refl))

    pub target_filled : (filled : List Bool) → AreMarked tables filled → (n : ℕ) → n ≡ length z.value.table.entities → (n == 0) ≡ false → slice_index_or filled to.slot false ≡ true
    target_filled filled marked n is more = filled_already tables to.slot z is_z0 filled marked (not_first n (length z.value.table.entities) is more)

    pub source_within : (filled : List Bool) → AreMarked tables filled → from.slot < length (set filled to.slot true)
    source_within filled marked = subst (λ l. from.slot < l) (sym (length-set filled to.slot true)) (moved_within filled marked).0

    pub source_filled : (filled : List Bool) → AreMarked tables filled → slice_index_or (set filled to.slot true) from.slot false ≡ true
    source_filled filled marked =
        get_or-set_other filled to.slot from.slot true false (λ e. slots_differ (sym e))
        ∙ filled_already tables from.slot x is_x filled marked (subst (λ (v : Archetype). 0 < length v.entities) (sym source_is) (omega (arith, there)))

    pub sizes_alike : HaveOneSize (shape_of src) (shape_of tgt)
    sizes_alike i m n p q =
        let st : shape_at (store_of tables last) from ≡ Some (shape_of src) = ap (λ w. shape_at w from) view ∙ shape_here s from src at_from in
        let tt0 : shape_at (store_of tables last) to ≡ Some (shape_of tgt) = ap (λ w. shape_at w to) view ∙ shape_here s to tgt at_to in
        kept.store.one_size from to (shape_of src) (shape_of tgt) i m n st tt0 p q

    pub sizes_equal : HaveEqualSizes x.value.table z.value.table
    sizes_equal = subst (λ v. HaveEqualSizes v z.value.table) (sym source_is) (subst (λ v. HaveEqualSizes src v) (sym target_is) (equal_sizes src tgt sound_src sound_tgt sizes_alike))

    module _ (dx dz : TableSlot Y) (lent_x : dx ≡ x.value) (lent_z : dz ≡ z.value) (xt zt : Archetype) (own_left : xt ≡ without_row dx.table row) (own_came : zt ≡ with_moved dz.table dx.table row)
        (u2 : Updates (with_value out to.slot (record z { value = record dz { table = zt } })) back from.slot (Some (record x { value = record dx { table = xt } }))) where
      abbrev x1 : Held Y
      x1 = record x { value = record dx { table = xt } }

      abbrev z1 : Held Y
      z1 = record z { value = record dz { table = zt } }

      came : zt ≡ with_moved z.value.table x.value.table row
      came = own_came ∙ (λ i. with_moved (lent_z i).table (lent_x i).table row)

      -- the store between: the row is gone, and stands nowhere yet
      abbrev mid : Slab (Held Y)
      mid = with_value tables from.slot x1

      abbrev s1 : Store
      s1 = store_of mid last

      mid_updates : Updates tables mid from.slot (Some x1)
      mid_updates = Updates-with_value tables from.slot x1 (subst IsSome (sym is_x) refl)

      out_updates : Updates out (with_value out to.slot z1) to.slot (Some z1)
      out_updates = Updates-with_value out to.slot z1 (subst IsSome (sym is_z) refl)

      kept1 : IsKept mid by_ids by_serial last
      kept1 = written_kept tables last s view from src at_from x is_x dx lent_x xt (λ v. without_row v row) own_left by_ids by_serial kept (shape_of_removed src row) (sound_without_row src row there sound_src)

      rows1 : (q : Place) → row_at s1 q ≡ removed_rows s (record { table = from; row = row }) q
      rows1 = removed_is s from src at_from row there sound_src s1 (written_row tables last s view from src at_from x is_x dx lent_x xt (λ v. without_row v row) own_left)

      tables1 : (q : TableKey) → table_at s1 q ≡ changed_at s from (λ v. without_row v row) q
      tables1 = written tables last s view from src at_from x is_x dx lent_x xt (λ v. without_row v row) own_left

      shapes1 : (q : TableKey) → shape_at s1 q ≡ shape_at s q
      shapes1 = written_shapes tables last s view from src at_from x is_x dx lent_x xt (λ v. without_row v row) own_left (shape_of_removed src row)

      at_to1 : table_at s1 to ≡ Some tgt
      at_to1 = tables1 to ∙ ap (λ b. if b then option_map (λ v. without_row v row) (table_at s to) else table_at s to) (key_eq_false to from (λ e. apart (sym e))) ∙ at_to

      is_z1 : slots.get mid to.slot ≡ Some z
      is_z1 = mid_updates.others to.slot slots_differ ∙ is_z0

      u3 : Updates mid back to.slot (Some z1)
      u3 = record {
        changed = u2.others to.slot slots_differ ∙ out_updates.changed;
        others = λ n other. by n other (n == from.slot) refl;
      }
        where
          by : (n : ℕ) → n ≢ to.slot → (b : Bool) → (n == from.slot) ≡ b → slots.get back n ≡ slots.get mid n
          by n other true e = let same = (Decides-eqb n from.slot).0 e in ap (slots.get back) same ∙ u2.changed ∙ sym (mid_updates.changed) ∙ ap (slots.get mid) (sym same)
          by n other false e = let differ : n ≢ from.slot = λ same. true≢false (sym ((Decides-eqb n from.slot).1 same) ∙ e) in
              u2.others n differ ∙ out_updates.others n other ∙ u1.others n differ ∙ sym (mid_updates.others n differ)

      abbrev f : Archetype → Archetype
      f v = with_moved v src row

      made : zt ≡ f z.value.table
      made = came ∙ ap (λ v. with_moved z.value.table v row) source_is

      pub moved_kept : IsKept back by_ids by_serial last
      moved_kept = IsKept-changed mid back last s1 refl to tgt at_to1 z z1 is_z1 u3 f made (ap (λ v. v.serial) lent_z) by_ids by_serial kept1 (shape_of_moved tgt src row sound_tgt) (sound_with_moved tgt src row sound_tgt) (ap (λ v. v.more) lent_z) (ap (λ v. v.less) lent_z)

      pub moved_marked : (filled : List Bool) → AreMarked tables filled → (b : Bool) → b ≡ nat_lt 0 (length xt.entities) → AreMarked back (set (set filled to.slot true) from.slot b)
      moved_marked filled marked b left = marked_moved tables out back filled marked from.slot to.slot slots_differ x1 z1 u1 (subst IsSome (sym is_z) refl) u2 (marked.within from.slot (subst IsSome (sym is_x) refl)) b left
          (pushed_fills dz.table.entities (entity_at dx.table row) ∙ ap (λ (v : Archetype). nat_lt 0 (length v.entities)) (sym own_came))

      pub moved_turns : (in_turn : List Bool) → AreInTurn tables in_turn → AreInTurn back in_turn
      moved_turns in_turn turns =
          turns_updated mid back to.slot z z1 is_z1 u3 (ap (λ v. v.serial) lent_z) in_turn (turns_updated tables mid from.slot x x1 is_x mid_updates (ap (λ v. v.serial) lent_x) in_turn turns)

      pub moved_stored : IsStored (store_of back last)
      moved_stored = stored back by_ids by_serial last moved_kept (store_of back last) refl

      pub moved_tables : (q : TableKey) → table_at (store_of back last) q ≡ moved_at s from to src row q
      moved_tables q = changed mid back last s1 refl to tgt at_to1 z z1 is_z1 u3 f made (ap (λ v. v.serial) lent_z) q ∙ by (table_eq q to) refl
        where
          by : (b : Bool) → table_eq q to ≡ b → (if b then option_map f (table_at s1 q) else table_at s1 q) ≡ (if b then option_map f (table_at s q) else changed_at s from (λ t. without_row t row) q)
          by true e = ap (option_map f) (ap (table_at s1) (same_key q to e) ∙ at_to1 ∙ sym (ap (table_at s) (same_key q to e) ∙ at_to))
          by false e = tables1 q

      pub moved_shapes : (q : TableKey) → shape_at (store_of back last) q ≡ shape_at s q
      moved_shapes q = shapes mid back last s1 refl to tgt at_to1 z z1 is_z1 u3 f made (ap (λ v. v.serial) lent_z) (shape_of_moved tgt src row sound_tgt) q ∙ shapes1 q

      pub vacant_there : row_at s (record { table = to; row = length tgt.entities }) ≡ None
      vacant_there = row_here s to tgt at_to (length tgt.entities) ∙ row_past tgt (length tgt.entities) (omega arith)

      -- one row came
      came_row : (v : Row) → row_of src row ≡ Some v → (p : Place) → row_at (store_of back last) p ≡ with_row_at (row_at s1) (record { table = to; row = length tgt.entities }) (v.0, carried (shape_of tgt) v.1) p
      unfolding row_at
      came_row v is p = row_changed mid back last s1 refl to tgt at_to1 z z1 is_z1 u3 f made (ap (λ v. v.serial) lent_z) p ∙ by (table_eq p.table to) refl
        where
          by : (b : Bool) → table_eq p.table to ≡ b → (if b then row_of (f tgt) p.row else row_at s1 p) ≡ cond (b && p.row == length tgt.entities) (Some (v.0, carried (shape_of tgt) v.1)) (row_at s1 p)
          by true e = row_of_moved tgt src row p.row there sound_src sound_tgt sizes_alike
              ∙ (λ i. cond (p.row == length tgt.entities) (option_map {U = Row} (λ w. (w.0, carried (shape_of tgt) w.1)) (is i)) (sym (ap (option_and_then (λ w. row_of w p.row)) (ap (table_at s1) (same_key p.table to e) ∙ at_to1)) i))
          by false e = refl

      pub moved_row : (v : Row) (g : Shape) → row_at s (record { table = from; row = row }) ≡ Some v → shape_at s to ≡ Some g
          → (p : Place) → row_at (store_of back last) p ≡ moved_rows s (record { table = from; row = row }) v (record { table = to; row = length tgt.entities }) g p
      moved_row v g is shape p =
          let here : Place = record { table = from; row = row } in let q : Place = record { table = to; row = length tgt.entities } in
          let own : row_of src row ≡ Some v = sym (row_here s from src at_from row) ∙ is in
          let same_shape : shape_of tgt ≡ g = one_some (shape_of tgt) g (sym (shape_here s to tgt at_to) ∙ shape) in
          let other : to ≢ from = λ e. apart (sym e) in
          came_row v own p
          ∙ ap (cond (same_place p q) (Some (v.0, carried (shape_of tgt) v.1))) (rows1 p)
          ∙ places_apart (row_at s) here (last_place s from) q (filler s here) (v.0, carried (shape_of tgt) v.1) p (other_table p q here other) (other_table p q (last_place s from) other)
          ∙ ap (λ h. moved_rows s here v q h p) same_shape
