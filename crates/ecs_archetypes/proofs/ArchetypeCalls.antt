-- What each call asks of the index and the store, and what it says of the holdings.
use Rattle.std.proofs.Common.{◌≡◌, ◌≢◌, ℕ, Bool, true, false, cond, not, ◌&&◌, ◌==◌, [], length, List, replicate, Option, Some, None, option_map, unwrap_or, is_some, refl, sym, ap, subst, ◌∙◌, true≢false}
use Rattle.std.specs.List.{filter}
use Rattle.std.specs.Option.{IsSome, option_eq}
use Rattle.std.specs.Ordering.{nat_cmp, eq_by_cmp}
use Rattle.std.specs.Cmp.{nat_cmp_total}
use Rattle.std.specs.FinMap.Entries.{find, put, is_sorted, find-put}
use Rattle.std.proofs.lemmas.Bool.Decides.{Decides-eqb}
use Rattle.ecs_id.specs.declared.EntityId.{EntityId}
use Rattle.ecs_id.specs.declared.Place.{Place}
use Rattle.ecs_id.specs.declared.TableKey.{TableKey}
use Rattle.ecs_id.specs.Id.{Id, id_cmp, id_cmp_total, id_eq}
use Rattle.ecs_model.specs.Map.{Map}
use Rattle.ecs_model.proofs.Differences.{last_value}
use Rattle.ecs_model.proofs.Maps.{both_true, eq_itself, of_some, some_of}
use Rattle.entity_index.specs.Entities.{Entities, IsWellFormed, IsNext, is_alive, is_live, place_of}
use Rattle.entity_index.specs.Entities as index
use Rattle.ecs_archetypes.specs.Archetypes.{IsSound, meaning}
use Rattle.ecs_archetypes.specs.Holdings.{HoldAlike, Holdings, agrees, cells_at, held_at, holds_id, is_settled, lives, with_cells, with_entity}
use Rattle.table_store.specs.Rows.{Cells, IsStored, carried, row_at, shape_of_cells}
use Rattle.table_store.specs.Store.{Store, Shape, find_in, shape_at, with_id, without_id}
use Rattle.ecs_archetypes.proofs.CarriedCells.{carried_with, carried_without, find_shape, narrower_other, wider_other}
use Rattle.ecs_archetypes.proofs.KnownIds.{has_size}
use Rattle.ecs_archetypes.proofs.MapLists.{both, eq_tells, nat_same}
use Rattle.ecs_archetypes.proofs.Placings.{content}
use Rattle.ecs_archetypes.proofs.Soundness.{alike_same, cells_alive, dead_nowhere, found_alive, own_row, placed_alive, row_shape, row_sorted}

-- what is said of holdings that are alike
pub alike_with : (a m n h : Holdings) (i : ℕ) (v : Cells) → HoldAlike a (with_cells m i v) → HoldAlike m n → n ≡ h → HoldAlike a (with_cells h i v)
alike_with a m n h i v x y e = record {
  live = x.live ∙ y.live ∙ ap (λ z. z.live) e;
  deletions = x.deletions ∙ y.deletions ∙ ap (λ z. z.deletions) e;
  cells = x.cells ∙ ap (put nat_cmp i v) (y.cells ∙ ap (λ z. z.cells) e);
}

pub no_value : {A B : Type 0} (f : A → B) (o : Option A) → option_map f o ≡ None → o ≡ None
no_value f None h = refl
no_value f (Some x) h = cc

some_value : {A B : Type 0} (f : A → B) (o : Option A) → IsSome (option_map f o) → IsSome o
some_value f None h = h
some_value f (Some x) h = refl

module _ (w : Entities) (s : Store) (sound : IsSound w s) (h : Holdings) (view : meaning w s ≡ h) (e : EntityId) (alive : lives h e ≡ true) where
  pub alive_there : is_alive w e ≡ true
  alive_there = ap (λ z. lives z e) view ∙ alive

  pub cells_view : cells_at h e.index ≡ content (row_at s) (place_of w e)
  cells_view = ap (λ z. cells_at z e.index) (sym view) ∙ cells_alive w s sound e alive_there

  -- what is not settled has no place, and what is settled has one
  pub unsettled_nowhere : cells_at h e.index ≡ None → place_of w e ≡ None
  unsettled_nowhere none = by (place_of w e) refl (sym cells_view ∙ none)
    where
      by : (o : Option Place) → place_of w e ≡ o → content (row_at s) o ≡ None → o ≡ None
      by None a k = refl
      by (Some p) a k = let r = own_row w s sound e p a in let no : None ≡ Some r.0 = sym k ∙ ap (option_map (λ r. r.1)) r.1 in cc

  pub settled_there : IsSome (cells_at h e.index) → IsSome (place_of w e)
  settled_there some = by (place_of w e) (subst IsSome cells_view some)
    where
      by : (o : Option Place) → IsSome (content (row_at s) o) → IsSome o
      by None k = k
      by (Some p) k = refl

  module _ (p : Place) (at : place_of w e ≡ Some p) where
    pub row_here : (cs : Cells) × (row_at s p ≡ Some (e, cs)) × (held_at h e.index ≡ cs)
    row_here = let r = own_row w s sound e p at in
        (r.0, r.1, ap (λ o. unwrap_or o []) (cells_view ∙ ap (content (row_at s)) at ∙ ap (option_map (λ r. r.1)) r.1))

put_here : {X : Type 0} (i : ℕ) (v : X) (m : Map ℕ X) → find nat_cmp i (put nat_cmp i v m) ≡ Some v
put_here i v m = find-put nat_cmp nat_cmp_total i i v m ∙ ap (λ b. cond b (Some v) (find nat_cmp i m)) (eq_itself nat_cmp nat_cmp_total i)

id_here : {X : Type 0} (i : Id) (v : X) (m : Map Id X) → find id_cmp i (put id_cmp i v m) ≡ Some v
id_here i v m = find-put id_cmp id_cmp_total i i v m ∙ ap (λ b. cond b (Some v) (find id_cmp i m)) (eq_itself id_cmp id_cmp_total i)

-- an id that came, and its value once it is written
module _ (m h : Holdings) (e : ℕ) (i : Id) (z : List ℕ) (came : HoldAlike m (with_cells h e (put id_cmp i z (held_at h e)))) where
  held_now : held_at m e ≡ put id_cmp i z (held_at h e)
  held_now = ap (λ c. unwrap_or (find nat_cmp e c) []) came.cells ∙ ap (λ o. unwrap_or o []) (put_here e (put id_cmp i z (held_at h e)) h.cells)

  pub held_after : holds_id m e i ≡ true
  held_after = ap (λ c. is_some (find id_cmp i c)) held_now ∙ ap is_some (id_here i z (held_at h e))

  pub put_after : (a : Holdings) (bytes : List ℕ) → HoldAlike a (with_cells m e (put id_cmp i bytes (held_at m e))) → HoldAlike a (with_cells h e (put id_cmp i bytes (held_at h e)))
  put_after a bytes written = record {
    live = written.live ∙ came.live;
    deletions = written.deletions ∙ came.deletions;
    cells = written.cells ∙ (λ k. put nat_cmp e (put id_cmp i bytes (held_now k)) (came.cells k))
        ∙ last_value nat_cmp nat_cmp_total h.cells e (put id_cmp i z (held_at h e)) (put id_cmp i bytes (put id_cmp i z (held_at h e)))
        ∙ ap (λ c. put nat_cmp e c h.cells) (last_value id_cmp id_cmp_total (held_at h e) i z bytes);
  }

-- who has a place is alive, and settled
module _ (w : Entities) (s : Store) (sound : IsSound w s) (h : Holdings) (view : meaning w s ≡ h) (e : EntityId) where
  pub found_lives : (p : Place) → place_of w e ≡ Some p → lives h e ≡ true
  found_lives p at = ap (λ z. lives z e) (sym view) ∙ placed_alive w e p at

  pub found_settled : (p : Place) → place_of w e ≡ Some p → is_settled h e ≡ true
  found_settled p at =
      let r = own_row w s sound e p at in
      both (lives h e) (is_some (cells_at h e.index)) (found_lives p at)
      (ap is_some (cells_view w s sound h view e (found_lives p at) ∙ ap (content (row_at s)) at ∙ ap (option_map (λ r. r.1)) r.1))

  pub missing_unsettled : place_of w e ≡ None → is_settled h e ≡ false
  missing_unsettled none = by (lives h e) refl
    where
      by : (b : Bool) → lives h e ≡ b → (b && is_some (cells_at h e.index)) ≡ false
      by true a = ap is_some (cells_view w s sound h view e a ∙ ap (content (row_at s)) none)
      by false a = refl

held_settled : (h : Holdings) (e : ℕ) (i : Id) → holds_id h e i ≡ true → IsSome (cells_at h e)
held_settled h e i k = by (cells_at h e) k
  where
    by : (o : Option Cells) → is_some (find id_cmp i (unwrap_or o [])) ≡ true → IsSome o
    by None j = j
    by (Some c) j = refl

pub held_there : (w : Entities) (s : Store) (sound : IsSound w s) (h : Holdings) (view : meaning w s ≡ h) (e : EntityId) → lives h e ≡ true → (i : Id) → holds_id h e.index i ≡ true → IsSome (place_of w e)
held_there w s sound h view e alive i k = settled_there w s sound h view e alive (held_settled h e.index i k)

pub none_where : {A : Type 0} (o : Option A) → is_some o ≡ false → o ≡ None
none_where None h = refl
none_where (Some x) h = absurd (true≢false h)

-- an entity is made
module _ (w w' : Entities) (s : Store) (sound : IsSound w s) (e : EntityId) (next : IsNext w e) (born : w' ≡ index.with_entity w e) (wf : IsWellFormed w') where
  pub dead_before : find nat_cmp e.index w.live ≡ None
  dead_before = none (find nat_cmp e.index w.live) (both_true (not (is_live w e.index)) _ next.free).0
    where
      none : (o : Option ℕ) → not (is_some o) ≡ true → o ≡ None
      none None h = refl
      none (Some x) h = absurd (true≢false (sym h))

  live_after : (i : ℕ) → find nat_cmp i w'.live ≡ cond (eq_by_cmp nat_cmp i e.index) (Some e.generation) (find nat_cmp i w.live)
  live_after i = ap (λ u. find nat_cmp i u.live) born ∙ find-put nat_cmp nat_cmp_total i e.index e.generation w.live

  pub born_alive : is_alive w' e ≡ true
  born_alive = found_alive w' e (live_after e.index ∙ ap (λ b. cond b (Some e.generation) (find nat_cmp e.index w.live)) (eq_tells e.index e.index ∙ (Decides-eqb e.index e.index).1 refl))

  either_none : (b : Bool) (o : Option Place) → o ≡ None → cond b o None ≡ None
  either_none true o k = k
  either_none false o k = refl

  place_born : (y : EntityId) → place_of w' y ≡ place_of w y
  place_born y = ap (λ u. cond (is_alive w' y) (find nat_cmp y.index u.places) None) born ∙ by (eq_by_cmp nat_cmp y.index e.index) refl
    where
      by : (b : Bool) → eq_by_cmp nat_cmp y.index e.index ≡ b → cond (is_alive w' y) (find nat_cmp y.index w.places) None ≡ place_of w y
      by true k =
          let none : find nat_cmp y.index w.places ≡ None = dead_nowhere w sound.well_formed y.index (ap (λ i. find nat_cmp i w.live) (nat_same y.index e.index k) ∙ dead_before) in
          either_none (is_alive w' y) (find nat_cmp y.index w.places) none ∙ sym (either_none (is_alive w y) (find nat_cmp y.index w.places) none)
      by false k = ap (λ o. cond (option_eq ◌==◌ o (Some y.generation)) (find nat_cmp y.index w.places) None) (live_after y.index ∙ ap (λ b. cond b (Some e.generation) (find nat_cmp y.index w.live)) k)

  pub sound_born : IsSound w' s
  sound_born = record {
    well_formed = wf;
    stored = sound.stored;
    last = ap (λ u. u.last) born ∙ sound.last;
    placed = λ x p. (λ k. (sound.placed x p).0 (sym (place_born x) ∙ k), λ k. place_born x ∙ (sound.placed x p).1 k);
  }

-- a new entity in tables that hold the same
pub alike_born : (w w' : Entities) (s s' : Store) (sound : IsSound w s) (rows : (p : Place) → row_at s' p ≡ row_at s p) (stored : IsStored s') (h : Holdings) (view : meaning w s ≡ h) (e : EntityId) (born : w' ≡ index.with_entity w e)
    (a : Holdings) (v : Cells) → HoldAlike a (with_cells (meaning w' s') e.index v) → HoldAlike a (with_cells (with_entity h e) e.index v)
alike_born w w' s s' sound rows stored h view e born a v x =
    let y = alike_same w s s' sound rows stored in
    record {
      live = x.live ∙ ap (λ u. u.live) born ∙ ap (λ z. put nat_cmp e.index e.generation z.live) view;
      deletions = x.deletions ∙ ap (λ u. u.deletions) born ∙ ap (λ z. z.deletions) view;
      cells = x.cells ∙ ap (put nat_cmp e.index v) (ap (λ u. (meaning u s').cells) born ∙ y.cells ∙ ap (λ z. z.cells) view);
    }

pub born_over : (a m h : Holdings) (e : EntityId) (v : Cells) → HoldAlike a (with_cells (with_entity m e) e.index v) → HoldAlike m h → HoldAlike a (with_cells (with_entity h e) e.index v)
born_over a m h e v x y = record {
  live = x.live ∙ ap (put nat_cmp e.index e.generation) y.live;
  deletions = x.deletions ∙ y.deletions;
  cells = x.cells ∙ ap (put nat_cmp e.index v) y.cells;
}

-- the tables before and after one was found or made, where an entity's row stands as it stood
module _ (w : Entities) (s mid : Store) (sound : IsSound w s) (rows : (p : Place) → row_at mid p ≡ row_at s p) (stored : IsStored mid) (h : Holdings) (view : meaning w s ≡ h)
    (e : EntityId) (alive : lives h e ≡ true) (p : Place) (at : place_of w e ≡ Some p) where
  cs : Cells
  cs = (row_here w s sound h view e alive p at).0

  own : row_at s p ≡ Some (e, cs)
  unfolding cs
  own = (row_here w s sound h view e alive p at).1

  held : held_at h e.index ≡ cs
  unfolding cs
  held = (row_here w s sound h view e alive p at).2

  shape_now : shape_at mid p.table ≡ Some (shape_of_cells cs)
  shape_now = of_some (λ v. shape_at mid p.table ≡ Some (shape_of_cells v.1)) (row_at mid p) (stored.1 p) (e, cs) (rows p ∙ own)

  pub shape_then : (f : Shape) × (shape_at s p.table ≡ Some f) × (f ≡ shape_of_cells (held_at h e.index))
  shape_then = (shape_of_cells cs, row_shape w s sound p (e, cs) own, ap shape_of_cells (sym held))

  in_order : is_sorted id_cmp (held_at h e.index) ≡ true
  in_order = ap (is_sorted id_cmp) held ∙ row_sorted w s sound p (e, cs) own

  same_shape : (to : TableKey) (g : Shape) → shape_at mid to ≡ Some g → p.table ≡ to → shape_of_cells (held_at h e.index) ≡ g
  same_shape to g there same = let k : Some (shape_of_cells cs) ≡ Some g = sym shape_now ∙ ap (shape_at mid) same ∙ there in let is : shape_of_cells cs ≡ g = cc in ap shape_of_cells held ∙ is

  mid_alike : HoldAlike (meaning w mid) (meaning w s)
  mid_alike = alike_same w s mid sound rows stored

  mid_held : held_at (meaning w mid) e.index ≡ held_at h e.index
  mid_held = ap (λ c. unwrap_or (find nat_cmp e.index c) []) (mid_alike.cells ∙ ap (λ z. z.cells) view)

  module _ (i : Id) (to : TableKey) where
    pub apart_wider : (n : ℕ) → holds_id h e.index i ≡ false → ((f : Shape) → shape_at s p.table ≡ Some f → shape_at mid to ≡ Some (with_id f i n)) → p.table ≢ to
    apart_wider n not_held shapes same = let f = shape_then in wider_other (held_at h e.index) i n (none_where (find id_cmp i (held_at h e.index)) not_held)
        (same_shape to (with_id f.0 i n) (shapes f.0 f.1) same ∙ ap (λ z. with_id z i n) f.2)

    pub apart_narrower : holds_id h e.index i ≡ true → ((f : Shape) → shape_at s p.table ≡ Some f → shape_at mid to ≡ Some (without_id f i)) → p.table ≢ to
    apart_narrower is_held shapes same = let f = shape_then in let b = some_of (find id_cmp i (held_at h e.index)) is_held in narrower_other (held_at h e.index) i b.0 b.1
        (same_shape to (without_id f.0 i) (shapes f.0 f.1) same ∙ ap (λ z. without_id z i) f.2)

    pub alike_wider : (n : ℕ) (a : Holdings) → holds_id h e.index i ≡ false → ((f : Shape) → shape_at s p.table ≡ Some f → shape_at mid to ≡ Some (with_id f i n))
        → ((f : Shape) → shape_at mid to ≡ Some f → HoldAlike a (with_cells (meaning w mid) e.index (carried f (held_at (meaning w mid) e.index))))
        → HoldAlike a (with_cells h e.index (put id_cmp i (replicate n 0) (held_at h e.index)))
    alike_wider n a not_held shapes alike = let f = shape_then in
        subst (λ c. HoldAlike a (with_cells h e.index c))
        ((λ k. carried (with_id (f.2 k) i n) (mid_held k)) ∙ carried_with (held_at h e.index) i n in_order (none_where (find id_cmp i (held_at h e.index)) not_held))
        (alike_with a (meaning w mid) (meaning w s) h e.index _ (alike (with_id f.0 i n) (shapes f.0 f.1)) mid_alike view)

    pub alike_narrower : (a : Holdings) → ((f : Shape) → shape_at s p.table ≡ Some f → shape_at mid to ≡ Some (without_id f i))
        → ((f : Shape) → shape_at mid to ≡ Some f → HoldAlike a (with_cells (meaning w mid) e.index (carried f (held_at (meaning w mid) e.index))))
        → HoldAlike a (with_cells h e.index (filter (λ c. not (id_eq c.0 i)) (held_at h e.index)))
    alike_narrower a shapes alike = let f = shape_then in
        subst (λ c. HoldAlike a (with_cells h e.index c))
        ((λ k. carried (without_id (f.2 k) i) (mid_held k)) ∙ carried_without (held_at h e.index) i in_order)
        (alike_with a (meaning w mid) (meaning w s) h e.index _ (alike (without_id f.0 i) (shapes f.0 f.1)) mid_alike view)

-- the size of a value that is held
pub held_size : (w : Entities) (s : Store) (sound : IsSound w s) (h : Holdings) (view : meaning w s ≡ h) (e : EntityId) (alive : lives h e ≡ true) (p : Place) (at : place_of w e ≡ Some p) (i : Id) (n : ℕ)
    → holds_id h e.index i ≡ true → agrees h.known i n ≡ true → (f : Shape) → shape_at s p.table ≡ Some f → find_in i f ≡ Some n
held_size w s sound h view e alive p at i n is_held agree f there =
    let r = row_here w s sound h view e alive p at in
    let b = some_of (find id_cmp i r.0) (ap (λ c. is_some (find id_cmp i c)) (sym r.2) ∙ is_held) in
    let same : shape_of_cells r.0 ≡ f = let k : Some (shape_of_cells r.0) ≡ Some f = sym (row_shape w s sound p (e, r.0) r.1) ∙ there in cc in
    let size : find_in i f ≡ Some (length b.0) = ap (find_in i) (sym same) ∙ find_shape r.0 i ∙ ap (option_map (λ c. length c)) b.1 in
    let is : length b.0 ≡ n = of_some (λ m. m ≡ n) (find_in i f) (has_size s i n (ap (λ z. agrees z.known i n) view ∙ agree) p.table f there) (length b.0) size in
    size ∙ ap Some is
