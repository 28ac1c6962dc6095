-- A move to a table that has room, and several of them.
use Rattle.std.proofs.Common.{◌≡◌, ℕ, ◌+◌, ◌<◌, ◌≤◌, Bool, true, false, cond, List, [], ◌∷◌, Option, Some, None, option_map, unwrap_or, is_some, refl, sym, ap, subst, ◌∙◌, arith, drop, get_or, length}
use Rattle.std.proofs.lemmas.List.{at_drop_more}
use Rattle.std.specs.List.{list_all}
use Rattle.std.specs.Cmp.{nat_cmp_total}
use Rattle.std.specs.Ordering.{nat_cmp, eq_by_cmp}
use Rattle.std.specs.FinMap.{nat_cmp-IsAntisymmetric}
use Rattle.std.specs.FinMap.Entries.{find, put, is_sorted, find-put, is_sorted-put, same_entries}
pub use Rattle.std.proofs.lemmas.Bool.{not-false as not_false}
use Rattle.ecs_id.specs.declared.EntityId.{EntityId}
use Rattle.ecs_id.specs.declared.Place.{Place}
use Rattle.ecs_id.specs.declared.TableKey.{TableKey}
use Rattle.ecs_table.specs.Archetype.{Archetype, without_row}
use Rattle.ecs_table.specs.Archetype as table
use Rattle.ecs_model.proofs.Maps.{both_true, to_T}
use Rattle.entity_index.specs.Entities.{Entities, place_of}
use Rattle.table_store.specs.Rows.{Cells, carried, row_at, shape_of_cells}
use Rattle.ecs_id.specs.TableKeys.{table_eq}
use Rattle.table_store.specs.Store.{Shape, Store, moved_at, room_at, shape_at, table_at}
use Rattle.ecs_archetypes.specs.declared.plans.EntityMove.{EntityMove}
use Rattle.ecs_archetypes.specs.Archetypes.{IsSound, meaning}
use Rattle.ecs_archetypes.specs.Holdings.{HoldAlike, Holdings, cells_at, held_at, is_settled, lives, with_cells}
use Rattle.ecs_archetypes.specs.Housing.{Housing, holdings_of}
use Rattle.ecs_archetypes.specs.Moves.{AreReady, shape_in, with_all_moved, with_moved}
use Rattle.ecs_archetypes.specs.Tables.{StandAlike, TakesRoom, one_in}
use Rattle.ecs_archetypes.proofs.ArchetypeCalls.{cells_view, row_here}
use Rattle.ecs_archetypes.proofs.CarriedCells.{carried_self}
use Rattle.ecs_archetypes.proofs.KnownIds.{room_stands}
use Rattle.ecs_archetypes.proofs.MapLists.{both, nat_same}
use Rattle.ecs_archetypes.proofs.Placings.{content, table_eq-tells}
use Rattle.ecs_archetypes.proofs.Soundness.{holdings, row_shape, row_sorted}

abbrev room_of : Option Archetype → ℕ
room_of o = unwrap_or (option_map (λ t. t.room) o) 0

-- the row that comes takes room, and the one that goes leaves some
pub moved_room : (s n : Store) (from to : TableKey) (row : ℕ) (t : Archetype) → ((q : TableKey) → table_at n q ≡ moved_at s from to t row q) → TakesRoom to s n
moved_room s n from to row t tables q = by (table_eq q to) (table_eq q from) (table_at s q) (table_at n q) (tables q)
  where
    by : (b d : Bool) (o m : Option Archetype) → m ≡ cond b (option_map (λ u. table.with_moved u t row) o) (cond d (option_map (λ u. without_row u row) o) o) → room_of o ≤ room_of m + cond b 1 0
    by true d None m e = omega arith
    by true d (Some u) m e = subst (λ z. u.room ≤ room_of z + 1) (sym e) (omega arith)
    by false true None m e = omega arith
    by false true (Some u) m e = subst (λ z. u.room ≤ room_of z + 0) (sym e) (omega arith)
    by false false o m e = subst (λ z. room_of o ≤ room_of z + 0) (sym e) (omega arith)

put_same : (i : ℕ) (v : Cells) (m : List (ℕ × Cells)) → is_sorted nat_cmp m ≡ true → find nat_cmp i m ≡ Some v → m ≡ put nat_cmp i v m
put_same i v m s at = same_entries nat_cmp nat_cmp_total nat_cmp-IsAntisymmetric m (put nat_cmp i v m) (to_T (is_sorted nat_cmp m) s) (is_sorted-put nat_cmp nat_cmp_total i v m (to_T (is_sorted nat_cmp m) s))
    (λ j. by j (eq_by_cmp nat_cmp j i) refl ∙ sym (find-put nat_cmp nat_cmp_total j i v m))
  where
    by : (j : ℕ) (b : Bool) → eq_by_cmp nat_cmp j i ≡ b → find nat_cmp j m ≡ cond b (Some v) (find nat_cmp j m)
    by j true e = ap (λ z. find nat_cmp z m) (nat_same j i e) ∙ at
    by j false e = refl

-- an entity that stands in the table already keeps what it holds
module _ (w : Entities) (s : Store) (sound : IsSound w s) (h : Holdings) (view : meaning w s ≡ h) (e : EntityId) (alive : lives h e ≡ true) (p : Place) (at : place_of w e ≡ Some p) where
  pub alike_staying : (f : Shape) → shape_at s p.table ≡ Some f → HoldAlike h (with_moved h e f)
  alike_staying f shape =
      let r = row_here w s sound h view e alive p at in
      let own : Some (shape_of_cells r.0) ≡ Some f = sym (row_shape w s sound p (e, r.0) r.1) ∙ shape in
      let same : shape_of_cells r.0 ≡ f = cc in
      let all : carried f (held_at h e.index) ≡ r.0 = (λ k. carried (sym same k) (r.2 k)) ∙ carried_self r.0 (row_sorted w s sound p (e, r.0) r.1) in
      let there : cells_at h e.index ≡ Some r.0 = cells_view w s sound h view e alive ∙ ap (content (row_at s)) at ∙ ap (option_map (λ r. r.1)) r.1 in
      let in_order : is_sorted nat_cmp h.cells ≡ true = ap (λ z. is_sorted nat_cmp z.cells) (sym view) ∙ (holdings w s sound).cells in
      record { live = refl; deletions = refl; cells = put_same e.index (carried f (held_at h e.index)) h.cells in_order (there ∙ ap Some (sym all)) }

pub moved_alike : (s : Store) (ms : List EntityMove) (a b : Holdings) → HoldAlike a b → HoldAlike (with_all_moved s ms a) (with_all_moved s ms b)
moved_alike s [] a b x = x
moved_alike s (m ∷ ms) a b x = moved_alike s ms (with_moved a m.entity (shape_in s m.to)) (with_moved b m.entity (shape_in s m.to))
    (record { live = x.live; deletions = x.deletions; cells = ap (λ c. put nat_cmp m.entity.index (carried (shape_in s m.to) (unwrap_or (find nat_cmp m.entity.index c) [])) c) x.cells })

pub alike_then : (a b d : Holdings) → HoldAlike a b → HoldAlike b d → HoldAlike a d
alike_then a b d x y = record { live = x.live ∙ y.live; deletions = x.deletions ∙ y.deletions; cells = x.cells ∙ y.cells }

-- who was settled is settled after another's cells were written
pub still_settled : (h g : Holdings) (i : ℕ) (v : Cells) (e : EntityId) → HoldAlike g (with_cells h i v) → is_settled h e ≡ true → is_settled g e ≡ true
still_settled h g i v e x was =
    let parts = both_true (lives h e) (is_some (cells_at h e.index)) was in
    both (lives g e) (is_some (cells_at g e.index)) (ap (λ l. lives (record h { live = l }) e) x.live ∙ parts.0)
    (ap (λ c. is_some (find nat_cmp e.index c)) x.cells ∙ ap is_some (find-put nat_cmp nat_cmp_total e.index i v h.cells) ∙ by (eq_by_cmp nat_cmp e.index i) (find nat_cmp e.index h.cells) parts.1)
  where
    by : (b : Bool) (o : Option Cells) → is_some o ≡ true → is_some (cond b (Some v) o) ≡ true
    by true o t = refl
    by false o t = t

pub all_settled : (h g : Holdings) (i : ℕ) (v : Cells) → HoldAlike g (with_cells h i v) → (ms : List EntityMove) → list_all (λ m. is_settled h m.entity) ms ≡ true → list_all (λ m. is_settled g m.entity) ms ≡ true
all_settled h g i v x [] was = refl
all_settled h g i v x (m ∷ ms) was =
    let parts = both_true (is_settled h m.entity) (list_all (λ m. is_settled h m.entity) ms) was in
    both (is_settled g m.entity) (list_all (λ m. is_settled g m.entity) ms) (still_settled h g i v m.entity x parts.0) (all_settled h g i v x ms parts.1)

-- the moves so far are carried out, and these are left
pub record AreCarried (before : Housing) (moves : List EntityMove) (now : Housing) (rest : List EntityMove) : Type 0 where
  pub ready : AreReady now rest
  pub held : HoldAlike (with_all_moved before.tables rest (holdings_of now)) (with_all_moved before.tables moves (holdings_of before))
  pub alike : StandAlike before.tables now.tables

-- the table of the next move has room
pub next_room : (before now : Housing) (moves rest : List EntityMove) (m : EntityMove) → AreCarried before moves now (m ∷ rest) → 0 < room_at now.tables m.to
next_room before now moves rest m so_far = let le = so_far.ready.room m.to in let one = itself m.to in omega (arith, le, one)
  where
    itself : (k : TableKey) → one_in k k ≡ 1
    itself k = ap (λ b. cond b 1 0) ((table_eq-tells k k).1 refl)

pub next_settled : (before now : Housing) (moves rest : List EntityMove) (m : EntityMove) → AreCarried before moves now (m ∷ rest) → is_settled (holdings_of now) m.entity ≡ true
next_settled before now moves rest m so_far = (both_true (is_settled (holdings_of now) m.entity) (list_all (λ m. is_settled (holdings_of now) m.entity) rest) so_far.ready.settled).0

pub carried_more : (before now next : Housing) (moves rest : List EntityMove) (m : EntityMove) → AreCarried before moves now (m ∷ rest)
    → ((f : Shape) → shape_at now.tables m.to ≡ Some f → HoldAlike (holdings_of next) (with_moved (holdings_of now) m.entity f)) → StandAlike now.tables next.tables → TakesRoom m.to now.tables next.tables
    → AreCarried before moves next rest
carried_more before now next moves rest m so_far held alike room =
    let f = room_stands now.tables m.to (next_room before now moves rest m so_far) in
    let is : shape_in before.tables m.to ≡ f.0 = ap (λ o. unwrap_or o []) (sym (so_far.alike.shapes m.to) ∙ f.1) in
    let here = held f.0 f.1 in
    let settled = both_true (is_settled (holdings_of now) m.entity) (list_all (λ m. is_settled (holdings_of now) m.entity) rest) so_far.ready.settled in
    record {
      ready = record {
        settled = all_settled (holdings_of now) (holdings_of next) m.entity.index (carried f.0 (held_at (holdings_of now) m.entity.index)) here rest settled.1;
        room = λ q. let a = so_far.ready.room q in let b = room q in omega (arith, a, b);
      };
      held = alike_then _ _ _ (moved_alike before.tables rest (holdings_of next) (with_moved (holdings_of now) m.entity (shape_in before.tables m.to)) (subst (λ g. HoldAlike (holdings_of next) (with_moved (holdings_of now) m.entity g)) (sym is) here)) so_far.held;
      alike = record { shapes = λ k. alike.shapes k ∙ so_far.alike.shapes k; last = alike.last ∙ so_far.alike.last };
    }

-- tables have given memory back, and nothing else has changed
pub record AreShrunk (before now : Housing) : Type 0 where
  pub held : HoldAlike (holdings_of now) (holdings_of before)
  pub alike : StandAlike before.tables now.tables

pub shrunk_more : (before now next : Housing) → AreShrunk before now → HoldAlike (holdings_of next) (holdings_of now) → StandAlike now.tables next.tables → AreShrunk before next
shrunk_more before now next so_far held alike = record {
  held = alike_then _ _ _ held so_far.held;
  alike = record { shapes = λ k. alike.shapes k ∙ so_far.alike.shapes k; last = alike.last ∙ so_far.alike.last };
}

-- one more move, where the moves that are left are the last of the list
pub carried_on : (before now next : Housing) (moves : List EntityMove) (i : ℕ) (d m : EntityMove) → m ≡ get_or moves i d → i < length moves → AreCarried before moves now (drop i moves)
    → ((f : Shape) → shape_at now.tables m.to ≡ Some f → HoldAlike (holdings_of next) (with_moved (holdings_of now) m.entity f)) → StandAlike now.tables next.tables → TakesRoom m.to now.tables next.tables
    → AreCarried before moves next (drop (i + 1) moves)
carried_on before now next moves i d m is within so_far held alike room =
    let left : drop i moves ≡ m ∷ drop (i + 1) moves = at_drop_more (λ z. z) moves i d within ∙ ap (λ z. z ∷ drop (i + 1) moves) (sym is) in
    carried_more before now next moves (drop (i + 1) moves) m (subst (AreCarried before moves now) left so_far) held alike room
