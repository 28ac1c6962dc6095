-- What the judgement of a column answers, and what its table says of the world.
use Rattle.std.proofs.Common.{◌≡◌, ℕ, ◌+◌, ◌-◌, ◌*◌, ◌^◌, ◌≤◌, ◌<◌, ◌==◌, Bool, true, false, cond, not, ◌&&◌, ◌||◌, List, [], ◌∷◌, length, take, drop, Option, Some, None, option_map, unwrap_or, is_some, is_none, refl, sym, ap, subst, ◌∙◌, arith, true≢false}
use Rattle.std.proofs.lemmas.Bool.Decides.{nat_tests, Decides-eqb}
use Rattle.std.specs.Prelude.{nat_lt, slice_get, option_and_then}
use Rattle.std.specs.FinMap.Entries.{find}
use Rattle.std.specs.List.{list_all, list_any}
use Rattle.std.specs.Option.{option_map_or}
use Rattle.std.specs.Ordering.{nat_cmp, eq_by_cmp}
use Rattle.ecs_id.specs.declared.EntityId.{EntityId}
use Rattle.ecs_id.specs.declared.Place.{Place}
use Rattle.ecs_id.specs.declared.TableKey.{TableKey}
use Rattle.ecs_id.specs.Id.{Id, id_cmp, id_eq, id_eq_same, id_eq_turned, mentioned}
use Rattle.ecs_model.specs.Bytes.{size_of}
use Rattle.ecs_model.specs.Links.{is_held}
use Rattle.ecs_model.specs.Map.{Map, has_key, value_at, with_value}
use Rattle.ecs_model.specs.Schema.{Schema}
use Rattle.ecs_model.specs.World.{WorldState, holds, ids_of, is_alive, type_of_id}
use Rattle.ecs_model.proofs.Maps.{both_true}
use Rattle.ecs_model.proofs.Reasons.{denied}
use Rattle.ecs_archetypes.specs.Archetypes.{known_in}
use Rattle.ecs_archetypes.specs.Holdings.{AreHoldings, HoldAlike, Holdings, KeepsSizes, held_at, holds_id, lives, with_cells}
use Rattle.ecs_archetypes.specs.Holdings.{with_each_written}
use Rattle.ecs_archetypes.specs.Housing.{Housing, holdings_of}
use Rattle.ecs_archetypes.specs.Scans.{HaveRows}
use Rattle.ecs_archetypes.proofs.KnownIds.{of_shape}
use Rattle.ecs_archetypes.proofs.Soundness.{placed_alive}
use Rattle.ecs_table.specs.Archetype.{Archetype, byte_size}
use Rattle.ecs_table.proofs.Rows.{found_in_row, found_in_shape}
use Rattle.name_index.specs.Names.{Names}
use Rattle.table_store.specs.Rows.{AreValues, Row, cells_of, row_at, rows_in}
use Rattle.table_store.specs.Store.{find_in, shape_at, shape_of, table_at}
use Rattle.table_store.proofs.Changes.{row_here, rows_here, shape_here}
use Rattle.rel_traits.specs.PinCounts.{Counts}
use Rattle.ecs_world.specs.Columns.{AreSet, IsColumnSet, column_fault, column_faults, first_fault, may_bring}
use Rattle.ecs_world.specs.Standing.{Standing}
use Rattle.ecs_world.specs.State.{IsWorld, Parts, byte_count, is_known_rightly, parts_of, state_of, type_of}
use Rattle.ecs_world.specs.declared.columns.ColumnFault.{ColumnFault}
use Rattle.ecs_world.specs.declared.columns.ColumnFault.TheVariants.{Gone, NotHeld, NoData, Brings, Size, Full}
use Rattle.ecs_world.proofs.AcceptedCommands.{failed}
use Rattle.ecs_world.proofs.SetValues.{Ready, each_set}
use Rattle.ecs_world.proofs.Ranges.{AreBytes}
use Rattle.ecs_world.proofs.States.{holds_is, type_is}

-- ---- one fault after another
pub tells : (b : Bool) (f : ColumnFault) (rest : List (Bool × ColumnFault)) → b ≡ true → first_fault ((b, f) ∷ rest) ≡ Some f
tells b f rest h = ap (λ b. first_fault ((b, f) ∷ rest)) h

pub goes_by : (b : Bool) (f : ColumnFault) (rest : List (Bool × ColumnFault)) → b ≡ false → first_fault ((b, f) ∷ rest) ≡ first_fault rest
goes_by b f rest h = ap (λ b. first_fault ((b, f) ∷ rest)) h

faultless : (b : Bool) (f : ColumnFault) (rest : List (Bool × ColumnFault)) → first_fault ((b, f) ∷ rest) ≡ None → (b ≡ false) × (first_fault rest ≡ None)
faultless true f rest h = absurd cc
faultless false f rest h = (refl, h)

module _ (w : Standing) (k : TableKey) (i : Id) (n : ℕ) where
  pub gone : table_at w.tables k ≡ None → column_fault w k i n ≡ Some Gone
  gone none = ap (λ o. option_map_or (λ t. first_fault (column_faults w.state t i n)) o (Some Gone)) none

  module _ (t : Archetype) (at : table_at w.tables k ≡ Some t) where
    stands : column_fault w k i n ≡ first_fault (column_faults w.state t i n)
    stands = ap (λ o. option_map_or (λ t. first_fault (column_faults w.state t i n)) o (Some Gone)) at

    abbrev few : List (Bool × ColumnFault)
    few = (nat_lt (2 ^ 64 - 1) ((w.state).accepted + length t.entities), Full) ∷ []

    abbrev sized : List (Bool × ColumnFault)
    sized = (not (n == length t.entities * byte_count (type_of_id w.state i)), Size) ∷ few

    abbrev quiet : List (Bool × ColumnFault)
    quiet = (may_bring (ids_of w.state) i, Brings) ∷ sized

    abbrev typed : List (Bool × ColumnFault)
    typed = (is_none (type_of_id w.state i), NoData) ∷ quiet

    pub tells_not_held : is_held t.ids i ≡ false → column_fault w k i n ≡ Some NotHeld
    tells_not_held h = stands ∙ tells (not (is_held t.ids i)) NotHeld typed (ap not h)

    module _ (held : is_held t.ids i ≡ true) where
      at_held : column_fault w k i n ≡ first_fault typed
      at_held = stands ∙ goes_by (not (is_held t.ids i)) NotHeld typed (ap not held)

      pub tells_no_data : type_of_id w.state i ≡ None → column_fault w k i n ≡ Some NoData
      tells_no_data h = at_held ∙ tells (is_none (type_of_id w.state i)) NoData quiet (ap is_none h)

      module _ (fs : Schema) (is : type_of_id w.state i ≡ Some fs) where
        at_typed : column_fault w k i n ≡ first_fault quiet
        at_typed = at_held ∙ goes_by (is_none (type_of_id w.state i)) NoData quiet (ap is_none is)

        pub tells_brings : may_bring (ids_of w.state) i ≡ true → column_fault w k i n ≡ Some Brings
        tells_brings h = at_typed ∙ tells (may_bring (ids_of w.state) i) Brings sized h

        module _ (alone : may_bring (ids_of w.state) i ≡ false) where
          at_quiet : column_fault w k i n ≡ first_fault sized
          at_quiet = at_typed ∙ goes_by (may_bring (ids_of w.state) i) Brings sized alone

          pub tells_size : (n == length t.entities * size_of fs) ≡ false → column_fault w k i n ≡ Some Size
          tells_size h = at_quiet ∙ tells (not (n == length t.entities * byte_count (type_of_id w.state i))) Size few (ap (λ o. not (n == length t.entities * byte_count o)) is ∙ ap not h)

          module _ (right : n ≡ length t.entities * size_of fs) where
            at_sized : column_fault w k i n ≡ first_fault few
            at_sized =
                at_quiet ∙ goes_by (not (n == length t.entities * byte_count (type_of_id w.state i))) Size few
                (ap (λ o. not (n == length t.entities * byte_count o)) is ∙ ap not ((Decides-eqb n (length t.entities * size_of fs)).1 right))

            pub tells_full : nat_lt (2 ^ 64 - 1) ((w.state).accepted + length t.entities) ≡ true → column_fault w k i n ≡ Some Full
            tells_full h = at_sized ∙ tells (nat_lt (2 ^ 64 - 1) ((w.state).accepted + length t.entities)) Full [] h

            pub tells_none : nat_lt (2 ^ 64 - 1) ((w.state).accepted + length t.entities) ≡ false → column_fault w k i n ≡ None
            tells_none h = at_sized ∙ goes_by (nat_lt (2 ^ 64 - 1) ((w.state).accepted + length t.entities)) Full [] h

-- what is known where no fault is answered
pub record IsFit (w : Standing) (k : TableKey) (i : Id) (n : ℕ) : Type 0 where
  pub table : Archetype
  pub fields : Schema
  pub at : table_at w.tables k ≡ Some table
  pub held : is_held table.ids i ≡ true
  pub typed : type_of_id w.state i ≡ Some fields
  pub quiet : may_bring (ids_of w.state) i ≡ false
  pub long : n ≡ length table.entities * size_of fields
  pub room : nat_lt (2 ^ 64 - 1) ((w.state).accepted + length table.entities) ≡ false

some_fields : (o : Option Schema) → is_none o ≡ false → (fs : Schema) × (o ≡ Some fs)
some_fields None h = absurd (true≢false h)
some_fields (Some fs) h = (fs, refl)

pub fit : (w : Standing) (k : TableKey) (i : Id) (n : ℕ) → column_fault w k i n ≡ None → IsFit w k i n
fit w k i n none = by (table_at w.tables k) refl none
  where
    by : (o : Option Archetype) → table_at w.tables k ≡ o → option_map_or (λ t. first_fault (column_faults w.state t i n)) o (Some Gone) ≡ None → IsFit w k i n
    by None at h = absurd cc
    by (Some t) at h =
        let few = (nat_lt (2 ^ 64 - 1) ((w.state).accepted + length t.entities), Full) ∷ [] in
        let sized = (not (n == length t.entities * byte_count (type_of_id w.state i)), Size) ∷ few in
        let quiet = (may_bring (ids_of w.state) i, Brings) ∷ sized in
        let typed = (is_none (type_of_id w.state i), NoData) ∷ quiet in
        let a = faultless (not (is_held t.ids i)) NotHeld typed h in
        let b = faultless (is_none (type_of_id w.state i)) NoData quiet a.1 in
        let c = faultless (may_bring (ids_of w.state) i) Brings sized b.1 in
        let d = faultless (not (n == length t.entities * byte_count (type_of_id w.state i))) Size few c.1 in
        let e = faultless (nat_lt (2 ^ 64 - 1) ((w.state).accepted + length t.entities)) Full [] d.1 in
        let fs = some_fields (type_of_id w.state i) b.0 in
        record {
          table = t;
          fields = fs.0;
          at = at;
          held = denied (is_held t.ids i) a.0;
          typed = fs.1;
          quiet = c.0;
          long = (Decides-eqb n (length t.entities * byte_count (type_of_id w.state i))).0 (denied (n == length t.entities * byte_count (type_of_id w.state i)) d.0) ∙ ap (λ o. length t.entities * byte_count o) fs.1;
          room = e.0;
        }

-- ---- the table of a world
found_passes : (test : Id × ℕ → Bool) (f : List (Id × ℕ)) (i : Id) (n : ℕ) → list_all test f ≡ true → find id_cmp i f ≡ Some n → test (i, n) ≡ true
found_passes test [] i n h e = absurd cc
found_passes test (c ∷ f) i n h e = by (eq_by_cmp id_cmp i c.0) refl e (both_true (test c) (list_all test f) h).0 (found_passes test f i n (both_true (test c) (list_all test f) h).1)
  where
    by : (b : Bool) → eq_by_cmp id_cmp i c.0 ≡ b → cond b (Some c.1) (find id_cmp i f) ≡ Some n → test c ≡ true → (find id_cmp i f ≡ Some n → test (i, n) ≡ true) → test (i, n) ≡ true
    by true p q now rest = let same : i ≡ c.0 = id_eq_same i c.0 p in let size : c.1 ≡ n = cc in (λ k. test (same k, sym size k)) ∙ now
    by false p q now rest = rest q

turned : (i : Id) (ids : List Id) → list_any (id_eq i) ids ≡ is_held ids i
turned i [] = refl
turned i (j ∷ ids) = λ k. id_eq_turned i j k || turned i ids k

-- what is seen of the table of a world in which each row is of the entity that stands there
module _ {parts : Parts} (world : IsWorld parts) (g : Housing) (told : holdings_of g ≡ parts.holdings) (rows : HaveRows g) (k : TableKey) (t : Archetype) (at : table_at g.tables k ≡ Some t) (i : Id) (held : is_held t.ids i ≡ true) where
  listed : list_any (id_eq i) t.ids ≡ true
  listed = turned i t.ids ∙ held

  -- the values of the id have the size of its type there
  pub size_there : option_and_then (find_in i) (shape_at g.tables k) ≡ Some (byte_count (type_of_id (state_of parts) i))
  size_there =
      let shape : shape_at g.tables k ≡ Some (shape_of t) = shape_here g.tables k t at in
      let known : list_all (is_known_rightly parts.holdings parts.schemas) (known_in g.tables) ≡ true = subst (λ h. list_all (is_known_rightly parts.holdings parts.schemas) h.known ≡ true) (sym told) world.known in
      let found : find id_cmp i (shape_of t) ≡ Some (byte_size t i) = found_in_shape t i listed in
      let passes = found_passes (is_known_rightly parts.holdings parts.schemas) (shape_of t) i (byte_size t i) (of_shape g.tables (is_known_rightly parts.holdings parts.schemas) k (shape_of t) shape known) found in
      let size = (Decides-eqb (byte_size t i) (byte_count (type_of parts.holdings parts.schemas i))).0
      (both_true (byte_size t i == byte_count (type_of parts.holdings parts.schemas i)) (list_all (has_key nat_cmp (parts.holdings).live) (mentioned i)) passes).0 in
      ap (option_and_then (find_in i)) shape ∙ found ∙ ap Some (size ∙ ap byte_count (sym (type_is world i)))

  -- each entity of the table lives and holds the id
  pub each_holds : (q : ℕ) (e : EntityId) → slice_get t.entities q ≡ Some e → (is_alive (state_of parts) e ≡ true) × (holds (state_of parts) e.index i ≡ true)
  each_holds q e there =
      let p : Place = record { table = k; row = q } in
      let row : row_at g.tables p ≡ Some (e, cells_of t q) = row_here g.tables k t at q ∙ ap (option_map {U = Row} (λ x. (x, cells_of t q))) there in
      let own = rows p (e, cells_of t q) row in
      let alive : lives parts.holdings e ≡ true = ap (λ h. lives h e) (sym told) ∙ placed_alive g.entities e p own.place in
      let cells : holds_id parts.holdings e.index i ≡ true =
      ap (λ h. holds_id h e.index i) (sym told) ∙ ap (λ o. is_some (value_at id_cmp (unwrap_or o []) i)) own.cells ∙ ap is_some (found_in_row t q i listed) in
      (alive, holds_is world e.index i ∙ cells)

-- ---- all of it
each_known : (i : Id) (n : ℕ) (es : List EntityId) (bytes : List ℕ) (h : Holdings) → (with_each_written i n es bytes h).known ≡ h.known
each_known i n [] bytes h = refl
each_known i n (e ∷ es) bytes h = each_known i n es (drop n bytes) (with_cells h e.index (with_value id_cmp (held_at h e.index) i (take n bytes)))

module _ (g : Housing) (names : Names) (schemas : Map ℕ Schema) (pins : Counts) (accepted : ℕ) (world : IsWorld (parts_of (holdings_of g) names schemas pins accepted)) (rows : HaveRows g)
    (w : Standing) (view : record { state = state_of (parts_of (holdings_of g) names schemas pins accepted); tables = g.tables } ≡ w)
    (k : TableKey) (i : Id) (bytes : List ℕ) (none : column_fault w k i (length bytes) ≡ None) where
  abbrev parts : Parts
  parts = parts_of (holdings_of g) names schemas pins accepted

  f : IsFit w k i (length bytes)
  f = fit w k i (length bytes) none

  seen : state_of parts ≡ w.state
  seen = ap (λ (v : Standing). v.state) view

  at : table_at g.tables k ≡ Some f.table
  at = ap (λ (v : Standing). table_at v.tables k) view ∙ f.at

  in_rows : rows_in w.tables k ≡ length (f.table).entities
  in_rows = rows_here w.tables k f.table f.at

  size : option_and_then (find_in i) (shape_at g.tables k) ≡ Some (size_of f.fields)
  size = size_there world g refl rows k f.table at i f.held ∙ ap (λ (u : WorldState). Some (byte_count (type_of_id u i))) seen ∙ ap (λ o. Some (byte_count o)) f.typed

  pub are_values : 1 ≤ byte_count (type_of_id w.state i) → AreValues g.tables k i bytes
  are_values some = (
    size_of f.fields,
    size,
    subst (λ o. 1 ≤ byte_count o) f.typed some,
    f.long ∙ ap (λ r. r * size_of f.fields) (sym (rows_here g.tables k f.table at)),
  )

  counted_room : (w.state).accepted + length (f.table).entities < 2 ^ 64
  counted_room = let room : nat_lt (2 ^ 64 - 1) ((w.state).accepted + length (f.table).entities) ≡ false = f.room in grind (arith, nat_tests)

  pub fits : accepted + rows_in w.tables k < 2 ^ 64
  fits = let same : accepted ≡ (w.state).accepted = ap (λ (u : WorldState). u.accepted) seen in omega (arith, same, in_rows, counted_room)

  module _ (values : AreBytes bytes) where
    ready : Ready i f.fields w.state (f.table).entities bytes
    ready = record {
      typed = f.typed;
      quiet = f.quiet;
      each = λ q e there.
          let p = each_holds world g refl rows k f.table at i f.held q e there in
          (ap (λ (u : WorldState). is_alive u e) (sym seen) ∙ p.0, ap (λ (u : WorldState). holds u e.index i) (sym seen) ∙ p.1);
      room = counted_room;
      long = f.long;
      values = values;
    }

    -- the world once the values are written
    pub column_left : (g' : Housing) → AreHoldings (holdings_of g') → KeepsSizes (known_in g.tables) [] (known_in g'.tables)
        → ((t : Archetype) (n : ℕ) → table_at g.tables k ≡ Some t → option_and_then (find_in i) (shape_at g.tables k) ≡ Some n → HoldAlike (holdings_of g') (with_each_written i n t.entities bytes (holdings_of g)))
        → (total : ℕ) → total ≡ accepted + rows_in w.tables k
        → IsWorld (parts_of (holdings_of g') names schemas pins total) × IsColumnSet w k i bytes (state_of (parts_of (holdings_of g') names schemas pins total))
    column_left g' whole keeps alike total count =
        let n = size_of f.fields in let es = (f.table).entities in
        let done = each_set i f.fields es bytes parts world w.state seen ready total (count ∙ ap (λ r. accepted + r) in_rows) in
        let left = failed done.0 refl [] refl (holdings_of g') whole (alike f.table n at size)
        (λ test old new. keeps test (ap (list_all test) (sym (each_known i n es bytes (holdings_of g))) ∙ old) new) in
        (left.0, (f.table, f.fields, f.at, f.typed, subst (AreSet i f.fields es bytes w.state) (sym left.1) done.1))
