-- Tables that come, grow and go, with their entries in the component index.
use Rattle.std.proofs.Common.{◌≡◌, ◌≢◌, ◌↔◌, ℕ, ◌<◌, ◌≤◌, Bool, true, false, cond, List, [], ◌∷◌, map, length, Option, Some, None, option_map, unwrap_or, Result, Ok, Err, OnErr, OnOk, refl, sym, ap, subst, ◌∙◌, ◌⊎◌, inl, inr, arith}
use Rattle.std.specs.Prelude.{max}
use Rattle.std.proofs.lemmas.Grind.{common_steps}
use Rattle.std.specs.Option.{IsNone, IsSome}
use Rattle.std.specs.FinMap as finite
use Rattle.std.specs.FinMap.{get-empty, get-remove}
use Rattle.std.specs.List.{find, list_all}
use Rattle.component_index.specs.Entered.{Entered, get-entered, get-entered_other, eq_by-table_cmp, table_cmp, table_cmp_total}
use Rattle.ecs_id.specs.declared.Place.{Place}
use Rattle.ecs_id.specs.declared.TableKey.{TableKey}
use Rattle.ecs_id.specs.Id.{Id}
use Rattle.ecs_table.specs.Archetype.{Archetype, byte_size}
use Rattle.ecs_model.proofs.Maps.{some_of}
use Rattle.table_store.specs.Kept.{IsMade}
use Rattle.table_store.specs.Rows.{IsStored, row_at, rows_in}
use Rattle.ecs_id.specs.TableKeys.{table_eq}
use Rattle.table_store.specs.Store.{Shape, Store, changed_at, ids_at, made_at, released_at, room_at, shape_at, shape_of, shaped, table_at}
use Rattle.ecs_archetypes.specs.Archetypes.{known_in}
use Rattle.ecs_archetypes.specs.Holdings.{KeepsSizes}
use Rattle.ecs_archetypes.specs.Housing.{AreEntered, HaveGrown}
use Rattle.table_store.specs.Going.{TablesGoOn, goes_on_same, goes_on_then}
use Rattle.ecs_archetypes.specs.Tables.{HasGrown, StandAlike}
use Rattle.ecs_archetypes.proofs.Placings.{table_eq-tells}
use Rattle.ecs_archetypes.proofs.KnownIds.{KeepsSizes-then, released_kept, same_kept}

-- the ids of a table are those of its shape
firsts : (g : Id → ℕ) (ids : List Id) → map {A = Id × ℕ} (λ c. c.0) (map (λ i. (i, g i)) ids) ≡ ids
firsts g [] = refl
firsts g (i ∷ ids) = λ k. i ∷ firsts g ids k

pub ids_of_shape : (s : Store) (k : TableKey) → ids_at s k ≡ option_map (λ f. map (λ c. c.0) f) (shape_at s k)
ids_of_shape s k = by (table_at s k)
  where
    by : (o : Option Archetype) → option_map (λ t. t.ids) o ≡ option_map (λ f. map (λ c. c.0) f) (option_map shape_of o)
    by None = refl
    by (Some t) = λ i. Some (sym (firsts (byte_size t) t.ids) i)

pub same_ids : (s n : Store) (k : TableKey) → shape_at n k ≡ shape_at s k → ids_at n k ≡ ids_at s k
same_ids s n k same = ids_of_shape n k ∙ ap (option_map (λ f. map (λ c. c.0) f)) same ∙ sym (ids_of_shape s k)

pub goes_on_alike : (s n : Store) → StandAlike s n → TablesGoOn s n
goes_on_alike s n a = record { stood = λ k ids given h. sym (same_ids s n k (a.shapes k)) ∙ h; last = let e = a.last in omega (arith, e) }

-- what stands the same in a larger store
pub grown_by : (s n : Store) → TablesGoOn s n → ((k : TableKey) (t : Archetype) → table_at s k ≡ Some t → (u : Archetype) × (table_at n k ≡ Some u) × (shape_of u ≡ shape_of t) × (t.room ≤ u.room))
    → ((p : Place) → row_at n p ≡ row_at s p) → HasGrown s n
grown_by s n goes_on stands rows = record { goes_on = goes_on; shapes = shapes; room = room; rows = rows }
  where
    shapes : (k : TableKey) (f : Shape) → shape_at s k ≡ Some f → shape_at n k ≡ Some f
    shapes k f h = by (table_at s k) refl h
      where
        by : (o : Option Archetype) → table_at s k ≡ o → option_map shape_of o ≡ Some f → shape_at n k ≡ Some f
        by None e h = cc
        by (Some t) e h = let u = stands k t e in ap (option_map shape_of) u.1 ∙ ap Some u.2 ∙ h

    room : (k : TableKey) → room_at s k ≤ room_at n k
    room k = by (table_at s k) refl
      where
        by : (o : Option Archetype) → table_at s k ≡ o → unwrap_or (option_map (λ t. t.room) o) 0 ≤ room_at n k
        by None e = omega arith
        by (Some t) e = let u = stands k t e in subst (λ o. t.room ≤ unwrap_or (option_map (λ t. t.room) o) 0) (sym u.1) u.3

pub grown_same : (s n : Store) → n ≡ s → HasGrown s n
grown_same s n same = subst (λ z. HasGrown s z) (sym same) (record {
  goes_on = goes_on_same s;
  shapes = λ k f h. h;
  room = λ k. omega arith;
  rows = λ p. refl;
})

either : {A B C : Type 0} → A ⊎ B → (A → C) → (B → C) → C
either (inl a) f g = f a
either (inr b) f g = g b

pub grown_then : (s m n : Store) → HasGrown s m → HasGrown m n → HasGrown s n
grown_then s m n a b = record {
  goes_on = goes_on_then s m n a.goes_on b.goes_on;
  shapes = λ k f h. b.shapes k f (a.shapes k f h);
  room = λ k. let p = a.room k in let q = b.room k in omega (arith, p, q);
  rows = λ p. b.rows p ∙ a.rows p;
}

under_max : (a b c : ℕ) → c ≡ max a b → a ≤ c
under_max a b c e = grind (arith, common_steps)

-- a table that is found or made
module _ (s n : Store) (key : TableKey) (f : Shape) (made : (q : TableKey) → table_at n q ≡ made_at s key (shaped f) q) (newest : IsNone (table_at s key) ↔ (s.last < key.serial)) (last : n.last ≡ max s.last key.serial) where
  pub made_stands : (k : TableKey) (t : Archetype) → table_at s k ≡ Some t → table_at n k ≡ Some t
  made_stands k t h = made k ∙ by (table_eq k key)
    where
      by : (b : Bool) → cond b (Some (unwrap_or (table_at s k) (shaped f))) (table_at s k) ≡ Some t
      by true = ap (λ o. Some (unwrap_or o (shaped f))) h
      by false = h

  -- under each key stands what stood there, or it is the new one's
  pub made_new : (k : TableKey) → (table_at n k ≡ table_at s k) ⊎ ((k ≡ key) × (table_at s key ≡ None) × (s.last < key.serial))
  made_new k = by (table_eq k key) (table_eq-tells k key).0 (table_at s k) refl (made k)
    where
      by : (b : Bool) → (b ≡ true → k ≡ key) → (o : Option Archetype) → table_at s k ≡ o → table_at n k ≡ cond b (Some (unwrap_or o (shaped f))) o
          → (table_at n k ≡ table_at s k) ⊎ ((k ≡ key) × (table_at s key ≡ None) × (s.last < key.serial))
      by false d o e h = inl (h ∙ sym e)
      by true d (Some t) e h = inl (h ∙ sym e)
      by true d None e h = let none : table_at s key ≡ None = ap (table_at s) (sym (d refl)) ∙ e in inr (d refl, none, newest.0 (subst IsNone (sym none) refl))

  pub goes_on_made : TablesGoOn s n
  goes_on_made = record {
    stood = λ k ids given h. either (made_new k) (λ same. ap (option_map (λ t. t.ids)) (sym same) ∙ h) (λ new. let later : s.last < k.serial = subst (λ z. s.last < z.serial) (sym new.0) new.2 in absurd (omega (arith, given, later)));
    last = under_max s.last key.serial n.last last;
  }

  -- of a new one it comes
  pub entered_made : (x y : Entered) (ids : List Id) → AreEntered s x → y ≡ finite.insert x key ids → ids_at n key ≡ Some ids → AreEntered n y
  entered_made x y ids are new own k = by (table_eq k key) (table_eq-tells k key) refl
    where
      other : k ≢ key → finite.get y k ≡ ids_at n k
      other apart = ap (λ z. finite.get z k) new ∙ get-entered_other x key ids k apart ∙ are k ∙ either (made_new k) (λ same. ap (option_map (λ t. t.ids)) (sym same)) (λ n. absurd (apart n.0))

      by : (b : Bool) → ((b ≡ true → k ≡ key) × (k ≡ key → b ≡ true)) → table_eq k key ≡ b → finite.get y k ≡ ids_at n k
      by true d e = ap (finite.get y) (d.0 refl) ∙ ap (λ z. finite.get z key) new ∙ get-entered x key ids ∙ sym own ∙ ap (ids_at n) (sym (d.0 refl))
      by false d e = other (λ same. let no : true ≡ false = sym (d.1 same) in cc)

  -- where it is released at once, the tables are those that stood
  module _ (m : Store) (released : (q : TableKey) → table_at m q ≡ released_at n key q) (new : s.last < key.serial) where
    vacant : table_at s key ≡ None
    vacant = by (table_at s key) (newest.1 new)
      where
        by : (o : Option Archetype) → IsNone o → o ≡ None
        by None h = refl
        by (Some t) h = cc

    pub undone : (k : TableKey) → table_at m k ≡ table_at s k
    undone k = released k ∙ by (table_eq k key) (table_eq-tells k key).0 (made k)
      where
        by : (b : Bool) → (b ≡ true → k ≡ key) → table_at n k ≡ cond b (Some (unwrap_or (table_at s k) (shaped f))) (table_at s k) → cond b None (table_at n k) ≡ table_at s k
        by true d h = sym (ap (table_at s) (d refl) ∙ vacant)
        by false d h = h

    pub entered_undone : (x : Entered) → AreEntered s x → AreEntered m x
    entered_undone x are k = are k ∙ ap (option_map (λ t. t.ids)) (sym (undone k))

-- tables that are the same, under serials that may have been given
module _ (s n : Store) (same : (k : TableKey) → table_at n k ≡ table_at s k) (last : s.last ≤ n.last) (rows : (p : Place) → row_at n p ≡ row_at s p) where
  pub grown_back : HasGrown s n
  grown_back = grown_by s n (record { stood = λ k ids given h. ap (option_map (λ t. t.ids)) (sym (same k)) ∙ h; last = last }) (λ k t h. (t, same k ∙ h, refl, omega arith)) rows

-- a table that is found or made, and is entered then
module _ (added : Shape) (s n : Store) (key : TableKey) (f : Shape) (m : IsMade s f key n) (x : Entered) (are : AreEntered s x) (sizes : KeepsSizes (known_in s) added (known_in n)) where
  grown_made : HasGrown s n
  grown_made = grown_by s n (goes_on_made s n key f m.made m.newest m.last) (λ k t h. (t, made_stands s n key f m.made m.newest m.last k t h, refl, omega arith)) m.rows

  -- one that was made before is entered
  pub kept_known : key.serial ≤ s.last → IsStored n → HaveGrown added s n × AreEntered n x
  kept_known known whole = (
    record { grown = grown_made; sizes = sizes; whole = whole },
    λ k. are k ∙ either (made_new s n key f m.made m.newest m.last k) (λ same. ap (option_map (λ t. t.ids)) (sym same)) (λ new. let later = new.2 in absurd (omega (arith, known, later))),
  )

  pub kept_entered : (y : Entered) (ids : List Id) → y ≡ finite.insert x key ids → ids_at n key ≡ Some ids → IsStored n → HaveGrown added s n × AreEntered n y
  kept_entered y ids new own whole = (record { grown = grown_made; sizes = sizes; whole = whole }, entered_made s n key f m.made m.newest m.last x y ids are new own)

  -- one that can't be entered is released
  pub kept_released : (t : Store) → ((q : TableKey) → table_at t q ≡ released_at n key q) → s.last < key.serial → t.last ≡ n.last → ((p : Place) → row_at t p ≡ row_at n p) → IsStored t → HaveGrown added s t × AreEntered t x
  kept_released t released new last rows whole = (
    record {
      grown = grown_back s t (undone s n key f m.made m.newest m.last t released new) (let grown = under_max s.last key.serial n.last m.last in omega (arith, grown, last)) (λ p. rows p ∙ m.rows p);
      sizes = KeepsSizes-then (known_in s) added (known_in n) (known_in t) sizes (released_kept n t key whole.0 released);
      whole = whole;
    },
    entered_undone s n key f m.made m.newest m.last t released new x are,
  )

-- a table that is new has no rows
pub made_empty : (s n : Store) (key : TableKey) (f : Shape) {last : ℕ} → s.last ≡ last → IsMade s f key n → last < key.serial → rows_in n key ≡ 0
made_empty s n key f is m new =
    ap (λ o. unwrap_or (option_map (λ t. length t.entities) o) 0) (m.made key ∙ ap (λ b. cond b (Some (unwrap_or (table_at s key) (shaped f))) (table_at s key)) ((table_eq-tells key key).1 refl))
    ∙ by (table_at s key) (m.newest.1 (let e = is in omega (arith, e, new)))
  where
    by : (o : Option Archetype) → IsNone o → length (unwrap_or o (shaped f)).entities ≡ 0
    by None h = refl
    by (Some t) h = cc

-- and isn't entered yet
pub made_fresh : (s n : Store) (key : TableKey) (f : Shape) {last : ℕ} → s.last ≡ last → IsMade s f key n → (x : Entered) → AreEntered s x → last < key.serial → finite.get x key ≡ None
made_fresh s n key f is m x are new = are key ∙ by (table_at s key) (m.newest.1 (let e = is in omega (arith, e, new)))
  where
    by : (o : Option Archetype) → IsNone o → option_map (λ t. t.ids) o ≡ None
    by None h = refl
    by (Some t) h = cc

abbrev roomier : ℕ → Archetype → Archetype
roomier more t = record t { room = max t.room more }

-- room for more rows in a table
module _ (s n : Store) (key : TableKey) (more : ℕ) (tables : (q : TableKey) → table_at n q ≡ changed_at s key (roomier more) q) where
  larger : (a : ℕ) → a ≤ max a more
  larger a = grind (arith, common_steps)

  enough : (a b : ℕ) → a ≡ max b more → more ≤ a
  enough a b e = grind (arith, common_steps)

  pub grown_reserved : ((k : TableKey) → shape_at n k ≡ shape_at s k) → n.last ≡ s.last → ((p : Place) → row_at n p ≡ row_at s p) → HasGrown s n
  grown_reserved shapes last rows = grown_by s n (goes_on_alike s n (record { shapes = shapes; last = last })) (λ k t h. by k t h (table_eq k key) (tables k)) rows
    where
      by : (k : TableKey) (t : Archetype) → table_at s k ≡ Some t → (b : Bool) → table_at n k ≡ cond b (option_map (roomier more) (table_at s k)) (table_at s k)
          → (u : Archetype) × (table_at n k ≡ Some u) × (shape_of u ≡ shape_of t) × (t.room ≤ u.room)
      by k t h true e = (roomier more t, e ∙ ap (option_map (roomier more)) h, refl, larger t.room)
      by k t h false e = (t, e ∙ h, refl, omega arith)

  pub room_reserved : IsSome (table_at s key) → more ≤ room_at n key
  room_reserved there =
      let t = some_of (table_at s key) there in
      enough (room_at n key) (t.0).room
      (ap (λ o. unwrap_or (option_map (λ t. t.room) o) 0)
      (tables key ∙ ap (λ b. cond b (option_map (roomier more) (table_at s key)) (table_at s key)) ((table_eq-tells key key).1 refl) ∙ ap (option_map (roomier more)) t.1))

-- where the same tables stand, the same entries do
pub entered_alike : (s n : Store) (x : Entered) → ((k : TableKey) → shape_at n k ≡ shape_at s k) → AreEntered s x → AreEntered n x
entered_alike s n x same are k = are k ∙ sym (same_ids s n k (same k))

-- room is made, or is refused
pub kept_reserved : {T E : Type 0} (added : Shape) (s m n : Store) (x : Entered) (key : TableKey) (more : ℕ) (r : Result T E) → OnOk r ((q : TableKey) → table_at n q ≡ changed_at m key (roomier more) q) → OnErr r (n ≡ m)
    → ((k : TableKey) → shape_at n k ≡ shape_at m k) → n.last ≡ m.last → ((p : Place) → row_at n p ≡ row_at m p) → IsStored n → HaveGrown added s m × AreEntered m x → HaveGrown added s n × AreEntered n x
kept_reserved added s m n x key more (Ok v) tables same shapes last rows whole kept = (
  record {
    grown = grown_then s m n kept.0.grown (grown_reserved m n key more tables shapes last rows);
    sizes = KeepsSizes-then (known_in s) added (known_in m) (known_in n) kept.0.sizes (same_kept m n whole.0 shapes);
    whole = whole;
  },
  entered_alike m n x shapes kept.1,
)
kept_reserved added s m n x key more (Err e) tables same shapes last rows whole kept = subst (λ z. HaveGrown added s z × AreEntered z x) (sym same) kept

pub room_wanted : {T E : Type 0} (m n : Store) (key : TableKey) (more least : ℕ) (r : Result T E) → OnOk r ((q : TableKey) → table_at n q ≡ changed_at m key (roomier more) q) → IsSome (table_at m key) → least ≤ more → OnOk r (least ≤ room_at n key)
room_wanted m n key more least (Ok v) tables there enough = let room = room_reserved m n key more tables there in omega (arith, room, enough)
room_wanted m n key more least (Err e) tables there enough = tt

-- nothing has happened
pub kept_same : (added : Shape) (s n : Store) → n ≡ s → IsStored n → HaveGrown added s n
kept_same added s n same whole = record {
  grown = grown_same s n same;
  sizes = λ test old new. subst (λ z. list_all test (known_in z) ≡ true) (sym same) old;
  whole = whole;
}

no_table : (s : Store) → s.tables ≡ [] → (k : TableKey) → table_at s k ≡ None
unfolding table_at
no_table s none k = ap (λ ts. option_map {T = TableKey × Archetype} (λ e. e.1) (find (λ e. table_eq k e.0) ts)) none

-- without tables there are no entries
pub entered_first : (s : Store) (x : Entered) → s.tables ≡ [] → x ≡ finite.empty → AreEntered s x
entered_first s x none empty k = ap (λ z. finite.get z k) empty ∙ get-empty table_cmp k ∙ sym (ap (option_map {T = Archetype} (λ t. t.ids)) (no_table s none k))

-- a table that is released leaves the entries
pub entered_released : (s n : Store) (key : TableKey) (x y : Entered) → ((q : TableKey) → table_at n q ≡ released_at s key q) → AreEntered s x → y ≡ finite.remove x key → AreEntered n y
entered_released s n key x y tables are left k =
    ap (λ z. finite.get z k) left ∙ get-remove table_cmp_total x key k ∙ (λ i. cond (eq_by-table_cmp k key i) None (are k i)) ∙ by (table_eq k key) (table_at s k) ∙ ap (option_map (λ t. t.ids)) (sym (tables k))
  where
    by : (b : Bool) (o : Option Archetype) → cond b None (option_map (λ t. t.ids) o) ≡ option_map (λ t. t.ids) (cond b None o)
    by true o = refl
    by false o = refl
