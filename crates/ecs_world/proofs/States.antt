-- What the state of a world says of its parts.
use Rattle.std.proofs.Common.{◌≡◌, ℕ, ◌≤◌, inl, inr, nat_le, ◌==◌, Bool, true, false, cond, not, ◌&&◌, ◌||◌, List, [], ◌∷◌, length, replicate, Option, Some, None, option_map, unwrap_or, is_some, if◌then◌else◌, IfSome, IsTrue, refl, sym, ap, subst, ◌∙◌, arith, true≢false}
use Rattle.std.proofs.lemmas.Bool.Decides.{Decides-eqb, nat_tests}
use Rattle.std.specs.FinMap.Entries.{is_some-find}
use Rattle.std.specs.List.{list_all, list_any}
use Rattle.std.specs.Option.{option_eq, option_map_or, option_or}
use Rattle.std.specs.Ordering.{nat_cmp, eq_by_cmp}
use Rattle.ecs_id.specs.declared.EntityId.{EntityId}
use Rattle.ecs_id.specs.Id.{Id, IsIndex, plain, pair, mentioned, id_cmp, id_eq, id_eq_same}
use Rattle.ecs_model.specs.Map.{Map, IsMap, value_at, has_key, keys}
use Rattle.ecs_model.specs.Schema.{Schema, zeros}
use Rattle.ecs_model.specs.Bytes.{size_of, values_in}
use Rattle.ecs_model.specs.steps.WellFormed.{IsWellFormed}
use Rattle.ecs_model.specs.World.{WorldState, is_live, last_built_in, pair_is_tag, holds, value_of, ids_of, is_alive, type_of_id, name_of}
use Rattle.ecs_model.proofs.Maps.{of_some, some_of, both_true}
use Rattle.ecs_schema.proofs.UnwrittenBytes.{values_in-zeros}
use Rattle.name_index.specs.Names.{Names}
use Rattle.std.specs.FinMap as finite
use Rattle.ecs_table.specs.Archetype.{Cells, Shape}
use Rattle.ecs_archetypes.specs.Holdings.{AreHoldings, HoldAlike, Holdings, KeepsSizes, agrees, bytes_at, cells_at, entity_at, held_at, holds_id, is_settled, lives, sizes_of}
use Rattle.ecs_archetypes.specs.Archetypes.{known_in}
use Rattle.ecs_archetypes.specs.Housing.{Housing, IsHoused}
use Rattle.ecs_archetypes.proofs.KnownIds.{of_all_shapes}
use Rattle.table_store.specs.Store.{shape_at}
use Rattle.rel_traits.specs.PinCounts.{Counts}
use Rattle.ecs_world.specs.State.{AreFactsOf, IsWorld, Parts, parts_of, byte_count, is_known_rightly, name_in, state_of, type_in, type_of, value_in}
use Rattle.ecs_world.proofs.Entities.{generation_of}
use Rattle.ecs_world.proofs.Facts.{find-facts, ids-facts}
use Rattle.ecs_world.proofs.FactChanges.{AreCells}
use Rattle.ecs_world.proofs.NameLists.{AreNamed, and_then, names_at}

-- where the keys are the same, a key is in both or in none
pub same_keys : {X Y : Type 0} (m : Map ℕ X) (n : Map ℕ Y) (k : ℕ) → keys m ≡ keys n → has_key nat_cmp m k ≡ has_key nat_cmp n k
same_keys m n k h = is_some-find nat_cmp k m ∙ ap (list_any (eq_by_cmp nat_cmp k)) h ∙ sym (is_some-find nat_cmp k n)

pub all_implied : {A : Type 0} (p q : A → Bool) → ((a : A) → p a ≡ true → q a ≡ true) → (xs : List A) → list_all p xs ≡ true → list_all q xs ≡ true
all_implied p q f [] h = refl
all_implied p q f (x ∷ xs) h = let parts = both_true (p x) (list_all p xs) h in λ k. f x parts.0 k && all_implied p q f xs parts.1 k

-- a test that the sizes of all cells pass
pub size_passes : (test : Id × ℕ → Bool) (cs : Cells) (i : Id) (bs : List ℕ) → list_all test (sizes_of cs) ≡ true → value_at id_cmp cs i ≡ Some bs → test (i, length bs) ≡ true
size_passes test [] i bs h found = absurd (true≢false (sym (ap is_some found)))
size_passes test (c ∷ cs) i bs h found = by (eq_by_cmp id_cmp i c.0) refl found (both_true (test (c.0, length c.1)) (list_all test (sizes_of cs)) h).0 (size_passes test cs i bs (both_true (test (c.0, length c.1)) (list_all test (sizes_of cs)) h).1)
  where
    by : (b : Bool) → eq_by_cmp id_cmp i c.0 ≡ b → cond b (Some c.1) (value_at id_cmp cs i) ≡ Some bs → test (c.0, length c.1) ≡ true
        → (value_at id_cmp cs i ≡ Some bs → test (i, length bs) ≡ true) → test (i, length bs) ≡ true
    by true p f t rest =
        let same : i ≡ c.0 = id_eq_same i c.0 p in
        let is : c.1 ≡ bs = cc in
        (λ k. test (same k, length (sym is k))) ∙ t
    by false p f t rest = rest f

pub some_bytes : (o : Option Cells) (i : Id) (bs : List ℕ) → value_at id_cmp (unwrap_or o []) i ≡ Some bs → (cs : Cells) × (o ≡ Some cs) × (value_at id_cmp cs i ≡ Some bs)
some_bytes None i bs h = absurd (true≢false (sym (ap is_some h)))
some_bytes (Some cs) i bs h = (cs, refl, h)

-- an id has one type where its indexes have the same fields, and the same relationships keep their pairs without data
pub type_in-same : (schemas schemas' : Map ℕ Schema) (tag tag' : ℕ → Bool) (p : ℕ → Bool) (i : Id) → list_all p (mentioned i) ≡ true
    → ((j : ℕ) → p j ≡ true → value_at nat_cmp schemas' j ≡ value_at nat_cmp schemas j) → ((r : ℕ) → tag' r ≡ tag r) → type_in schemas' tag' i ≡ type_in schemas tag i
type_in-same schemas schemas' tag tag' p (plain c) h s t = s c (both_true (p c) true h).0
type_in-same schemas schemas' tag tag' p (pair r u) h s t =
    let first = both_true (p r) (p u && true) h in
    let second = both_true (p u) true first.1 in
    λ k. if t r k then None else option_or (s r first.0 k) (s u second.0 k)

pub all_true : {A : Type 0} (xs : List A) → list_all (λ x. true) xs ≡ true
all_true [] = refl
all_true (x ∷ xs) = all_true xs

pub AreCells-whole : (h : Holdings) → AreHoldings h → AreCells h.cells
AreCells-whole h whole = record { in_order = whole.cells; rise = λ e cs found. of_some (λ c. IsMap id_cmp c) (cells_at h e) (first e) cs found }
  where
    drop_second : (e : ℕ) (o : Option Cells) → IfSome o (λ c. IsMap id_cmp c × IsTrue (list_all (λ s. agrees h.known s.0 s.1) (sizes_of c))) → IfSome o (λ c. IsMap id_cmp c)
    drop_second e None p = tt
    drop_second e (Some c) p = p.0

    first : (e : ℕ) → IfSome (cells_at h e) (λ c. IsMap id_cmp c)
    first e = drop_second e (cells_at h e) (whole.each e)

-- values in tables have at most 64 bytes
pub known_few : (g : Housing) → IsHoused g → list_all (λ c. nat_le c.1 64) (known_in g.tables) ≡ true
known_few g whole =
    let stored = (whole.stored).0 in
    of_all_shapes g.tables stored (λ c. nat_le c.1 64) (λ k f at. of_some (λ f. list_all (λ c. nat_le c.1 64) f ≡ true) (shape_at g.tables k) (stored.small k) f at)

-- zeros mean a new value
pub zeros_are_new : (o : Option Schema) → value_in o (replicate (byte_count o) 0) ≡ option_map_or zeros o []
zeros_are_new None = refl
zeros_are_new (Some fs) = values_in-zeros fs

module _ {parts : Parts} (world : IsWorld parts) where
  abbrev h : Holdings
  h = parts.holdings

  abbrev names : Names
  names = parts.names

  abbrev schemas : Map ℕ Schema
  schemas = parts.schemas

  abbrev pins : Counts
  pins = parts.pins

  abbrev accepted : ℕ
  accepted = parts.accepted

  abbrev w : WorldState
  w = state_of parts

  pub AreCells-world : AreCells h.cells
  AreCells-world = AreCells-whole h world.whole

  pub AreNamed-world : AreNamed names h.live
  AreNamed-world = record { in_order = (world.whole).live; one = world.one_to_one; named = λ n e g. generation_of (value_at nat_cmp h.live e.index) e.generation (world.named n e g) }

  -- a live entity has an index that ids can have, and so has one with a name
  index_of_live : (i : ℕ) → is_live w i ≡ true → IsIndex i
  index_of_live i live =
      elim (((world.sound).indexes).given_out i live) [
        | inl built ↦ let parts = both_true (nat_le 1 i) (nat_le i last_built_in) built in (grind (arith, nat_tests), grind (arith, nat_tests))
        | inr given ↦ (omega (arith, given.0), given.1)
      ]

  pub index_named : (n : List ℕ) (e : EntityId) → finite.get names n ≡ Some e → IsIndex e.index
  index_named n e named =
      index_of_live e.index (ap is_some (generation_of (value_at nat_cmp h.live e.index) e.generation (world.named n e named)))

  pub value_is : (e : ℕ) (i : Id) → value_of w e i ≡ option_map (value_in (type_of h schemas i)) (bytes_at h e i)
  value_is e i = find-facts (type_of h schemas) e i h.cells (world.whole).cells

  some_map : {A B : Type 0} (f : A → B) (o : Option A) → is_some (option_map f o) ≡ is_some o
  some_map f None = refl
  some_map f (Some a) = refl

  pub holds_is : (e : ℕ) (i : Id) → holds w e i ≡ holds_id h e i
  holds_is e i = ap is_some (value_is e i) ∙ some_map (value_in (type_of h schemas i)) (bytes_at h e i)

  pub type_is : (i : Id) → type_of_id w i ≡ type_of h schemas i
  type_is (plain c) = refl
  type_is (pair r t) = ap (λ b. if b then None else option_or (value_at nat_cmp schemas r) (value_at nat_cmp schemas t)) (holds_is r (plain pair_is_tag))

  pub ids_is : (e : ℕ) → ids_of w e ≡ keys (held_at h e)
  ids_is e = ids-facts (type_of h schemas) e h.cells (world.whole).cells

  pub settled_at : (i : ℕ) → has_key nat_cmp h.live i ≡ true → (cs : Cells) × (cells_at h i ≡ Some cs)
  settled_at i live = some_of (cells_at h i) (same_keys h.cells h.live i world.settled ∙ live)

  pub unsettled_at : (i : ℕ) → has_key nat_cmp h.live i ≡ false → cells_at h i ≡ None
  unsettled_at i dead = none (cells_at h i) (same_keys h.cells h.live i world.settled ∙ dead)
    where
      none : (o : Option Cells) → is_some o ≡ false → o ≡ None
      none None p = refl
      none (Some c) p = absurd (true≢false p)

  -- what is not settled is not alive
  pub unsettled_dead : (e : EntityId) → false ≡ is_settled h e → lives h e ≡ false
  unsettled_dead e not_settled = by (lives h e) refl not_settled
    where
      by : (b : Bool) → lives h e ≡ b → false ≡ (b && is_some (cells_at h e.index)) → b ≡ false
      by true alive gone =
          let settled = settled_at e.index (ap is_some (generation_of (value_at nat_cmp h.live e.index) e.generation alive)) in
          absurd (true≢false (sym (ap is_some settled.1) ∙ sym gone))
      by false dead gone = refl

  -- what is held has the size of its type, and mentions live entities
  pub known_held : (e : ℕ) (i : Id) (bs : List ℕ) → bytes_at h e i ≡ Some bs → (length bs ≡ byte_count (type_of h schemas i)) × (list_all (has_key nat_cmp h.live) (mentioned i) ≡ true)
  known_held e i bs found =
      let at = some_bytes (cells_at h e) i bs found in
      let sized = of_some (λ c. (test : Id × ℕ → Bool) → IsTrue (list_all test h.known) → IsTrue (list_all test (sizes_of c))) (cells_at h e) ((world.whole).sized e) at.0 at.1 in
      let passes = size_passes (is_known_rightly h schemas) at.0 i bs (sized (is_known_rightly h schemas) world.known) at.2 in
      let parts = both_true (length bs == byte_count (type_of h schemas i)) (list_all (has_key nat_cmp h.live) (mentioned i)) passes in
      ((Decides-eqb (length bs) (byte_count (type_of h schemas i))).0 parts.0, parts.1)

  -- the size of an id's type agrees with all tables
  pub size_agrees : (i : Id) (n : ℕ) → n ≡ byte_count (type_of h schemas i) → agrees h.known i n ≡ true
  size_agrees i n size = all_implied (is_known_rightly h schemas) (λ c. not (id_eq c.0 i) || c.1 == n) each h.known world.known
    where
      by : (c : Id × ℕ) (b : Bool) → id_eq c.0 i ≡ b → c.1 ≡ byte_count (type_of h schemas c.0) → (not b || c.1 == n) ≡ true
      by c false p s = refl
      by c true p s = (Decides-eqb c.1 n).1 (s ∙ ap (λ j. byte_count (type_of h schemas j)) (id_eq_same c.0 i p) ∙ sym size)

      each : (c : Id × ℕ) → is_known_rightly h schemas c ≡ true → (not (id_eq c.0 i) || c.1 == n) ≡ true
      each c k = by c (id_eq c.0 i) refl ((Decides-eqb c.1 (byte_count (type_of h schemas c.0))).0 (both_true (c.1 == byte_count (type_of h schemas c.0)) (list_all (has_key nat_cmp h.live) (mentioned c.0)) k).0)

  -- the ids of a live entity
  pub ids_told : (e : EntityId) → (if lives h e then option_map (λ c. keys c) (cells_at h e.index) else None) ≡ (if is_alive w e then Some (ids_of w e.index) else None)
  ids_told e = by (lives h e) refl
    where
      by : (b : Bool) → lives h e ≡ b → (if b then option_map (λ c. keys c) (cells_at h e.index) else None) ≡ (if b then Some (ids_of w e.index) else None)
      by true alive =
          let at = settled_at e.index (ap is_some (generation_of (value_at nat_cmp h.live e.index) e.generation alive)) in
          ap (option_map (λ c. keys c)) at.1 ∙ ap Some (sym (ids_is e.index ∙ ap (λ o. keys (unwrap_or o [])) at.1))
      by false dead = refl

  -- what the bytes of a fact mean
  pub has_told : {B : Type 0} (o : Option B) (e : ℕ) (i : Id) (b : Bool) → is_some o ≡ is_some (bytes_at h e i) → b ≡ is_some o → b ≡ holds w e i
  has_told o e i b same is = is ∙ same ∙ sym (holds_is e i)

  pub none_told : (e : ℕ) (i : Id) → None ≡ bytes_at h e i → None ≡ value_of w e i
  none_told e i is = ap (option_map (value_in (type_of h schemas i))) is ∙ sym (value_is e i)

  pub tag_told : (e : ℕ) (i : Id) (bytes : List ℕ) → Some bytes ≡ bytes_at h e i → None ≡ type_of_id w i → Some [] ≡ value_of w e i
  tag_told e i bytes is none = ap (λ o. Some (value_in o bytes)) (none ∙ type_is i) ∙ ap (option_map (value_in (type_of h schemas i))) is ∙ sym (value_is e i)

  pub value_told : (e : ℕ) (i : Id) (bytes : List ℕ) (fs : Schema) → Some bytes ≡ bytes_at h e i → Some fs ≡ type_of_id w i → Some (values_in fs bytes) ≡ value_of w e i
  value_told e i bytes fs is some = ap (λ o. Some (value_in o bytes)) (some ∙ type_is i) ∙ ap (option_map (value_in (type_of h schemas i))) is ∙ sym (value_is e i)

  pub size_told : (e : ℕ) (i : Id) (bytes : List ℕ) (fs : Schema) → Some bytes ≡ bytes_at h e i → Some fs ≡ type_of_id w i → length bytes ≡ size_of fs
  size_told e i bytes fs is some = (known_held e i bytes (sym is)).0 ∙ ap byte_count (sym (some ∙ type_is i))

  pub bytes_told : (e : ℕ) (i : Id) (o : Option (List ℕ)) → o ≡ bytes_at h e i → (option_map (value_in (type_of_id w i)) o ≡ value_of w e i) × IfSome o (λ bytes. length bytes ≡ byte_count (type_of_id w i))
  bytes_told e i o is = (ap (λ t. option_map (value_in t) o) (type_is i) ∙ ap (option_map (value_in (type_of h schemas i))) is ∙ sym (value_is e i), sized o is)
    where
      sized : (p : Option (List ℕ)) → p ≡ bytes_at h e i → IfSome p (λ bytes. length bytes ≡ byte_count (type_of_id w i))
      sized None q = tt
      sized (Some bytes) q = (known_held e i bytes (sym q)).0 ∙ ap byte_count (sym (type_is i))

  -- and they are few, as those of all tables are
  pub few_told : list_all (λ c. nat_le c.1 64) h.known ≡ true → (e : ℕ) (i : Id) (o : Option (List ℕ)) → o ≡ bytes_at h e i → IfSome o (λ bytes. length bytes ≤ 64)
  few_told few e i None is = tt
  few_told few e i (Some bytes) is =
      let at = some_bytes (cells_at h e) i bytes (sym is) in
      let sized = of_some (λ c. (test : Id × ℕ → Bool) → IsTrue (list_all test h.known) → IsTrue (list_all test (sizes_of c))) (cells_at h e) ((world.whole).sized e) at.0 at.1 in
      let passes : nat_le (length bytes) 64 ≡ true = size_passes (λ c. nat_le c.1 64) at.0 i bytes (sized (λ c. nat_le c.1 64) few) at.2 in
      grind (arith, nat_tests)

  -- the facts of a live entity
  pub facts_told : (e : EntityId) (o : Option Cells) → o ≡ (if lives h e then cells_at h e.index else None) → (is_some o ≡ is_alive w e) × IfSome o (AreFactsOf w e.index)
  facts_told e o is = by (lives h e) refl o is
    where
      told : (cs : Cells) → cells_at h e.index ≡ Some cs → AreFactsOf w e.index cs
      told cs at =
          let each = λ (i : Id). bytes_told e.index i (value_at id_cmp cs i) (sym (ap (λ o. value_at id_cmp (unwrap_or o []) i) at)) in
          record {
            ids = sym (ids_is e.index ∙ ap (λ o. keys (unwrap_or o [])) at);
            value = λ i. (each i).0;
            size = λ i. (each i).1;
          }

      by : (b : Bool) → lives h e ≡ b → (o : Option Cells) → o ≡ (if b then cells_at h e.index else None) → (is_some o ≡ b) × IfSome o (AreFactsOf w e.index)
      by true alive None is =
          let at = settled_at e.index (ap is_some (generation_of (value_at nat_cmp h.live e.index) e.generation alive)) in
          let none : None ≡ Some at.0 = is ∙ at.1 in cc
      by true alive (Some cs) is = (refl, told cs (sym is))
      by false dead None is = (refl, tt)
      by false dead (Some cs) is = cc

  -- the name of the entity at an index
  pub name_told : (e : EntityId) (i : ℕ) (o : Option (List ℕ)) → Some e ≡ entity_at h i → o ≡ name_in names e → o ≡ name_of w i
  name_told e i o at is = by (value_at nat_cmp h.live i) at ∙ sym (names_at names h.live i (world.whole).live)
    where
      by : (g : Option ℕ) → Some e ≡ option_map (λ g. record { index = i; generation = g }) g → o ≡ and_then g (λ g. name_in names (record { index = i; generation = g }))
      by None p = cc
      by (Some g) p = let same : e ≡ record { index = i; generation = g } = cc in is ∙ ap (name_in names) same

-- the same in other tables is one state
pub state_alike : (g h : Holdings) (names : Names) (schemas : Map ℕ Schema) (pins : Counts) (accepted : ℕ) → HoldAlike g h → state_of (parts_of g names schemas pins accepted) ≡ state_of (parts_of h names schemas pins accepted)
state_alike g h names schemas pins accepted alike = λ k. state_of (parts_of (record { live = alike.live k; deletions = alike.deletions k; cells = alike.cells k; known = [] }) names schemas pins accepted)

-- a world whose entities hold the same in other tables
pub world_alike : (g h : Holdings) (names : Names) (schemas : Map ℕ Schema) (pins : Counts) (accepted : ℕ) (added : Shape) → IsWorld (parts_of h names schemas pins accepted) → AreHoldings g → HoldAlike g h
    → KeepsSizes h.known added g.known → list_all (is_known_rightly h schemas) added ≡ true → IsWorld (parts_of g names schemas pins accepted)
world_alike g h names schemas pins accepted added world whole alike keeps fits = record {
  whole = whole;
  sound = subst IsWellFormed (sym (state_alike g h names schemas pins accepted alike)) world.sound;
  settled = ap keys alike.cells ∙ world.settled ∙ ap keys (sym alike.live);
  known = subst (λ live. list_all (λ c. (c.1 == byte_count (type_in schemas (λ r. holds_id g r (plain pair_is_tag)) c.0)) && list_all (has_key nat_cmp live) (mentioned c.0)) g.known ≡ true) (sym alike.live)
      (subst (λ cells. list_all (λ c. (c.1 == byte_count (type_in schemas (λ r. is_some (value_at id_cmp (unwrap_or (value_at nat_cmp cells r) []) (plain pair_is_tag))) c.0)) && list_all (has_key nat_cmp h.live) (mentioned c.0)) g.known ≡ true) (sym alike.cells)
      (keeps (is_known_rightly h schemas) world.known fits));
  named = λ n e p. ap (λ live. option_eq ◌==◌ (value_at nat_cmp live e.index) (Some e.generation)) alike.live ∙ world.named n e p;
  one_to_one = world.one_to_one;
  covered = λ i l. world.covered i (ap (λ live. has_key nat_cmp live i) (sym alike.live) ∙ l);
}

pub copied : {B C : Type 0} (f : B → C) (o : Option B) → is_some (option_map f o) ≡ is_some o
copied f None = refl
copied f (Some b) = refl

-- what is said of a copy is said of what was copied
pub of_copied : {B C : Type 0} (f : B → C) (P : C → Type 0) (o : Option B) → IfSome (option_map f o) P → IfSome o (λ b. P (f b))
of_copied f P None h = tt
of_copied f P (Some b) h = h
