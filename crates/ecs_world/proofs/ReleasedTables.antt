-- Tables of ids that no entity holds: they have no rows, and once they are released, the sizes of the other ids are what is known.
use Rattle.std.proofs.Common.{◌≡◌, ℕ, zero, suc, ◌+◌, ◌<◌, ◌≤◌, ◌==◌, Bool, true, false, true≢false, cond, not, ◌&&◌, ◌||◌, List, [], ◌∷◌, map, length, take, get_or, Option, Some, None, option_map, unwrap_or, is_some, refl, sym, ap, subst, ◌∙◌, arith}
use Rattle.std.proofs.lemmas.List.Folds.{list_any_at, list_any_more}
use Rattle.std.specs.Cmp.{Equal-is}
use Rattle.std.specs.List.{list_all, list_any, slice_get}
use Rattle.std.specs.Option.{option_and_then}
use Rattle.std.specs.Ordering.{nat_cmp}
pub use Rattle.std.proofs.lemmas.Bool.{or_parts as neither, false_from_ne_true as no_true}
use Rattle.rel_travel.proofs.Marks.{or_found}
use Rattle.ecs_id.specs.declared.EntityId.{EntityId}
use Rattle.ecs_id.specs.declared.Place.{Place}
use Rattle.ecs_id.specs.declared.TableKey.{TableKey}
use Rattle.ecs_id.specs.Id.{Id, id_cmp, id_eq, id_eq_itself, id_eq_same, plain, pair, mentioned}
use Rattle.ecs_model.specs.Map.{keys, value_at}
use Rattle.ecs_model.specs.World.{Key, key_cmp, key_eq, pair_is_tag}
use Rattle.ecs_model.proofs.Maps.{both_true, key_cmp_same}
use Rattle.id_pattern.specs.declared.Part.TheVariants.{Is, Any}
use Rattle.id_pattern.specs.declared.Pattern.{Pattern}
use Rattle.id_pattern.specs.Patterns.{matches}
use Rattle.table_store.specs.Going.{goes_on_same, goes_on_then}
use Rattle.table_store.specs.Rows.{Cells, Row, cells_of, row_at, rows_in}
use Rattle.table_store.specs.Store.{IsStore, Shape, Store, ids_at, shape_at, shape_of, table_at}
use Rattle.ecs_archetypes.specs.Archetypes.{known_in}
use Rattle.ecs_archetypes.specs.Holdings.{AreHoldings, HoldAlike, holds_id}
use Rattle.ecs_archetypes.specs.Housing.{Housing, IsHoused, holdings_of}
use Rattle.ecs_archetypes.specs.Scans.{HasMatch, StandApart}
use Rattle.ecs_archetypes.specs.Staying.{stay_more, stay_same, stay_then}
use Rattle.ecs_archetypes.proofs.FactSections.{key_other, key_own}
use Rattle.ecs_archetypes.proofs.KnownIds.{of_all_shapes, of_shape, shape_stands}
use Rattle.ecs_archetypes.proofs.MapLists.{both}
use Rattle.ecs_archetypes.proofs.TableScans.{have_rows}
use Rattle.ecs_archetypes.proofs.Soundness.{holdings}
use Rattle.ecs_archetypes.proofs.EnteredTables.{ids_of_shape}
use Rattle.ecs_archetypes.proofs.StandingTables.{stay_apart}
pub use Rattle.ecs_world.specs.Releases.{AreLeft}
use Rattle.ecs_world.specs.Releases.{gets_no_data, indexes_of, mentions_one}

-- cells have each id that is found among theirs
any_key : (test : Id → Bool) (cs : Cells) → list_any test (keys cs) ≡ true → (i : Id) × (test i ≡ true) × (is_some (value_at id_cmp cs i) ≡ true)
any_key test [] any = absurd (true≢false (sym any))
any_key test (c ∷ cs) any = by (test c.0) refl any (any_key test cs)
  where
    later : (b : Bool) (i : Id) → is_some (value_at id_cmp cs i) ≡ true → is_some (cond b (Some c.1) (value_at id_cmp cs i)) ≡ true
    later true i h = refl
    later false i h = h

    by : (b : Bool) → test c.0 ≡ b → (b || list_any test (keys cs)) ≡ true → (list_any test (keys cs) ≡ true → (i : Id) × (test i ≡ true) × (is_some (value_at id_cmp cs i) ≡ true))
        → (i : Id) × (test i ≡ true) × (is_some (value_at id_cmp (c ∷ cs) i) ≡ true)
    by true t h rest = (c.0, t, ap (λ b. is_some (cond b (Some c.1) (value_at id_cmp cs c.0))) (id_eq_itself c.0))
    by false t h rest = let r = rest h in (r.0, r.1, later (id_eq r.0 c.0) r.0 r.2)

-- a list that is there and isn't empty has a first item
first_item : {T X Y : Type 0} (o : Option T) (xs : T → List X) (made : T → X → Y) (n : ℕ) → unwrap_or (option_map (λ t. length (xs t)) o) 0 ≡ suc n
    → (y : Y) × (option_and_then (λ t. option_map (made t) (slice_get (xs t) 0)) o ≡ Some y)
first_item None xs made n some = cc
first_item {X = X} {Y = Y} (Some t) xs made n some = by (xs t) some
  where
    by : (ys : List X) → length ys ≡ suc n → (y : Y) × (option_map (made t) (slice_get ys 0) ≡ Some y)
    by [] l = cc
    by (y ∷ ys) l = (made t y, refl)

-- a table with rows has a first one
first_row : (s : Store) (k : TableKey) (n : ℕ) → rows_in s k ≡ suc n → (v : Row) × (row_at s (record { table = k; row = 0 }) ≡ Some v)
unfolding row_at
first_row s k n some = first_item (table_at s k) (λ t. t.entities) (λ t x. (x, cells_of t 0)) n some

-- no entity holds an id of these
abbrev pub AreUnheld : (Id → Bool) → Housing → Type 0
AreUnheld gone g = (e : ℕ) (i : Id) → gone i ≡ true → holds_id (holdings_of g) e i ≡ false

-- a table with an id that no entity holds has no rows
pub no_rows : (g : Housing) (pattern : Pattern) → IsHoused g → AreUnheld (matches pattern) g → (k : TableKey) → HasMatch g.tables pattern k → rows_in g.tables k ≡ 0
no_rows g pattern whole unheld k m = by (rows_in g.tables k) refl
  where
    by : (n : ℕ) → rows_in g.tables k ≡ n → rows_in g.tables k ≡ 0
    by zero e = e
    by (suc n) e =
        let p : Place = record { table = k; row = 0 } in
        let v = first_row g.tables k n e in
        let row = have_rows g whole p v.0 v.1 in
        let here : Some m.0 ≡ Some (keys v.0.1) = sym m.1 ∙ row.ids in
        let same : m.0 ≡ keys v.0.1 = cc in
        let i = any_key (matches pattern) v.0.1 (ap (list_any (matches pattern)) (sym same) ∙ m.2) in
        absurd (true≢false (sym (ap (λ o. is_some (value_at id_cmp (unwrap_or o []) i.0)) row.cells ∙ i.2) ∙ unheld v.0.0.index i.0 i.1))

-- sizes that pass or are of ids that go pass, where none of them goes
spared : (gone : Id → Bool) (test : Id × ℕ → Bool) (f : Shape) → list_any gone (map (λ c. c.0) f) ≡ false → list_all (λ c. gone c.0 || test c) f ≡ true → list_all test f ≡ true
spared gone test [] none all = refl
spared gone test (c ∷ f) none all =
    let nots = neither (gone c.0) (list_any gone (map (λ c. c.0) f)) none in
    let parts = both_true (gone c.0 || test c) (list_all (λ c. gone c.0 || test c) f) all in
    both (test c) (list_all test f) (ap (λ b. b || test c) (sym nots.0) ∙ parts.0) (spared gone test f nots.1 parts.1)

-- where the tables that a pattern matches have gone, the sizes of the other ids are known
pub sizes_released : (pattern : Pattern) (s n : Store) → IsStore n → ((k : TableKey) → HasMatch n pattern k → ⊥) → StandApart pattern s n
    → (test : Id × ℕ → Bool) → list_all (λ c. matches pattern c.0 || test c) (known_in s) ≡ true → list_all test (known_in n) ≡ true
sizes_released pattern s n is gone apart test old = of_all_shapes n is test each
  where
    each : (k : TableKey) (f : Shape) → shape_at n k ≡ Some f → list_all test f ≡ true
    each k f at =
        let ids : ids_at n k ≡ Some (map (λ c. c.0) f) = ids_of_shape n k ∙ ap (option_map (λ f. map (λ c. c.0) f)) at in
        let none : list_any (matches pattern) (map (λ c. c.0) f) ≡ false = no_true _ (λ any. gone k (map (λ c. c.0) f, ids, any)) in
        let serial = (is.serials k (shape_stands n k f at)).1 in
        let given : k.serial ≤ s.last = (let e = apart.last in omega (arith, serial, e)) in
        let was : ids_at s k ≡ Some (map (λ c. c.0) f) = (apart.goes_on).stood k (map (λ c. c.0) f) given ids in
        let unmatched : HasMatch s pattern k → ⊥ = λ m. let here : Some m.0 ≡ Some (map (λ c. c.0) f) = sym m.1 ∙ was in let same : m.0 ≡ map (λ c. c.0) f = cc in true≢false (sym m.2 ∙ ap (list_any (matches pattern)) same ∙ none) in
        spared (matches pattern) test f none (of_shape s (λ c. matches pattern c.0 || test c) k f (sym (ap (option_map shape_of) (apart.others k unmatched)) ∙ at) old)

pub left_none : (g : Housing) → IsHoused g → AreLeft (λ i. false) g g
left_none g whole = record { held = record { live = refl; deletions = refl; cells = refl }; sizes = λ test old. old; goes_on = goes_on_same g.tables; stay = stay_same (list_any (λ i. false)) g.tables; whole = whole }

pub left_matched : (pattern : Pattern) (g h : Housing) → IsHoused h → HoldAlike (holdings_of h) (holdings_of g) → ((k : TableKey) → HasMatch h.tables pattern k → ⊥) → StandApart pattern g.tables h.tables → AreLeft (matches pattern) g h
left_matched pattern g h whole held gone apart = record {
  held = held;
  sizes = sizes_released pattern g.tables h.tables whole.stored.0 gone apart;
  goes_on = apart.goes_on;
  stay = stay_apart pattern g.tables h.tables apart;
  whole = whole;
}

implied : (p q : Id × ℕ → Bool) → ((c : Id × ℕ) → p c ≡ true → q c ≡ true) → (xs : List (Id × ℕ)) → list_all p xs ≡ true → list_all q xs ≡ true
implied p q f [] h = refl
implied p q f (x ∷ xs) h = let parts = both_true (p x) (list_all p xs) h in both (q x) (list_all q xs) (f x parts.0) (implied p q f xs parts.1)

or_either : (a b d : Bool) → ((a || b) || d) ≡ true → (a || (b || d)) ≡ true
or_either true b d h = refl
or_either false b d h = h

-- where no id passes either of two tests, none passes the one, and none the other
none_of_either : (a b : Id → Bool) (ids : List Id) → list_any (λ i. a i || b i) ids ≡ false → (list_any a ids ≡ false) × (list_any b ids ≡ false)
none_of_either a b [] h = (refl, refl)
none_of_either a b (i ∷ ids) h =
    let parts = neither (a i || b i) (list_any (λ i. a i || b i) ids) h in
    let here = neither (a i) (b i) parts.0 in
    let rest = none_of_either a b ids parts.1 in
    (ap (λ z. z || list_any a ids) here.0 ∙ rest.0, ap (λ z. z || list_any b ids) here.1 ∙ rest.1)

-- one release after another
pub left_then : (a b : Id → Bool) (f g h : Housing) → AreLeft a f g → AreLeft b g h → AreLeft (λ i. a i || b i) f h
left_then a b f g h first second = record {
  held = record { live = second.held.live ∙ first.held.live; deletions = second.held.deletions ∙ first.held.deletions; cells = second.held.cells ∙ first.held.cells };
  sizes = λ test old. second.sizes test (first.sizes (λ c. b c.0 || test c) (implied (λ c. (a c.0 || b c.0) || test c) (λ c. a c.0 || (b c.0 || test c)) (λ c. or_either (a c.0) (b c.0) (test c)) (known_in f.tables) old));
  goes_on = goes_on_then f.tables g.tables h.tables first.goes_on second.goes_on;
  stay = stay_then (list_any (λ i. a i || b i)) f.tables g.tables h.tables
      (stay_more (list_any a) (list_any (λ i. a i || b i)) f.tables g.tables (λ ids none. (none_of_either a b ids none).0) first.stay)
      (stay_more (list_any b) (list_any (λ i. a i || b i)) g.tables h.tables (λ ids none. (none_of_either a b ids none).1) second.stay);
  whole = second.whole;
}

-- the same ids, in another form
pub left_same : (a b : Id → Bool) (g h : Housing) → ((i : Id) → a i ≡ b i) → AreLeft a g h → AreLeft b g h
left_same a b g h same left = subst (λ gone. AreLeft gone g h) (λ k. λ i. same i k) left

-- what isn't held at first isn't held after
pub unheld_still : (a gone : Id → Bool) (g h : Housing) → AreLeft a g h → AreUnheld gone g → AreUnheld gone h
unheld_still a gone g h left unheld e i is = ap (λ m. is_some (value_at id_cmp (unwrap_or (value_at nat_cmp m e) []) i)) left.held.cells ∙ unheld e i is

pub left_holdings : (a : Id → Bool) (g h : Housing) → AreLeft a g h → AreHoldings (holdings_of h)
left_holdings a g h left = holdings h.entities h.tables left.whole

-- whether an id mentions an entity
abbrev pub mentions : ℕ → Id → Bool
mentions dead i = list_any (λ x. x == dead) (mentioned i)

-- the three patterns that match what mentions an entity
abbrev pub plain_of : ℕ → Pattern
plain_of dead = record { first = Is dead; second = None }

abbrev pub pairs_of : ℕ → Pattern
pairs_of dead = record { first = Is dead; second = Some Any }

abbrev pub pairs_to : ℕ → Pattern
pairs_to dead = record { first = Any; second = Some (Is dead) }

or_none : (a : Bool) → a ≡ true → (a || false) ≡ true
or_none true h = refl
or_none false h = h

first_of_two : (a b : Bool) → (a && true) ≡ true → (a || (b || false)) ≡ true
first_of_two true b h = refl
first_of_two false b h = absurd (true≢false (sym h))

pub plain_mentions : (dead : ℕ) (i : Id) → matches (plain_of dead) i ≡ true → mentions dead i ≡ true
plain_mentions dead (plain c) h = or_none (c == dead) h
plain_mentions dead (pair r t) h = absurd (true≢false (sym h))

pub pairs_mention : (dead : ℕ) (i : Id) → matches (pairs_of dead) i ≡ true → mentions dead i ≡ true
pairs_mention dead (plain c) h = absurd (true≢false (sym h))
pairs_mention dead (pair r t) h = first_of_two (r == dead) (t == dead) h

pub targets_mention : (dead : ℕ) (i : Id) → matches (pairs_to dead) i ≡ true → mentions dead i ≡ true
targets_mention dead (plain c) h = absurd (true≢false (sym h))
targets_mention dead (pair r t) h = or_found (r == dead) (t == dead) h

all_three : (dead : ℕ) (i : Id) → ((matches (plain_of dead) i || matches (pairs_of dead) i) || matches (pairs_to dead) i) ≡ mentions dead i
all_three dead (plain c) = by (c == dead)
  where
    by : (a : Bool) → ((a || false) || false) ≡ (a || false)
    by true = refl
    by false = refl
all_three dead (pair r t) = by (r == dead) (t == dead)
  where
    by : (a b : Bool) → ((a && true) || b) ≡ (a || (b || false))
    by true b = refl
    by false true = refl
    by false false = refl

-- all ids that mention an entity have gone after the three
pub left_mentions : (dead : ℕ) (g h m n : Housing) → AreLeft (matches (plain_of dead)) g h → AreLeft (matches (pairs_of dead)) h m → AreLeft (matches (pairs_to dead)) m n → AreLeft (mentions dead) g n
left_mentions dead g h m n first second third =
    left_same (λ i. (matches (plain_of dead) i || matches (pairs_of dead) i) || matches (pairs_to dead) i) (mentions dead) g n (all_three dead)
    (left_then (λ i. matches (plain_of dead) i || matches (pairs_of dead) i) (matches (pairs_to dead)) g m n (left_then (matches (plain_of dead)) (matches (pairs_of dead)) g h m first second) third)

-- item by item of a list, each with the ids that go with it
module _ {X : Type 0} (goes : X → Id → Bool) (xs : List X) (g : Housing) where
  abbrev pub IsLeftTo : ℕ → Housing → Type 0
  IsLeftTo n h = AreLeft (λ i. list_any (λ x. goes x i) (take n xs)) g h

  pub left_next : (n : ℕ) (d x : X) (h k : Housing) → n < length xs → x ≡ get_or xs n d → IsLeftTo n h → AreLeft (goes x) h k → IsLeftTo (n + 1) k
  left_next n d x h k within is so_far now =
      left_same (λ i. list_any (λ y. goes y i) (take n xs) || goes x i) (λ i. list_any (λ y. goes y i) (take (n + 1) xs)) g k
      (λ i. ap (λ y. list_any (λ y. goes y i) (take n xs) || goes y i) is ∙ sym (list_any_more (λ y. goes y i) xs n d within))
      (left_then (λ i. list_any (λ y. goes y i) (take n xs)) (goes x) g h k so_far now)

  -- an item for which nothing is to be released
  pub left_skipped : (x : X) (h : Housing) → ((i : Id) → goes x i ≡ false) → IsHoused h → AreLeft (goes x) h h
  left_skipped x h nothing whole = left_same (λ i. false) (goes x) h h (λ i. sym (nothing i)) (left_none h whole)

  pub unheld_at : (n : ℕ) (d x : X) (h : Housing) → n < length xs → x ≡ get_or xs n d → IsLeftTo n h → AreUnheld (λ i. list_any (λ y. goes y i) xs) g → AreUnheld (goes x) h
  unheld_at n d x h within is so_far unheld = unheld_still (λ i. list_any (λ y. goes y i) (take n xs)) (goes x) g h so_far
      (λ e i gone. unheld e i (list_any_at (λ y. goes y i) xs n d within (ap (λ y. goes y i) (sym is) ∙ gone)))

-- the ids that mention one of the dead, death by death
pub mentions_each : (dead : List ℕ) (i : Id) → mentions_one dead i ≡ list_any (λ d. mentions d i) dead
mentions_each [] (plain c) = refl
mentions_each [] (pair r t) = refl
mentions_each (d ∷ dead) (plain c) = by (c == d) (list_any (λ d. c == d) dead) ∙ ap (λ b. ((c == d) || false) || b) (mentions_each dead (plain c))
  where
    by : (a b : Bool) → ((a || b) || false) ≡ ((a || false) || (b || false))
    by true b = refl
    by false b = refl
mentions_each (d ∷ dead) (pair r t) = by (r == d) (t == d) (list_any (λ d. r == d) dead) (list_any (λ d. t == d) dead) ∙ ap (λ b. ((r == d) || ((t == d) || false)) || b) (mentions_each dead (pair r t))
  where
    by : (a b x y : Bool) → ((a || x) || ((b || y) || false)) ≡ ((a || (b || false)) || (x || (y || false)))
    by true b x y = refl
    by false true true y = refl
    by false true false y = refl
    by false false x y = refl

-- a relationship to which PairIsTag comes with a fact
abbrev pub tags_with : Key × ℕ → Id → Bool
tags_with k (plain c) = false
tags_with k (pair r t) = key_eq k.0 (r, plain pair_is_tag)

pub tags_each : (came : List (Key × ℕ)) (i : Id) → gets_no_data came i ≡ list_any (λ k. tags_with k i) came
tags_each [] (plain c) = refl
tags_each (k ∷ came) (plain c) = tags_each came (plain c)
tags_each came (pair r t) = refl

take_whole : {X : Type 0} (xs : List X) (n : ℕ) → length xs ≤ n → take n xs ≡ xs
take_whole [] zero h = refl
take_whole [] (suc n) h = refl
take_whole (x ∷ xs) zero h = absurd (omega (arith, h))
take_whole (x ∷ xs) (suc n) h = ap (λ ys. x ∷ ys) (take_whole xs n (omega (arith, h)))

-- at the end of the list
pub left_all : {X : Type 0} (goes : X → Id → Bool) (xs : List X) (g h : Housing) (n : ℕ) → length xs ≤ n → IsLeftTo goes xs g n h → AreLeft (λ i. list_any (λ x. goes x i) xs) g h
left_all goes xs g h n end left = subst (λ ys. AreLeft (λ i. list_any (λ y. goes y i) ys) g h) (take_whole xs n end) left

-- whether an id mentions this entity
abbrev pub mentions_entity : EntityId → Id → Bool
mentions_entity dead = mentions dead.index

pub entities_each : (dead : List EntityId) (i : Id) → mentions_one (indexes_of dead) i ≡ list_any (λ d. mentions_entity d i) dead
entities_each dead i = mentions_each (indexes_of dead) i ∙ by dead
  where
    by : (es : List EntityId) → list_any (λ d. mentions d i) (indexes_of es) ≡ list_any (λ d. mentions_entity d i) es
    by [] = refl
    by (e ∷ es) = ap (λ b. mentions e.index i || b) (by es)

pub left_dead : (dead : List EntityId) (g h : Housing) (n : ℕ) → length dead ≤ n → IsLeftTo mentions_entity dead g n h → AreLeft (mentions_one (indexes_of dead)) g h
left_dead dead g h n end left =
    left_same (λ i. list_any (λ d. mentions_entity d i) dead) (mentions_one (indexes_of dead)) g h (λ i. sym (entities_each dead i)) (left_all mentions_entity dead g h n end left)

pub left_tagged : (came : List (Key × ℕ)) (g h : Housing) (n : ℕ) → length came ≤ n → IsLeftTo tags_with came g n h → AreLeft (gets_no_data came) g h
left_tagged came g h n end left = left_same (λ i. list_any (λ k. tags_with k i) came) (gets_no_data came) g h (λ i. sym (tags_each came i)) (left_all tags_with came g h n end left)

-- the pairs of a relationship to which PairIsTag comes
pub tags_match : (x : Key × ℕ) (e : ℕ) (i : Id) → x.0 ≡ (e, plain pair_is_tag) → tags_with x i ≡ matches (pairs_of e) i
tags_match x e (plain c) is = refl
tags_match x e (pair r t) is = ap (λ k. key_eq k (r, plain pair_is_tag)) is ∙ by (r == e) refl
  where
    by : (b : Bool) → (r == e) ≡ b → key_eq (e, plain pair_is_tag) (r, plain pair_is_tag) ≡ (b && true)
    by true own = key_own e (plain pair_is_tag) (r, plain pair_is_tag) own ∙ id_eq_itself (plain pair_is_tag)
    by false other = key_other e (plain pair_is_tag) (r, plain pair_is_tag) (ap not other)

-- no pair is meant by a fact of another id
pub tags_none : (x : Key × ℕ) → (x.0.1 ≡ plain pair_is_tag → ⊥) → (i : Id) → tags_with x i ≡ false
tags_none x apart (plain c) = refl
tags_none x apart (pair r t) = no_true (key_eq x.0 (r, plain pair_is_tag)) (λ h. let same : x.0 ≡ (r, plain pair_is_tag) = key_cmp_same x.0 (r, plain pair_is_tag) ((Equal-is (key_cmp x.0 (r, plain pair_is_tag))).0 h) in apart (ap (λ k. k.1) same))

-- no pair of a relationship is held, to which PairIsTag comes with a fact
pub unheld_tag : (came : List (Key × ℕ)) (g h : Housing) (n : ℕ) (x : Key × ℕ) (e : ℕ) → n < length came → x ≡ get_or came n x → x.0 ≡ (e, plain pair_is_tag) → IsLeftTo tags_with came g n h
    → ((e : ℕ) (i : Id) → gets_no_data came i ≡ true → holds_id (holdings_of g) e i ≡ false) → AreUnheld (matches (pairs_of e)) h
unheld_tag came g h n x e within is tag so_far unheld d i gone =
    unheld_at tags_with came g n x x h within is so_far (λ d i gone. unheld d i (tags_each came i ∙ gone)) d i (tags_match x e i tag ∙ gone)

-- a fact that brings PairIsTag is done with once the pairs are released
pub left_tag : (x : Key × ℕ) (e : ℕ) (g h : Housing) → x.0 ≡ (e, plain pair_is_tag) → AreLeft (matches (pairs_of e)) g h → AreLeft (tags_with x) g h
left_tag x e g h tag left = left_same (matches (pairs_of e)) (tags_with x) g h (λ i. sym (tags_match x e i tag)) left

-- a fact whose id was compared with PairIsTag
module _ (x : Key × ℕ) (a : Key) (i p : Id) (is_key : a ≡ x.0) (is_id : i ≡ a.1) (is_tag : p ≡ plain pair_is_tag) where
  pub tag_fact : (b : Key) (e : ℕ) → id_eq i p ≡ true → b ≡ x.0 → e ≡ b.0 → x.0 ≡ (e, plain pair_is_tag)
  tag_fact b e same is_b is_e = λ k. (sym (is_e ∙ ap (λ q. q.0) is_b) k, (sym (ap (λ q. q.1) is_key) ∙ sym is_id ∙ id_eq_same i p same ∙ is_tag) k)

  pub other_fact : id_eq i p ≡ false → x.0.1 ≡ plain pair_is_tag → ⊥
  other_fact differ tag =
      let same : i ≡ p = is_id ∙ ap (λ q. q.1) is_key ∙ tag ∙ sym is_tag in
      true≢false (sym (ap (id_eq i) (sym same) ∙ id_eq_itself i) ∙ differ)
