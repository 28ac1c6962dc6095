-- Facts that come and go, planned one entity after another.
use Rattle.std.proofs.Common.{◌≡◌, ℕ, ◌+◌, ◌<◌, ◌≤◌, ◌==◌, Bool, true, false, true≢false, cond, not, ◌&&◌, ◌||◌, List, [], ◌∷◌, ◌++◌, map, length, take, drop, Option, Some, None, is_some, option_map, unwrap_or, refl, sym, ap, subst, ◌∙◌, arith}
use Rattle.std.specs.Prelude.{nat_le, nat_lt}
use Rattle.std.specs.List.{filter, list_all, prefix_len}
use Rattle.std.specs.List.Sorted.{IsStrictlySortedBy}
use Rattle.std.specs.Cmp.{nat_cmp_total}
use Rattle.std.specs.Ordering.{eq_by_cmp, nat_cmp}
use Rattle.std.specs.FinMap.{nat_cmp-IsAntisymmetric}
use Rattle.std.specs.FinMap.Entries.{find, find-put, is_sorted, is_sorted-put, put, same_entries}
use Rattle.std.proofs.lemmas.Bool.Decides.{Decides-eqb, nat_tests}
use Rattle.std.proofs.lemmas.List.{map-id, take-append-drop}
use Rattle.std.proofs.lemmas.List.Folds.{list_all-append}
use Rattle.ecs_id.specs.declared.EntityId.{EntityId}
use Rattle.ecs_id.specs.declared.TableKey.{TableKey}
use Rattle.ecs_id.specs.Id.{Id, id_cmp, id_eq}
use Rattle.ecs_model.specs.Map.{keys}
use Rattle.ecs_model.specs.World.{Key, is_built_in, key_cmp}
use Rattle.ecs_model.proofs.Maps.{both_true, from_T, of_some, to_T}
use Rattle.table_store.specs.Rows.{Cells, carried, shape_of_cells}
use Rattle.table_store.specs.Store.{Shape, Store, room_at, shape_at}
use Rattle.ecs_archetypes.specs.declared.plans.EntityMove.{EntityMove}
use Rattle.ecs_archetypes.specs.Archetypes.{known_in}
use Rattle.ecs_archetypes.specs.FactChanges.{Coming, changed_cells, changed_shape, coming_to, first_entity, goes_from, ids_among, ids_coming, is_among, with_facts_changed}
use Rattle.ecs_archetypes.specs.Holdings.{AreHoldings, HoldAlike, Holdings, KeepsSizes, agrees, cells_at, held_at, holds_id, is_settled, lives, sizes_of, with_cells}
use Rattle.ecs_archetypes.specs.Housing.{Housing, IsHoused, holdings_of}
use Rattle.ecs_archetypes.specs.Moves.{AreReady, IsPlanned, are_apart, are_deletable, moves_to, shape_in, with_all_moved, with_moved, without_each}
use Rattle.ecs_archetypes.specs.Tables.{HasGrown, one_in}
use Rattle.ecs_archetypes.proofs.DeathLists.{deletable_alike, without_alike}
use Rattle.ecs_archetypes.proofs.FactSections.{AreSplit, IsFirst, all_split, all_then, ascend, ascend_from, ascend_split, behind_above, coming_sorted, first_is, front_of, going_sorted, split_there}
use Rattle.ecs_archetypes.proofs.FactTables.{carried_changed}
use Rattle.ecs_archetypes.proofs.KnownIds.{room_stands}
use Rattle.ecs_archetypes.proofs.MapLists.{both, eq_tells, find_mapped, nat_same, sorted_mapped}
use Rattle.ecs_archetypes.proofs.TableMoves.{alike_then, moved_alike}
use Rattle.ecs_archetypes.proofs.Placings.{table_eq-tells}
use Rattle.ecs_archetypes.proofs.Soundness.{holdings}
use Rattle.ecs_archetypes.proofs.EnteredTables.{grown_same, grown_then}

-- where no fact comes or goes, cells stay
none_left : (u : Cells) → filter (λ e. not false) u ≡ u
none_left [] = refl
none_left (e ∷ u) = ap (λ z. e ∷ z) (none_left u)

cells_stay : (m : List (ℕ × Cells)) → map (λ c. (c.0, changed_cells [] (λ i. false) c.1)) m ≡ m
cells_stay [] = refl
cells_stay (c ∷ m) = λ i. (c.0, none_left c.1 i) ∷ cells_stay m i

pub none_changed : (h : Holdings) → with_facts_changed [] [] h ≡ h
none_changed h = ap (λ m. record h { cells = m }) (cells_stay h.cells)

-- one entity changes, and then the others do
module _ (h : Holdings) (order : is_sorted nat_cmp h.cells ≡ true) (e : ℕ) (v u : Cells) (there : cells_at h e ≡ Some v) (comes first later : Coming) (goes these after : List Key) (split : AreSplit e comes first later goes these after)
    (is : u ≡ changed_cells (ids_coming first) (is_among (ids_among these)) v) where
  abbrev before : ℕ → Cells → Cells
  before d c = changed_cells (coming_to d comes) (goes_from d goes) c

  abbrev after_it : ℕ → Cells → Cells
  after_it d c = changed_cells (coming_to d later) (goes_from d after) c

  at_it : after_it e u ≡ before e v
  at_it = (λ k. changed_cells (split.no_coming k) (λ i. split.no_going i k) u) ∙ none_left u ∙ is ∙ (λ k. changed_cells (sym split.own_coming k) (λ i. sym (split.own_going i) k) v)

  elsewhere : (d : ℕ) → (d == e) ≡ false → (c : Cells) → after_it d c ≡ before d c
  elsewhere d other c = λ k. changed_cells (sym (split.other_coming d other) k) (λ i. sym (split.other_going d other i) k) c

  entries : map {B = ℕ × Cells} (λ c. (c.0, after_it c.0 c.1)) (put nat_cmp e u h.cells) ≡ map {B = ℕ × Cells} (λ c. (c.0, before c.0 c.1)) h.cells
  entries = same_entries nat_cmp nat_cmp_total nat_cmp-IsAntisymmetric (map {B = ℕ × Cells} (λ c. (c.0, after_it c.0 c.1)) (put nat_cmp e u h.cells)) (map {B = ℕ × Cells} (λ c. (c.0, before c.0 c.1)) h.cells)
      (to_T (is_sorted nat_cmp (map {B = ℕ × Cells} (λ c. (c.0, after_it c.0 c.1)) (put nat_cmp e u h.cells)))
      (sorted_mapped nat_cmp after_it (put nat_cmp e u h.cells) ∙ from_T (is_sorted nat_cmp (put nat_cmp e u h.cells)) (is_sorted-put nat_cmp nat_cmp_total e u h.cells (to_T (is_sorted nat_cmp h.cells) order))))
      (to_T (is_sorted nat_cmp (map {B = ℕ × Cells} (λ c. (c.0, before c.0 c.1)) h.cells)) (sorted_mapped nat_cmp before h.cells ∙ order))
      (λ q. find_mapped nat_cmp nat_cmp-IsAntisymmetric after_it q (put nat_cmp e u h.cells) ∙ ap (option_map (after_it q)) (find-put nat_cmp nat_cmp_total q e u h.cells)
      ∙ by q (eq_by_cmp nat_cmp q e) refl ∙ sym (find_mapped nat_cmp nat_cmp-IsAntisymmetric before q h.cells))
    where
      by : (q : ℕ) (b : Bool) → eq_by_cmp nat_cmp q e ≡ b → option_map (after_it q) (cond b (Some u) (find nat_cmp q h.cells)) ≡ option_map (before q) (find nat_cmp q h.cells)
      by q true own = let same = nat_same q e own in ap (λ d. Some (after_it d u)) same ∙ ap Some at_it ∙ ap (option_map (before e)) (sym there) ∙ ap (λ d. option_map (before d) (find nat_cmp d h.cells)) (sym same)
      by q false other = ap (λ (f : Cells → Cells). option_map f (find nat_cmp q h.cells)) (λ k c. elsewhere q (sym (eq_tells q e) ∙ other) c k)

  pub one_changed : with_facts_changed later after (with_cells h e u) ≡ with_facts_changed comes goes h
  one_changed = ap (λ m. record h { cells = m }) entries

-- moves in tables that have grown, and one more of them
pub moved_grown : (s n : Store) → HasGrown s n → (ms : List EntityMove) → ((q : TableKey) → moves_to q ms ≤ room_at s q) → (h : Holdings) → with_all_moved n ms h ≡ with_all_moved s ms h
moved_grown s n grown [] room h = refl
moved_grown s n grown (m ∷ ms) room h =
    let one : one_in m.to m.to ≡ 1 = ap (λ b. cond b 1 0) ((table_eq-tells m.to m.to).1 refl) in
    let own = room m.to in
    let f = room_stands s m.to (omega (arith, own, one)) in
    let same : shape_at n m.to ≡ shape_at s m.to = grown.shapes m.to f.0 f.1 ∙ sym f.1 in
    moved_grown s n grown ms (λ q. let r = room q in omega (arith, r)) (with_moved h m.entity (shape_in n m.to))
    ∙ ap (λ o. with_all_moved s ms (with_moved h m.entity (unwrap_or o []))) same

pub moved_more : (s : Store) (ms : List EntityMove) (m : EntityMove) (h : Holdings) → with_all_moved s (ms ++ m ∷ []) h ≡ with_moved (with_all_moved s ms h) m.entity (shape_in s m.to)
moved_more s [] m h = refl
moved_more s (n ∷ ms) m h = moved_more s ms m (with_moved h n.entity (shape_in s n.to))

apart_from : (n b d : ℕ) → nat_lt n b ≡ true → b ≤ d → (d == n) ≡ false
apart_from n b d low high = grind (arith, nat_tests)

-- moves of others leave an entity's cells
pub others_moved : (s : Store) (ms : List EntityMove) (h : Holdings) (b d : ℕ) → list_all (λ m. nat_lt m.entity.index b) ms ≡ true → b ≤ d → cells_at (with_all_moved s ms h) d ≡ cells_at h d
others_moved s [] h b d low high = refl
others_moved s (m ∷ ms) h b d low high =
    let parts = both_true (nat_lt m.entity.index b) (list_all (λ m. nat_lt m.entity.index b) ms) low in
    others_moved s ms (with_moved h m.entity (shape_in s m.to)) b d parts.1 high
    ∙ find-put nat_cmp nat_cmp_total d m.entity.index (carried (shape_in s m.to) (held_at h m.entity.index)) h.cells
    ∙ ap (λ t. cond t (Some (carried (shape_in s m.to) (held_at h m.entity.index))) (cells_at h d)) (eq_tells d m.entity.index ∙ apart_from m.entity.index b d parts.0 high)

pub moved_sorted : (s : Store) (ms : List EntityMove) (h : Holdings) → is_sorted nat_cmp h.cells ≡ true → is_sorted nat_cmp (with_all_moved s ms h).cells ≡ true
moved_sorted s [] h order = order
moved_sorted s (m ∷ ms) h order =
    let f = carried (shape_in s m.to) (held_at h m.entity.index) in
    moved_sorted s ms (with_moved h m.entity (shape_in s m.to)) (from_T (is_sorted nat_cmp (put nat_cmp m.entity.index f h.cells)) (is_sorted-put nat_cmp nat_cmp_total m.entity.index f h.cells (to_T (is_sorted nat_cmp h.cells) order)))

list_all_map : {X Y : Type 0} (test : Y → Bool) (f : X → Y) (xs : List X) → list_all test (map f xs) ≡ list_all (λ x. test (f x)) xs
list_all_map test f [] = refl
list_all_map test f (x ∷ xs) = ap (λ b. test (f x) && b) (list_all_map test f xs)

-- the moves so far, and the facts that are left: together they change what was asked for
pub record ArePlannedFacts (before : Housing) (came : Coming) (went : List Key) (now : Housing) (moves : List EntityMove) (comes : Coming) (goes : List Key) : Type 0 where
  pub ready : AreReady now moves
  pub held : HoldAlike (holdings_of now) (holdings_of before)
  pub grown : HasGrown before.tables now.tables
  pub sizes : KeepsSizes (known_in before.tables) (ids_coming came) (known_in now.tables)
  pub whole : IsHoused now
  pub effect : with_facts_changed comes goes (with_all_moved now.tables moves (holdings_of before)) ≡ with_facts_changed came went (holdings_of before)
  pub up : ascend (λ (c : Key × ℕ). c.0) comes ≡ true
  pub rising : ascend (λ (k : Key). k) goes ≡ true
  pub coming_settled : list_all (λ c. is_some (cells_at (holdings_of before) c.0.0)) comes ≡ true
  pub going_settled : list_all (λ k. is_some (cells_at (holdings_of before) k.0)) goes ≡ true
  pub unheld : list_all (λ c. not (holds_id (holdings_of before) c.0.0 c.0.1)) comes ≡ true
  pub small : list_all (λ c. nat_le c.1 64) comes ≡ true
  pub agree : list_all (λ c. agrees (known_in before.tables ++ ids_coming came) c.0.1 c.1) comes ≡ true
  pub among : (test : Id × ℕ → Bool) → list_all test (ids_coming came) ≡ true → list_all (λ c. test (c.0.1, c.1)) comes ≡ true
  -- the entities of the moves stand below those of the facts
  pub bound : ℕ
  pub below : list_all (λ m. nat_lt m.entity.index bound) moves ≡ true
  pub coming_beyond : list_all (λ c. nat_le bound c.0.0) comes ≡ true
  pub going_beyond : list_all (λ k. nat_le bound k.0) goes ≡ true

all_zero : {X : Type 0} (f : X → ℕ) (xs : List X) → list_all (λ x. nat_le 0 (f x)) xs ≡ true
all_zero f [] = refl
all_zero f (x ∷ xs) = both (nat_le 0 (f x)) (list_all (λ x. nat_le 0 (f x)) xs) (zero_low (f x)) (all_zero f xs)
  where
    zero_low : (n : ℕ) → nat_le 0 n ≡ true
    zero_low n = grind (arith, nat_tests)

pub facts_planned_none : (before : Housing) (came : Coming) (went : List Key) → IsHoused before → IsStrictlySortedBy key_cmp (keys came) → IsStrictlySortedBy key_cmp went
    → list_all (λ k. is_some (cells_at (holdings_of before) k.0)) (keys came ++ went) ≡ true → list_all (λ k. not (holds_id (holdings_of before) k.0 k.1)) (keys came) ≡ true → list_all (λ c. nat_le c.1 64) came ≡ true
    → list_all (λ c. agrees (known_in before.tables ++ ids_coming came) c.0 c.1) (ids_coming came) ≡ true → (moves : List EntityMove) → moves ≡ [] → ArePlannedFacts before came went before moves came went
facts_planned_none before came went whole up rising settled unheld small agree moves none =
    let parts = both_true (list_all (λ k. is_some (cells_at (holdings_of before) k.0)) (keys came)) (list_all (λ k. is_some (cells_at (holdings_of before) k.0)) went)
    (sym (list_all-append (λ k. is_some (cells_at (holdings_of before) k.0)) (keys came) went) ∙ settled) in
    subst (λ ms. ArePlannedFacts before came went before ms came went) (sym none) (record {
      ready = record { settled = refl; room = λ q. omega arith };
      held = record { live = refl; deletions = refl; cells = refl };
      grown = grown_same before.tables before.tables refl;
      sizes = λ test old new. old;
      whole = whole;
      effect = refl;
      up = ascend_from (λ (c : Key × ℕ). c.0) came up;
      rising = ascend_from (λ (k : Key). k) went (subst (IsStrictlySortedBy key_cmp) (sym (map-id went)) rising);
      coming_settled = sym (list_all_map (λ k. is_some (cells_at (holdings_of before) k.0)) (λ (c : Key × ℕ). c.0) came) ∙ parts.0;
      going_settled = parts.1;
      unheld = sym (list_all_map (λ k. not (holds_id (holdings_of before) k.0 k.1)) (λ (c : Key × ℕ). c.0) came) ∙ unheld;
      small = small;
      agree = sym (list_all_map (λ c. agrees (known_in before.tables ++ ids_coming came) c.0 c.1) (λ (c : Key × ℕ). (c.0.1, c.1)) came) ∙ agree;
      among = λ test all. sym (list_all_map test (λ (c : Key × ℕ). (c.0.1, c.1)) came) ∙ all;
      bound = 0;
      below = refl;
      coming_beyond = all_zero (λ (c : Key × ℕ). c.0.0) came;
      going_beyond = all_zero (λ (k : Key). k.0) went;
    })

first_none : (comes : Coming) (goes : List Key) → first_entity comes goes ≡ None → (comes ≡ []) × (goes ≡ [])
first_none [] [] is = (refl, refl)
first_none (c ∷ cs) [] is = cc
first_none [] (k ∷ ks) is = cc
first_none (c ∷ cs) (k ∷ ks) is = cc

some_held : (o : Option Cells) → is_some o ≡ true → o ≡ Some (unwrap_or o [])
some_held None h = absurd (true≢false (sym h))
some_held (Some c) h = refl

lt_more : (n b e : ℕ) → nat_lt n b ≡ true → nat_le b e ≡ true → nat_lt n (e + 1) ≡ true
lt_more n b e h k = grind (arith, nat_tests)

lt_self : (n e : ℕ) → n ≡ e → nat_lt n (e + 1) ≡ true
lt_self n e h = grind (arith, nat_tests)

le_in : (b e : ℕ) → nat_le b e ≡ true → b ≤ e
le_in b e h = grind (arith, nat_tests)

-- ids that come to one entity
unheld_own : (h : Holdings) (e : ℕ) (cs : Coming) → list_all (λ c. c.0.0 == e) cs ≡ true → list_all (λ c. not (holds_id h c.0.0 c.0.1)) cs ≡ true → list_all (λ c. not (holds_id h e c.0)) (ids_coming cs) ≡ true
unheld_own h e [] own apart = refl
unheld_own h e (c ∷ cs) own apart =
    let o = both_true (c.0.0 == e) (list_all (λ c. c.0.0 == e) cs) own in
    let a = both_true (not (holds_id h c.0.0 c.0.1)) (list_all (λ c. not (holds_id h c.0.0 c.0.1)) cs) apart in
    both (not (holds_id h e c.0.1)) (list_all (λ c. not (holds_id h e c.0)) (ids_coming cs)) (ap (λ d. not (holds_id h d c.0.1)) (sym ((Decides-eqb c.0.0 e).0 o.0)) ∙ a.0) (unheld_own h e cs o.1 a.1)

module _ (before now : Housing) (came : Coming) (went : List Key) (moves : List EntityMove) (comes : Coming) (goes : List Key) (planned : ArePlannedFacts before came went now moves comes goes) where
  -- nothing is left
  pub facts_planned : first_entity comes goes ≡ None → with_all_moved now.tables moves (holdings_of before) ≡ with_facts_changed came went (holdings_of before)
  facts_planned is =
      let none = first_none comes goes is in
      sym (none_changed (with_all_moved now.tables moves (holdings_of before)))
      ∙ (λ k. with_facts_changed (sym none.0 k) (sym none.1 k) (with_all_moved now.tables moves (holdings_of before))) ∙ planned.effect

  module _ (e : ℕ) (is : first_entity comes goes ≡ Some e) (n m : ℕ) (first later : Coming) (these after : List Key) (count : n ≡ prefix_len (λ c. c.0.0 == e) comes) (amount : m ≡ prefix_len (λ k. k.0 == e) goes)
      (first_is_front : first ≡ take n comes) (later_is_back : later ≡ drop n comes) (these_are_front : these ≡ take m goes) (after_is_back : after ≡ drop m goes) where
    firsts : IsFirst comes goes e
    firsts = first_is comes goes e is planned.up planned.rising

    front : first ≡ take (prefix_len (λ c. c.0.0 == e) comes) comes
    front = first_is_front ∙ ap (λ z. take z comes) count

    back : later ≡ drop (prefix_len (λ c. c.0.0 == e) comes) comes
    back = later_is_back ∙ ap (λ z. drop z comes) count

    front_goes : these ≡ take (prefix_len (λ k. k.0 == e) goes) goes
    front_goes = these_are_front ∙ ap (λ z. take z goes) amount

    back_goes : after ≡ drop (prefix_len (λ k. k.0 == e) goes) goes
    back_goes = after_is_back ∙ ap (λ z. drop z goes) amount

    own : list_all (λ c. c.0.0 == e) first ≡ true
    own = ap (list_all (λ c. c.0.0 == e)) front ∙ front_of (λ (c : Key × ℕ). c.0) e comes

    owns : list_all (λ k. k.0 == e) these ≡ true
    owns = ap (list_all (λ k. k.0 == e)) front_goes ∙ front_of (λ (k : Key). k) e goes

    split : AreSplit e comes first later goes these after
    split = split_there e comes first later goes these after
        (sym (take-append-drop n comes) ∙ (λ k. sym first_is_front k ++ sym later_is_back k)) (sym (take-append-drop m goes) ∙ (λ k. sym these_are_front k ++ sym after_is_back k)) own owns
        (ap (list_all (λ c. nat_lt e c.0.0)) back ∙ behind_above (λ (c : Key × ℕ). c.0) e comes planned.up firsts.comes_from)
        (ap (list_all (λ k. nat_lt e k.0)) back_goes ∙ behind_above (λ (k : Key). k) e goes planned.rising firsts.goes_above)

    of_front : (test : Key × ℕ → Bool) → list_all test comes ≡ true → list_all test first ≡ true
    of_front test all = ap (list_all test) first_is_front ∙ (all_split test n comes all).0

    of_back : (test : Key × ℕ → Bool) → list_all test comes ≡ true → list_all test later ≡ true
    of_back test all = ap (list_all test) later_is_back ∙ (all_split test n comes all).1

    pub front_rises : is_sorted id_cmp (ids_coming first) ≡ true
    front_rises = coming_sorted e first own (ap (ascend (λ (c : Key × ℕ). c.0)) first_is_front ∙ (ascend_split (λ (c : Key × ℕ). c.0) n comes planned.up).0)

    pub these_rise : IsStrictlySortedBy id_cmp (ids_among these)
    these_rise = going_sorted e these owns (ap (ascend (λ (k : Key). k)) these_are_front ∙ (ascend_split (λ (k : Key). k) m goes planned.rising).0)

    settled_before : is_some (cells_at (holdings_of before) e) ≡ true
    settled_before = firsts.named (λ d. is_some (cells_at (holdings_of before) d)) planned.coming_settled planned.going_settled

    pub front_settled : is_some (cells_at (holdings_of now) e) ≡ true
    front_settled = ap (λ z. is_some (find nat_cmp e z)) planned.held.cells ∙ settled_before

    unheld_before : list_all (λ c. not (holds_id (holdings_of before) e c.0)) (ids_coming first) ≡ true
    unheld_before = unheld_own (holdings_of before) e first own (of_front (λ c. not (holds_id (holdings_of before) c.0.0 c.0.1)) planned.unheld)

    pub front_unheld : list_all (λ c. not (holds_id (holdings_of now) e c.0)) (ids_coming first) ≡ true
    front_unheld = ap (λ z. list_all (λ c. not (is_some (find id_cmp c.0 (unwrap_or (find nat_cmp e z) [])))) (ids_coming first)) planned.held.cells ∙ unheld_before

    pub front_small : list_all (λ c. nat_le c.1 64) (ids_coming first) ≡ true
    front_small = list_all_map (λ (c : Id × ℕ). nat_le c.1 64) (λ (c : Key × ℕ). (c.0.1, c.1)) first ∙ of_front (λ c. nat_le c.1 64) planned.small

    pub front_agrees : list_all (λ c. agrees (known_in now.tables) c.0 c.1) (ids_coming first) ≡ true
    front_agrees = list_all_map (λ (c : Id × ℕ). agrees (known_in now.tables) c.0 c.1) (λ (c : Key × ℕ). (c.0.1, c.1)) first
        ∙ all_then (λ (c : Key × ℕ). agrees (known_in before.tables ++ ids_coming came) c.0.1 c.1) (λ c. agrees (known_in now.tables) c.0.1 c.1)
        (λ c all. let parts = both_true (agrees (known_in before.tables) c.0.1 c.1) (agrees (ids_coming came) c.0.1 c.1) (sym (list_all-append (λ d. not (id_eq d.0 c.0.1) || d.1 == c.1) (known_in before.tables) (ids_coming came)) ∙ all) in
        planned.sizes (λ d. not (id_eq d.0 c.0.1) || d.1 == c.1) parts.0 parts.1)
        first (of_front (λ c. agrees (known_in before.tables ++ ids_coming came) c.0.1 c.1) planned.agree)

    pub front_among : (test : Id × ℕ → Bool) → list_all test (ids_coming came) ≡ true → list_all test (ids_coming first) ≡ true
    front_among test all = list_all_map test (λ (c : Key × ℕ). (c.0.1, c.1)) first ∙ of_front (λ c. test (c.0.1, c.1)) (planned.among test all)

    -- fewer facts are left
    pub fewer_left : (a b : ℕ) → a + n ≡ length comes → b + m ≡ length goes → a + b < length comes + length goes
    fewer_left a b x y = let some = firsts.some in omega (arith, x, y, count, amount, some)

    module _ (next : Housing) (more : List EntityMove)
        (one : (x : EntityId) × (x.index ≡ e) × IsPlanned next.tables moves x (changed_shape (ids_coming first) (is_among (ids_among these)) (shape_of_cells (held_at (holdings_of now) e))) more)
        (ready : AreReady next more) (held : HoldAlike (holdings_of next) (holdings_of now)) (grown : HasGrown now.tables next.tables) (sizes : KeepsSizes (known_in now.tables) (ids_coming first) (known_in next.tables)) (whole : IsHoused next) where
      abbrev was : Holdings
      was = holdings_of before

      abbrev moved : Holdings
      moved = with_all_moved now.tables moves was

      abbrev cells : Cells
      cells = held_at was e

      abbrev shape : Shape
      shape = changed_shape (ids_coming first) (is_among (ids_among these)) (shape_of_cells (held_at (holdings_of now) e))

      bounded : nat_le planned.bound e ≡ true
      bounded = firsts.named (λ d. nat_le planned.bound d) planned.coming_beyond planned.going_beyond

      there : cells_at moved e ≡ Some cells
      there = others_moved now.tables moves was planned.bound e planned.below (le_in planned.bound e bounded) ∙ some_held (cells_at was e) settled_before

      is_held : AreHoldings (holdings_of now)
      is_held = holdings now.entities now.tables planned.whole

      in_order : is_sorted nat_cmp was.cells ≡ true
      in_order = ap (is_sorted nat_cmp) (sym planned.held.cells) ∙ is_held.cells

      cells_in_order : is_sorted id_cmp cells ≡ true
      cells_in_order = (of_some (λ c. (is_sorted id_cmp c ≡ true) × (list_all (λ s. agrees (known_in now.tables) s.0 s.1) (sizes_of c) ≡ true)) (cells_at (holdings_of now) e) (is_held.each e) cells
          (ap (find nat_cmp e) planned.held.cells ∙ some_held (cells_at was e) settled_before)).0

      changed : carried shape (held_at moved e) ≡ changed_cells (ids_coming first) (is_among (ids_among these)) cells
      changed = (λ k. carried (changed_shape (ids_coming first) (is_among (ids_among these)) (shape_of_cells (unwrap_or (find nat_cmp e (planned.held.cells k)) []))) (unwrap_or (there k) []))
          ∙ carried_changed cells (ids_coming first) (is_among (ids_among these)) cells_in_order unheld_before

      step : with_all_moved next.tables more was ≡ with_cells moved e (carried shape (held_at moved e))
      step =
          let p = one.2 in
          ap (λ ms. with_all_moved next.tables ms was) p.moves ∙ moved_more next.tables moves (record { entity = one.0; from = p.from; to = p.to }) was
          ∙ (λ k. with_moved (moved_grown now.tables next.tables grown moves planned.ready.room was k) one.0 (unwrap_or (p.shape k) []))
          ∙ ap (λ i. with_cells moved i (carried shape (held_at moved i))) one.1

      pub facts_planned_more : ArePlannedFacts before came went next more later after
      facts_planned_more = record {
        ready = ready;
        held = alike_then (holdings_of next) (holdings_of now) was held planned.held;
        grown = grown_then before.tables now.tables next.tables planned.grown grown;
        sizes = λ test old new. sizes test (planned.sizes test old new) (front_among test new);
        whole = whole;
        effect = ap (with_facts_changed later after) step
            ∙ one_changed moved (moved_sorted now.tables moves was in_order) e cells (carried shape (held_at moved e)) there comes first later goes these after split changed
            ∙ planned.effect;
        up = ap (ascend (λ (c : Key × ℕ). c.0)) later_is_back ∙ (ascend_split (λ (c : Key × ℕ). c.0) n comes planned.up).1;
        rising = ap (ascend (λ (k : Key). k)) after_is_back ∙ (ascend_split (λ (k : Key). k) m goes planned.rising).1;
        coming_settled = of_back (λ c. is_some (cells_at was c.0.0)) planned.coming_settled;
        going_settled = ap (list_all (λ k. is_some (cells_at was k.0))) after_is_back ∙ (all_split (λ k. is_some (cells_at was k.0)) m goes planned.going_settled).1;
        unheld = of_back (λ c. not (holds_id was c.0.0 c.0.1)) planned.unheld;
        small = of_back (λ c. nat_le c.1 64) planned.small;
        agree = of_back (λ c. agrees (known_in before.tables ++ ids_coming came) c.0.1 c.1) planned.agree;
        among = λ test all. of_back (λ c. test (c.0.1, c.1)) (planned.among test all);
        bound = e + 1;
        below = ap (list_all (λ m. nat_lt m.entity.index (e + 1))) (one.2).moves ∙ list_all-append (λ m. nat_lt m.entity.index (e + 1)) moves (record { entity = one.0; from = (one.2).from; to = (one.2).to } ∷ [])
            ∙ both (list_all (λ m. nat_lt m.entity.index (e + 1)) moves) (nat_lt (one.0).index (e + 1) && true)
            (all_then (λ (m : EntityMove). nat_lt m.entity.index planned.bound) (λ m. nat_lt m.entity.index (e + 1)) (λ m low. lt_more m.entity.index planned.bound e low bounded) moves planned.below)
            (both (nat_lt (one.0).index (e + 1)) true (lt_self (one.0).index e one.1) refl);
        coming_beyond = split.later_above;
        going_beyond = split.after_above;
      }

-- after the facts have changed, the dead can be deleted
changed_there : (came : Coming) (went : List Key) (h : Holdings) (i : ℕ) → is_some (cells_at (with_facts_changed came went h) i) ≡ is_some (cells_at h i)
changed_there came went h i = ap is_some (find_mapped nat_cmp nat_cmp-IsAntisymmetric (λ e c. changed_cells (coming_to e came) (goes_from e went) c) i h.cells) ∙ by (cells_at h i)
  where
    by : (o : Option Cells) → is_some (option_map (λ c. changed_cells (coming_to i came) (goes_from i went) c) o) ≡ is_some o
    by None = refl
    by (Some c) = refl

changed_deletable : (came : Coming) (went : List Key) (h : Holdings) (es : List EntityId) → list_all (λ d. is_settled (with_facts_changed came went h) d && not (is_built_in d.index)) es ≡ list_all (λ d. is_settled h d && not (is_built_in d.index)) es
changed_deletable came went h [] = refl
changed_deletable came went h (d ∷ es) = λ k. ((lives h d && changed_there came went h d.index k) && not (is_built_in d.index)) && changed_deletable came went h es k

pub facts_changed : (came : Coming) (went : List Key) (before now next : Housing) (moves : List EntityMove) → with_all_moved now.tables moves (holdings_of before) ≡ with_facts_changed came went (holdings_of before)
    → HoldAlike (holdings_of now) (holdings_of before) → HoldAlike (holdings_of next) (with_all_moved now.tables moves (holdings_of now)) → HoldAlike (holdings_of next) (with_facts_changed came went (holdings_of before))
facts_changed came went before now next moves planned same carried_out = subst (HoldAlike (holdings_of next)) planned
    (alike_then (holdings_of next) (with_all_moved now.tables moves (holdings_of now)) (with_all_moved now.tables moves (holdings_of before)) carried_out (moved_alike now.tables moves (holdings_of now) (holdings_of before) same))

-- where no fact comes or goes, nothing has changed
pub facts_same : (came : Coming) (went : List Key) (h : Holdings) → length came ≡ 0 → length went ≡ 0 → HoldAlike h (with_facts_changed came went h)
facts_same [] [] h none_comes none_goes = record { live = refl; deletions = refl; cells = sym (ap (λ g. g.cells) (none_changed h)) }
facts_same (c ∷ came) went h none_comes none_goes = absurd (omega (arith, none_comes))
facts_same [] (k ∷ went) h none_comes none_goes = absurd (omega (arith, none_goes))

module _ (came : Coming) (went : List Key) (h next : Holdings) (dead : List EntityId) (changed : HoldAlike next (with_facts_changed came went h)) where
  pub facts_dead : are_deletable h dead ≡ true → are_deletable next dead ≡ true
  facts_dead was = deletable_alike next (with_facts_changed came went h) changed dead ∙ ap (λ b. b && are_apart dead) (changed_deletable came went h dead) ∙ was

  pub facts_gone : (end : Holdings) → HoldAlike end (without_each dead next) → HoldAlike end (without_each dead (with_facts_changed came went h))
  facts_gone end gone = alike_then end (without_each dead next) (without_each dead (with_facts_changed came went h)) gone (without_alike dead next (with_facts_changed came went h) changed)
