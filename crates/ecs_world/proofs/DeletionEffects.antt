-- What is left after entities were deleted, with all facts that mention them.
use Rattle.std.proofs.Common.{◌≡◌, ◌↔◌, ℕ, ◌==◌, Bool, true, false, cond, not, ◌&&◌, ◌||◌, List, [], ◌∷◌, length, ℤ, Option, Some, None, option_map, unwrap_or, is_some, if◌then◌else◌, IfSome, IsTrue, refl, sym, ap, subst, ◌∙◌, arith, true≢false}
use Rattle.std.specs.Prelude.{map, filter}
use Rattle.std.proofs.lemmas.Bool.Decides.{nat_tests, Decides-eqb}
use Rattle.std.specs.Cmp.{nat_cmp_total}
use Rattle.std.specs.FinMap as finite
use Rattle.std.specs.FinMap.{nat_cmp-IsAntisymmetric}
use Rattle.std.specs.FinMap.Entries.{below_all, is_some-find, is_sorted}
use Rattle.std.specs.List.{AllByRecursion, Contains, cons_option, list_all, list_any}
use Rattle.std.specs.List.Sorted.{IsStrictlySortedBy}
use Rattle.std.specs.Option.{option_eq, option_map_or, option_or}
use Rattle.std.specs.Ordering.{is_lt, nat_cmp}
use Rattle.std.specs.declared.cmp.Ordering.{Ordering}
use Rattle.std.specs.declared.cmp.Ordering.TheVariants.{Less}
use Rattle.std.proofs.lemmas.List.Kept.{IsStrictlySortedBy-filter}
pub use Rattle.id_pattern.proofs.Errors.{on_err as whatever}
use Rattle.ecs_id.specs.declared.EntityId.{EntityId}
use Rattle.ecs_id.specs.Id.{Id, plain, pair, mentioned, id_cmp}
use Rattle.ecs_model.specs.declared.faults.Refusal.TheVariants.{Dead, BuiltIn, InUse, Panic, Full}
use Rattle.ecs_model.specs.steps.Outcomes.{counted, is_spent}
use Rattle.ecs_model.specs.Cleanup.{falling, falls_by}
use Rattle.ecs_model.specs.Map.{IsMap, Map, count_at, has_key, keys, value_at, without}
use Rattle.ecs_model.specs.Reach.{Reached, itself, onward}
use Rattle.ecs_model.specs.Refusal.{first_reason}
use Rattle.ecs_model.specs.Schema.{Schema, zeros, all_fit}
use Rattle.ecs_model.specs.Sets.{Set}
use Rattle.ecs_model.specs.World.{WorldState, Key, key_cmp, key_eq, entities, ids_of, is_alive, is_built_in, is_live, new_value, pair_is_tag, type_of_id, value_of}
use Rattle.ecs_model.specs.steps.FactChanges.{deleted, is_forbidden, mentions_gone, facts_after_delete}
use Rattle.ecs_model.specs.steps.Step.{Delete, delete_reasons, is_pinned, reasons, without_entities}
use Rattle.ecs_model.specs.steps.WellFormed.{IsWellFormed}
use Rattle.ecs_model.proofs.Maps.{both_true, key_cmp_total, less}
use Rattle.ecs_model.proofs.Members.{filtered}
use Rattle.ecs_model.proofs.Reasons.{neither, passed}
use Rattle.ecs_model.proofs.Removals.{IsMap-without, value_at-without}
use Rattle.ecs_model.proofs.steps.AddedSets.{from_map, in_map}
use Rattle.ecs_model.proofs.steps.DeletedSets.{deleted_reached, may_go}
use Rattle.ecs_model.proofs.steps.Deletions.{MayGo, counted_up, deletion_keeps, nat_IsMap-without, nat_value_at-without, was_there}
use Rattle.ecs_model.proofs.steps.Differences.{keys-without}
use Rattle.ecs_model.proofs.steps.Facts.{key_there, listed_live, there_key}
use Rattle.ecs_model.proofs.steps.LivingIds.{all_pass, refuted}
use Rattle.ecs_model.proofs.steps.SameKeys.{IsMap-within}
use Rattle.ecs_archetypes.specs.FactChanges.{changed_cells, coming_to, goes_from, with_facts_changed}
use Rattle.ecs_table.specs.Archetype.{Cells}
use Rattle.ecs_archetypes.specs.Holdings.{AreHoldings, HoldAlike, Holdings, KeepsSizes, bytes_at, cells_at, holds_id, is_settled, lives, without_entity}
use Rattle.ecs_archetypes.specs.Moves.{are_apart, are_deletable, without_each}
use Rattle.ecs_archetypes.proofs.FactReads.{bytes_changed, cells_changed}
use Rattle.ecs_archetypes.proofs.MapLists.{eq_tells}
use Rattle.rel_traits.specs.Deletions.{is_lost}
use Rattle.name_index.specs.Names.{IsOneToOne, Names}
use Rattle.rel_traits.specs.PinCounts.{Counts}
use Rattle.ecs_world.specs.Changes.{entities_at}
use Rattle.ecs_world.specs.Releases.{indexes_of, mentions_one}
use Rattle.ecs_world.specs.State.{IsWorld, Parts, all_facts, byte_count, is_known_rightly, name_in, names_of, parts_of, state_of, type_of, value_in}
use Rattle.ecs_world.proofs.Entities.{alive_of, generation_of}
use Rattle.ecs_world.proofs.Facts.{IsMap-facts, bytes_in, find-facts, same_facts}
use Rattle.ecs_world.proofs.NameLists.{IsMap-names, and_then, name_kept, names_at, same_names}
use Rattle.ecs_world.proofs.States.{AreCells-whole, AreNamed-world, all_implied, holds_is, settled_at, state_alike, value_is, world_alike}

-- a world is well formed before it is counted
pub still_sound : (w : WorldState) → IsWellFormed (counted w) → IsWellFormed w
still_sound w h = record {
  in_order = record {
    live = (h.in_order).live;
    facts = (h.in_order).facts;
    names = (h.in_order).names;
    schemas = (h.in_order).schemas;
    deletions = (h.in_order).deletions;
    pins = (h.in_order).pins;
  };
  indexes = record { given_out = (h.indexes).given_out; generation = (h.indexes).generation };
  built_in = record { live = (h.built_in).live; names = (h.built_in).names; facts = (h.built_in).facts; schemas = (h.built_in).schemas };
  live = record { names = (h.live).names; names_differ = (h.live).names_differ; schemas = (h.live).schemas; pins = (h.live).pins; facts = (h.live).facts };
  typed = λ e i. typed e i;
  few_ids = h.few_ids;
  counted = omega (arith, h.counted);
  traits = record { one_target = (h.traits).one_target; mirrored = (h.traits).mirrored; traversable_acyclic = (h.traits).traversable_acyclic; no_cycle = (h.traits).no_cycle };
}
  where
    types : (i : Id) → type_of_id (counted w) i ≡ type_of_id w i
    types (plain c) = refl
    types (pair r t) = refl

    typed : (e : ℕ) (i : Id) → IfSome (value_of w e i) (λ v. (length v ≡ length (new_value w i)) × IsTrue (option_map_or (λ fs. all_fit fs v) (type_of_id w i) true))
    typed e i = subst (λ o. IfSome (value_of w e i) (λ v. (length v ≡ length (option_map_or zeros o [])) × IsTrue (option_map_or (λ fs. all_fit fs v) o true))) (types i) (h.typed e i)

module _ {K X : Type 0} (R : K → K → Ordering) where
  pub without_none : (m : Map K X) → without R m (λ k. false) ≡ m
  without_none [] = refl
  without_none (e ∷ es) = ap (λ l. e ∷ l) (without_none es)

  pub without_twice : (m : Map K X) (p q : K → Bool) → without R (without R m p) q ≡ without R m (λ k. p k || q k)
  without_twice [] p q = refl
  without_twice (e ∷ es) p q = by (p e.0) (without_twice es p q)
    where
      by : (b : Bool) → without R (without R es p) q ≡ without R es (λ k. p k || q k)
          → without R (cond (not b) (e ∷ without R es p) (without R es p)) q ≡ cond (not (b || q e.0)) (e ∷ without R es (λ k. p k || q k)) (without R es (λ k. p k || q k))
      by true rest = rest
      by false rest = ap (λ l. cond (not (q e.0)) (e ∷ l) l) rest

  keys_left : (m : Map K X) (p : K → Bool) → keys (without R m p) ≡ filter (λ k. not (p k)) (keys m)
  keys_left [] p = refl
  keys_left (e ∷ es) p = by (p e.0) (keys_left es p)
    where
      by : (b : Bool) → keys (without R es p) ≡ filter (λ k. not (p k)) (keys es)
          → keys (cond (not b) (e ∷ without R es p) (without R es p)) ≡ cond (not b) (e.0 ∷ filter (λ k. not (p k)) (keys es)) (filter (λ k. not (p k)) (keys es))
      by true rest = rest
      by false rest = ap (λ ks. e.0 ∷ ks) rest

  all_less : (k : K) (m : Map K X) → below_all R k m ≡ true → AllByRecursion (λ y. R k y ≡ Less) (keys m)
  all_less k [] h = tt
  all_less k (e ∷ es) h = let parts = both_true (is_lt (R k e.0)) (below_all R k es) h in (less (R k e.0) parts.0, all_less k es parts.1)

  -- the keys of a map rise
  pub keys_rise : (m : Map K X) → IsMap R m → IsStrictlySortedBy R (keys m)
  unfolding IsStrictlySortedBy
  keys_rise [] h = tt
  keys_rise (e ∷ es) h = let parts = both_true (below_all R e.0 es) (is_sorted R es) h in (all_less e.0 es parts.0, keys_rise es parts.1)

pub none_rise : IsStrictlySortedBy key_cmp []
unfolding IsStrictlySortedBy
none_rise = tt

-- whether a number is one of these
abbrev pub among : List ℕ → ℕ → Bool
among is k = list_any (λ x. k == x) is

key_among : {X : Type 0} (m : Map ℕ X) (k : ℕ) → has_key nat_cmp m k ≡ among (keys m) k
key_among m k = is_some-find nat_cmp k m ∙ (λ j. list_any (λ x. eq_tells k x j) (keys m))

-- entities with these indexes, each with its generation
module _ (f : ℕ → ℕ) where
  abbrev pub entity : ℕ → EntityId
  entity i = record { index = i; generation = f i }

  live_left : (is : List ℕ) (h : Holdings) → (without_each (map entity is) h).live ≡ without nat_cmp h.live (among is)
  live_left [] h = sym (without_none nat_cmp h.live)
  live_left (i ∷ is) h = live_left is (without_entity h i) ∙ without_twice nat_cmp h.live (λ k. k == i) (among is)

  cells_left : (is : List ℕ) (h : Holdings) → (without_each (map entity is) h).cells ≡ without nat_cmp h.cells (among is)
  cells_left [] h = sym (without_none nat_cmp h.cells)
  cells_left (i ∷ is) h = cells_left is (without_entity h i) ∙ without_twice nat_cmp h.cells (λ k. k == i) (among is)

  deletions_left : (is : List ℕ) (h : Holdings) → (without_each (map entity is) h).deletions ≡ counted_up h.deletions is
  deletions_left [] h = refl
  deletions_left (i ∷ is) h = deletions_left is (without_entity h i)

  above : (x y : ℕ) → is_lt (nat_cmp x y) ≡ true → (y == x) ≡ false
  above x y h = grind (arith, nat_tests)

  others : (i : ℕ) (s : Set ℕ) → below_all nat_cmp i s ≡ true → list_all (λ d. not (d.index == i)) (map entity (keys s)) ≡ true
  others i [] h = refl
  others i (e ∷ es) h =
      let parts = both_true (is_lt (nat_cmp i e.0)) (below_all nat_cmp i es) h in
      let first = above i e.0 parts.0 in
      let rest = others i es parts.1 in
      λ k. not (first k) && rest k

  -- no two members of a set have one index
  apart : (s : Set ℕ) → IsMap nat_cmp s → are_apart (map entity (keys s)) ≡ true
  apart [] h = refl
  apart (e ∷ es) h =
      let parts = both_true (below_all nat_cmp e.0 es) (is_sorted nat_cmp es) h in
      let first = others e.0 es parts.0 in
      let rest = apart es parts.1 in
      λ k. first k && rest k

  indexes_back : (is : List ℕ) → indexes_of (map entity is) ≡ is
  indexes_back [] = refl
  indexes_back (i ∷ is) = ap (λ xs. i ∷ xs) (indexes_back is)

  any_entity : (is : List ℕ) (i : ℕ) → list_any (λ e. e.index == i) (map entity is) ≡ among is i
  any_entity [] i = refl
  any_entity (x ∷ is) i = let first = flipped x i in let rest = any_entity is i in λ k. first k || rest k
    where
      flipped : (x y : ℕ) → (x == y) ≡ (y == x)
      flipped x y = grind (arith, nat_tests)

-- live entities by their indexes
listed_entities : (w : WorldState) (is : List ℕ) → list_all (is_live w) is ≡ true → entities_at w is ≡ map (entity (count_at w.live)) is
listed_entities w [] all = refl
listed_entities w (i ∷ is) all = let parts = both_true (is_live w i) (list_all (is_live w) is) all in by (value_at nat_cmp w.live i) parts.0 (listed_entities w is parts.1)
  where
    by : (o : Option ℕ) → is_some o ≡ true → entities_at w is ≡ map (entity (count_at w.live)) is
        → cons_option (option_map (λ g. record { index = i; generation = g }) o) (entities_at w is) ≡ record { index = i; generation = unwrap_or o 0 } ∷ map (entity (count_at w.live)) is
    by None s rest = absurd (true≢false (sym s))
    by (Some g) s rest = ap (λ (es : List EntityId). record { index = i; generation = g } ∷ es) rest

-- of the held facts that pass a test, which are listed
listed_passes : (m : Map Key (List ℤ)) (q : Key → Bool) (k : Key) → has_key key_cmp m k ≡ true → list_any (key_eq k) (filter q (keys m)) ≡ q k
listed_passes m q k there =
    ap (list_any (key_eq k)) (sym (keys-without key_cmp m q)) ∙ sym (is_some-find key_cmp k (without key_cmp m (λ k. not (q k)))) ∙ ap is_some (value_at-without m (λ k. not (q k)) k)
    ∙ by (q k) (value_at key_cmp m k) there
  where
    by : (b : Bool) (o : Option (List ℤ)) → is_some o ≡ true → is_some (cond (not (not b)) o None) ≡ b
    by true o s = s
    by false o s = refl

module _ {parts : Parts} (world : IsWorld parts) (e : EntityId) (none : first_reason (reasons (state_of parts) (Delete e)) ≡ None) where
  abbrev h : Holdings
  h = parts.holdings

  abbrev names : Names
  names = parts.names

  abbrev schemas : Map ℕ Schema
  schemas = parts.schemas

  abbrev pins : Counts
  pins = parts.pins

  abbrev accepted : ℕ
  accepted = parts.accepted

  abbrev w : WorldState
  w = state_of parts

  abbrev pub gone : Set ℕ
  gone = deleted w e.index

  abbrev pub indexes : List ℕ
  indexes = keys gone

  abbrev pub lost : List Key
  lost = filter (is_lost w e.index) (keys w.facts)

  abbrev is_gone : ℕ → Bool
  is_gone = has_key nat_cmp gone

  judged : (is_alive w e ≡ true) × (is_built_in e.index ≡ false) × (list_any (is_pinned w) (keys gone) ≡ false) × (is_spent w ≡ false)
  unfolding reasons
  judged =
      let live = passed (not (is_alive w e)) Dead ((is_built_in e.index, BuiltIn) ∷ delete_reasons w gone) none in
      let own = passed (is_built_in e.index) BuiltIn (delete_reasons w gone) live.1 in
      let free = passed (list_any (is_pinned w) (keys gone)) InUse ((is_forbidden w gone, Panic) ∷ (is_spent w, Full) ∷ []) own.1 in
      let calm = passed (is_forbidden w gone) Panic ((is_spent w, Full) ∷ []) free.1 in
      (turned (is_alive w e) live.0, own.0, free.0, (passed (is_spent w) Full [] calm.1).0)
    where
      turned : (b : Bool) → not b ≡ false → b ≡ true
      turned true h = refl
      turned false h = absurd (true≢false h)

  may : MayGo w gone
  may = may_go w world.sound e.index judged.1 judged.2

  first_lives : is_live w e.index ≡ true
  first_lives = ap is_some (generation_of (value_at nat_cmp w.live e.index) e.generation judged.0)

  reached_lives : {y : ℕ} → Reached (falling (ids_of w) (entities w)) e.index y → is_live w y ≡ true
  reached_lives itself = first_lives
  reached_lives (onward {y = y} {z = z} r c) = listed_live w z ((filtered (λ x. list_any (falls_by (ids_of w) y) (ids_of w x)) (entities w) z).0 c).0

  gone_lives : (i : ℕ) → is_gone i ≡ true → is_live w i ≡ true
  gone_lives i g = reached_lives (deleted_reached w e.index i g)

  gone_is : (i : ℕ) → is_gone i ≡ among indexes i
  gone_is i = key_among gone i

  gone_rises : IsMap nat_cmp gone
  unfolding deleted
  gone_rises = IsMap-within nat_cmp nat_cmp_total (falling (ids_of w) (entities w)) (length (entities w)) e.index

  pub dead_are : entities_at w indexes ≡ map (entity (count_at h.live)) indexes
  dead_are = listed_entities w indexes (all_pass (is_live w) indexes (λ i c. gone_lives i (there_key nat_cmp nat_cmp_total gone i c)))

  -- what has to be shown before the facts are changed
  pub lost_rise : IsStrictlySortedBy key_cmp lost
  lost_rise = IsStrictlySortedBy-filter key_cmp (is_lost w e.index) (keys w.facts) (keys_rise key_cmp w.facts ((world.sound).in_order).facts)

  pub lost_settled : list_all (λ k. is_some (cells_at h k.0)) lost ≡ true
  lost_settled =
      all_pass (λ k. is_some (cells_at h k.0)) lost
      (λ k c.
      let held = there_key key_cmp key_cmp_total w.facts k ((filtered (is_lost w e.index) (keys w.facts) k).0 c).0 in
      ap is_some (settled_at world k.0 (((world.sound).live).facts k.0 k.1 held).0).1)

  pub dead_deletable : are_deletable h (entities_at w indexes) ≡ true
  dead_deletable =
      let each = all_pass (λ d. is_settled h d && not (is_built_in d.index)) (map (entity (count_at h.live)) indexes)
      (λ d c. let i = from_map (entity (count_at h.live)) indexes d c in subst (λ d. (is_settled h d && not (is_built_in d.index)) ≡ true) i.2 (deletable i.0 (there_key nat_cmp nat_cmp_total gone i.0 i.1))) in
      let once = apart (count_at h.live) gone gone_rises in
      ap (are_deletable h) dead_are ∙ (λ k. each k && once k)
    where
      alive : (o : Option ℕ) → is_some o ≡ true → option_eq ◌==◌ o (Some (unwrap_or o 0)) ≡ true
      alive None s = absurd (true≢false (sym s))
      alive (Some g) s = (Decides-eqb g g).1 refl

      deletable : (i : ℕ) → is_gone i ≡ true → (is_settled h (entity (count_at h.live) i) && not (is_built_in i)) ≡ true
      deletable i g =
          let live = gone_lives i g in
          let settled = ap is_some (settled_at world i live).1 in
          let own = may.own i g in
          λ k. (alive (value_at nat_cmp h.live i) live k && settled k) && not (own k)

  -- the holdings after the lost facts have gone, and then the dead
  abbrev changed : Holdings
  changed = with_facts_changed [] lost h

  abbrev pub left : Holdings
  left = without_each (entities_at w indexes) changed

  lost_there : (d : ℕ) (j : Id) → holds_id h d j ≡ true → is_gone d ≡ false → list_any (key_eq (d, j)) lost ≡ mentions_gone w gone (d, j)
  lost_there d j held stays =
      listed_passes w.facts (is_lost w e.index) (d, j) (holds_is world d j ∙ held) ∙ ap (λ b. not b && mentions_gone w gone (d, j)) stays

  bytes_changed_there : (d : ℕ) (j : Id) → is_gone d ≡ false → bytes_in changed.cells d j ≡ cond (not (mentions_gone w gone (d, j))) (bytes_in h.cells d j) None
  bytes_changed_there d j stays = by (cells_at h d) refl
    where
      unheld : (b : Bool) (o : Option (List ℕ)) → o ≡ None → None ≡ cond (not b) o None
      unheld true o n = refl
      unheld false o n = sym n

      goes : (o : Option (List ℕ)) → bytes_at h d j ≡ o → cond (not (list_any (key_eq (d, j)) lost)) o None ≡ cond (not (mentions_gone w gone (d, j))) o None
      goes None p = sym (unheld (list_any (key_eq (d, j)) lost) None refl) ∙ unheld (mentions_gone w gone (d, j)) None refl
      goes (Some bs) p = ap (λ b. cond (not b) (Some bs) None) (lost_there d j (ap is_some p) stays)

      by : (o : Option Cells) → cells_at h d ≡ o → bytes_in changed.cells d j ≡ cond (not (mentions_gone w gone (d, j))) (bytes_in h.cells d j) None
      by None p =
          ap (λ o. value_at id_cmp (unwrap_or o []) j) (cells_changed [] lost h d ∙ ap (option_map _) p)
          ∙ unheld (mentions_gone w gone (d, j)) (bytes_in h.cells d j) (ap (λ o. value_at id_cmp (unwrap_or o []) j) p)
      by (Some cells) p = bytes_changed [] lost h d j cells p none_rise ∙ goes (bytes_at h d j) refl

  bytes_gone : (b : Bool) (o : Option Cells) (j : Id) → b ≡ true → value_at id_cmp (unwrap_or (cond (not b) o None) []) j ≡ None
  bytes_gone true o j g = refl
  bytes_gone false o j g = absurd (true≢false (sym g))

  module _ (h' : Holdings) (whole' : AreHoldings h') (alike : HoldAlike h' left) where
    live_is : h'.live ≡ without nat_cmp h.live (among indexes)
    live_is = alike.live ∙ ap (λ es. (without_each es changed).live) dead_are ∙ live_left (count_at h.live) indexes changed

    cells_are : h'.cells ≡ without nat_cmp changed.cells (among indexes)
    cells_are = alike.cells ∙ ap (λ es. (without_each es changed).cells) dead_are ∙ cells_left (count_at h.live) indexes changed

    deletions_are : h'.deletions ≡ counted_up h.deletions indexes
    deletions_are = alike.deletions ∙ ap (λ es. (without_each es changed).deletions) dead_are ∙ deletions_left (count_at h.live) indexes changed

    live_at : (i : ℕ) → value_at nat_cmp h'.live i ≡ cond (not (is_gone i)) (value_at nat_cmp h.live i) None
    live_at i = ap (λ m. value_at nat_cmp m i) live_is ∙ nat_value_at-without h.live (among indexes) i ∙ ap (λ b. cond (not b) (value_at nat_cmp h.live i) None) (sym (gone_is i))

    still_lives : (i : ℕ) → is_gone i ≡ false → has_key nat_cmp h'.live i ≡ has_key nat_cmp h.live i
    still_lives i stays = ap is_some (live_at i ∙ ap (λ b. cond (not b) (value_at nat_cmp h.live i) None) stays)

    -- the bytes of a fact stay where it mentions none of the dead
    bytes_left : (d : ℕ) (j : Id) → bytes_in h'.cells d j ≡ cond (not (mentions_gone w gone (d, j))) (bytes_in h.cells d j) None
    bytes_left d j =
        ap (λ o. value_at id_cmp (unwrap_or o []) j)
        (ap (λ m. value_at nat_cmp m d) cells_are ∙ nat_value_at-without changed.cells (among indexes) d ∙ ap (λ b. cond (not b) (value_at nat_cmp changed.cells d) None) (sym (gone_is d)))
        ∙ by (is_gone d) refl
      where
        by : (b : Bool) → is_gone d ≡ b
            → value_at id_cmp (unwrap_or (cond (not b) (value_at nat_cmp changed.cells d) None) []) j ≡ cond (not (mentions_gone w gone (d, j))) (bytes_in h.cells d j) None
        by true g = ap (λ b. cond (not (b || list_any is_gone (mentioned j))) (bytes_in h.cells d j) None) (sym g)
        by false g = bytes_changed_there d j g

    mentions_is : (i : Id) → mentions_one indexes i ≡ list_any is_gone (mentioned i)
    mentions_is i = λ k. list_any (λ x. sym (gone_is x) k) (mentioned i)

    -- who is left holds no id that mentions one of the dead
    pub none_mentioned : (d : ℕ) (i : Id) → mentions_one indexes i ≡ true → holds_id h' d i ≡ false
    none_mentioned d i m = ap is_some (bytes_left d i) ∙ by (is_gone d) (list_any is_gone (mentioned i)) (sym (mentions_is i) ∙ m)
      where
        by : (a b : Bool) → b ≡ true → is_some (cond (not (a || b)) (bytes_in h.cells d i) None) ≡ false
        by true b t = refl
        by false true t = refl
        by false false t = absurd (true≢false (sym t))

    settled_left : keys h'.cells ≡ keys h'.live
    settled_left =
        ap keys cells_are ∙ keys_left nat_cmp changed.cells (among indexes) ∙ ap (filter (λ k. not (among indexes k))) (keys_changed h.cells ∙ world.settled)
        ∙ sym (keys_left nat_cmp h.live (among indexes)) ∙ sym (ap keys live_is)
      where
        keys_changed : (m : Map ℕ Cells) → keys (map (λ c. (c.0, changed_cells (coming_to c.0 []) (goes_from c.0 lost) c.1)) m) ≡ keys m
        keys_changed [] = refl
        keys_changed (c ∷ m) = ap (λ ks. c.0 ∷ ks) (keys_changed m)

    module _ (schemas' : Map ℕ Schema) (fields : schemas' ≡ without nat_cmp schemas (λ i. list_any (λ e. e.index == i) (entities_at w indexes))) where
      schemas_are : schemas' ≡ without nat_cmp schemas is_gone
      schemas_are =
          fields ∙ ap (λ es. without nat_cmp schemas (λ i. list_any (λ e. e.index == i) es)) dead_are
          ∙ (λ k. without nat_cmp schemas (λ i. (any_entity (count_at h.live) indexes i ∙ sym (gone_is i)) k))

      schema_left : (c : ℕ) → is_gone c ≡ false → value_at nat_cmp schemas' c ≡ value_at nat_cmp schemas c
      schema_left c stays = ap (λ m. value_at nat_cmp m c) schemas_are ∙ nat_value_at-without schemas is_gone c ∙ ap (λ b. cond (not b) (value_at nat_cmp schemas c) None) stays

      tag_left : (r : ℕ) → is_gone r ≡ false → holds_id h' r (plain pair_is_tag) ≡ holds_id h r (plain pair_is_tag)
      tag_left r stays =
          let own = refuted (is_gone pair_is_tag) (λ g. true≢false (may.own pair_is_tag g)) in
          ap is_some (bytes_left r (plain pair_is_tag) ∙ (λ k. cond (not (stays k || (own k || false))) (bytes_in h.cells r (plain pair_is_tag)) None))

      -- an id that mentions none of the dead keeps its type
      types_left : (i : Id) → list_any is_gone (mentioned i) ≡ false → type_of h' schemas' i ≡ type_of h schemas i
      types_left (plain c) stays = schema_left c (neither (is_gone c) false stays).0
      types_left (pair r t) stays =
          let first = neither (is_gone r) (is_gone t || false) stays in
          let second = neither (is_gone t) false first.1 in
          λ k. if tag_left r first.0 k then None else option_or (schema_left r first.0 k) (schema_left t second.0 k)

      facts_left : all_facts (type_of h' schemas') h'.cells ≡ without key_cmp w.facts (mentions_gone w gone)
      facts_left =
          let cells' = AreCells-whole h' whole' in
          same_facts (all_facts (type_of h' schemas') h'.cells) (without key_cmp w.facts (mentions_gone w gone)) (IsMap-facts (type_of h' schemas') h'.cells cells'.in_order cells'.rise)
          (IsMap-without w.facts (mentions_gone w gone) ((world.sound).in_order).facts)
          (λ q. find-facts (type_of h' schemas') q.0 q.1 h'.cells cells'.in_order ∙ ap (option_map (value_in (type_of h' schemas' q.1))) (bytes_left q.0 q.1)
          ∙ by q (mentions_gone w gone q) refl ∙ sym (value_at-without w.facts (mentions_gone w gone) q))
        where
          by : (q : Key) (b : Bool) → mentions_gone w gone q ≡ b
              → option_map (value_in (type_of h' schemas' q.1)) (cond (not b) (bytes_in h.cells q.0 q.1) None) ≡ cond (not b) (value_at key_cmp w.facts q) None
          by q true g = refl
          by q false g =
              ap (λ t. option_map (value_in t) (bytes_in h.cells q.0 q.1)) (types_left q.1 (neither (is_gone q.0) (list_any is_gone (mentioned q.1)) g).1) ∙ sym (value_is world q.0 q.1)

      -- what was known rightly is so after, unless it mentions one of the dead
      known_left : list_all (λ c. mentions_one indexes c.0 || is_known_rightly h' schemas' c) h.known ≡ true
      known_left = all_implied (is_known_rightly h schemas) (λ c. mentions_one indexes c.0 || is_known_rightly h' schemas' c) (λ c right. by c (mentions_one indexes c.0) refl right) h.known world.known
        where
          all_live : (is : List ℕ) → list_any is_gone is ≡ false → list_all (has_key nat_cmp h.live) is ≡ true → list_all (has_key nat_cmp h'.live) is ≡ true
          all_live [] stay live = refl
          all_live (i ∷ is) stay live =
              let none = neither (is_gone i) (list_any is_gone is) stay in
              let lives = both_true (has_key nat_cmp h.live i) (list_all (has_key nat_cmp h.live) is) live in
              λ k. (still_lives i none.0 ∙ lives.0) k && all_live is none.1 lives.1 k

          by : (c : Id × ℕ) (b : Bool) → mentions_one indexes c.0 ≡ b → is_known_rightly h schemas c ≡ true → (b || is_known_rightly h' schemas' c) ≡ true
          by c true m right = refl
          by c false m right =
              let stay = sym (mentions_is c.0) ∙ m in
              let parts = both_true (c.1 == byte_count (type_of h schemas c.0)) (list_all (has_key nat_cmp h.live) (mentioned c.0)) right in
              let sized = ap (λ t. c.1 == byte_count t) (types_left c.0 stay) ∙ parts.0 in
              let live = all_live (mentioned c.0) stay parts.1 in
              λ k. sized k && live k

      module _ (names' : Names) (names_are : (n : List ℕ) (f : EntityId) → (finite.get names' n ≡ Some f) ↔ ((finite.get names n ≡ Some f) × (Contains (entities_at w indexes) f → ⊥))) where
        one' : IsOneToOne names'
        one' m n f p q = world.one_to_one m n f ((names_are m f).0 p).0 ((names_are n f).0 q).0

        -- whoever lives and goes is among the dead
        is_dead : (i g : ℕ) → value_at nat_cmp h.live i ≡ Some g → is_gone i ≡ true → Contains (entities_at w indexes) (record { index = i; generation = g })
        is_dead i g lives goes =
            let f : EntityId = record { index = i; generation = g } in
            let same : entity (count_at h.live) i ≡ f = ap (λ o. record { index = i; generation = unwrap_or o 0 }) lives in
            subst (λ es. Contains es f) (sym dead_are)
            (subst (Contains (map (entity (count_at h.live)) indexes)) same (in_map (entity (count_at h.live)) indexes i (key_there nat_cmp nat_cmp-IsAntisymmetric gone i goes)))

        dead_go : (f : EntityId) → Contains (entities_at w indexes) f → is_gone f.index ≡ true
        dead_go f c =
            let i = from_map (entity (count_at h.live)) indexes f (subst (λ es. Contains es f) dead_are c) in
            ap is_gone (sym (ap (λ (f : EntityId). f.index) i.2)) ∙ there_key nat_cmp nat_cmp_total gone i.0 i.1

        alive' : (n : List ℕ) (f : EntityId) → finite.get names' n ≡ Some f → value_at nat_cmp h'.live f.index ≡ Some f.generation
        alive' n f p =
            let old = (names_are n f).0 p in
            let lives = (AreNamed-world world).named n f old.0 in
            live_at f.index ∙ ap (λ b. cond (not b) (value_at nat_cmp h.live f.index) None) (refuted (is_gone f.index) (λ g. old.1 (is_dead f.index f.generation lives g))) ∙ lives

        names_left : names_of names' h'.live ≡ without nat_cmp w.names is_gone
        names_left =
            same_names (names_of names' h'.live) (without nat_cmp w.names is_gone) (IsMap-names names' h'.live whole'.live) (nat_IsMap-without w.names is_gone ((world.sound).in_order).names)
            (λ i. names_at names' h'.live i whole'.live ∙ ap (λ o. and_then o (λ g. name_in names' (record { index = i; generation = g }))) (live_at i)
            ∙ by i (is_gone i) refl (value_at nat_cmp h.live i) refl ∙ sym (nat_value_at-without w.names is_gone i))
          where
            was : (i : ℕ) (o : Option ℕ) → value_at nat_cmp h.live i ≡ o → value_at nat_cmp w.names i ≡ and_then o (λ g. name_in names (record { index = i; generation = g }))
            was i o p = names_at names h.live i (world.whole).live ∙ ap (λ o. and_then o (λ g. name_in names (record { index = i; generation = g }))) p

            by : (i : ℕ) (b : Bool) → is_gone i ≡ b → (o : Option ℕ) → value_at nat_cmp h.live i ≡ o
                → and_then (cond (not b) o None) (λ g. name_in names' (record { index = i; generation = g })) ≡ cond (not b) (value_at nat_cmp w.names i) None
            by i true goes o p = refl
            by i false stays None p = sym (was i None p)
            by i false stays (Some g) p =
                let f : EntityId = record { index = i; generation = g } in
                name_kept names names' world.one_to_one one' f
                (λ n. (λ q. ((names_are n f).0 q).0, λ q. (names_are n f).1 (q, λ c. true≢false (sym (dead_go f c) ∙ stays))))
                ∙ sym (was i (Some g) p)

        state_left : state_of (parts_of h' names' schemas' pins accepted) ≡ without_entities w gone
        unfolding without_entities facts_after_delete
        state_left = λ k. record {
          live = (live_is ∙ (λ j. without nat_cmp h.live (λ i. sym (gone_is i) j))) k;
          facts = facts_left k;
          names = names_left k;
          schemas = schemas_are k;
          deletions = deletions_are k;
          pins = pins.entries;
          accepted = accepted;
        }

        -- the world without the dead
        pub buried : ((test : Id × ℕ → Bool) → list_all (λ c. mentions_one indexes c.0 || test c) h.known ≡ true → list_all test h'.known ≡ true)
            → IsWorld (parts_of h' names' schemas' pins accepted) × (state_of (parts_of h' names' schemas' pins accepted) ≡ without_entities w gone)
        buried released = (
          record {
            whole = whole';
            sound = subst IsWellFormed (sym state_left) (still_sound (without_entities w gone) (deletion_keeps w gone world.sound may judged.3));
            settled = settled_left;
            known = released (is_known_rightly h' schemas') known_left;
            named = λ n f p. alive_of (value_at nat_cmp h'.live f.index) f.generation (alive' n f p);
            one_to_one = one';
            covered = λ i l. world.covered i (was_there (is_gone i) (value_at nat_cmp h'.live i) (value_at nat_cmp h.live i) (live_at i) l).1;
          },
          state_left,
        )

-- the same, by what the calls were given
module _ {parts : Parts} (world : IsWorld parts) {v : WorldState} (is : state_of parts ≡ v) where
  pub unburied : (h' : Holdings) → AreHoldings h' → HoldAlike h' parts.holdings → KeepsSizes (parts.holdings).known [] h'.known
      → IsWorld (parts_of h' parts.names parts.schemas parts.pins parts.accepted) × (state_of (parts_of h' parts.names parts.schemas parts.pins parts.accepted) ≡ v)
  unburied h' whole' alike keeps = (
    world_alike h' parts.holdings parts.names parts.schemas parts.pins parts.accepted [] world whole' alike keeps refl,
    state_alike h' parts.holdings parts.names parts.schemas parts.pins parts.accepted alike ∙ is,
  )

  module _ (e : EntityId) (judged : first_reason (reasons v (Delete e)) ≡ None) (losing : List Key) (lost_at : losing ≡ filter (is_lost v e.index) (keys v.facts))
      (dead : List EntityId) (listed : dead ≡ entities_at v (keys (deleted v e.index))) where
    none_against : first_reason (reasons (state_of parts) (Delete e)) ≡ None
    none_against = subst (λ u. first_reason (reasons u (Delete e)) ≡ None) (sym is) judged

    ids_are : keys (deleted v e.index) ≡ keys (deleted (state_of parts) e.index)
    ids_are = ap (λ u. keys (deleted u e.index)) (sym is)

    losing_are : losing ≡ lost world e none_against
    losing_are = lost_at ∙ ap (λ u. filter (is_lost u e.index) (keys u.facts)) (sym is)

    dead_listed : dead ≡ entities_at (state_of parts) (keys (deleted (state_of parts) e.index))
    dead_listed = listed ∙ (λ k. entities_at (sym is k) (ids_are k))

    dead_indexes : indexes_of dead ≡ keys (deleted (state_of parts) e.index)
    dead_indexes = ap indexes_of (dead_listed ∙ dead_are world e none_against) ∙ indexes_back (count_at (parts.holdings).live) (keys (deleted (state_of parts) e.index))

    pub indexes_are : indexes_of dead ≡ keys (deleted v e.index)
    indexes_are = dead_indexes ∙ sym ids_are

    pub losing_rise : IsStrictlySortedBy key_cmp losing
    losing_rise = subst (IsStrictlySortedBy key_cmp) (sym losing_are) (lost_rise world e none_against)

    pub losing_settled : list_all (λ k. is_some (cells_at parts.holdings k.0)) losing ≡ true
    losing_settled = subst (λ ks. list_all (λ k. is_some (cells_at parts.holdings k.0)) ks ≡ true) (sym losing_are) (lost_settled world e none_against)

    pub dead_can_go : are_deletable parts.holdings dead ≡ true
    dead_can_go = subst (λ es. are_deletable parts.holdings es ≡ true) (sym dead_listed) (dead_deletable world e none_against)

    module _ (h' : Holdings) (whole' : AreHoldings h') (alike : HoldAlike h' (without_each dead (with_facts_changed [] losing parts.holdings))) where
      alike_left : HoldAlike h' (left world e none_against)
      alike_left =
          subst (λ es. HoldAlike h' (without_each es (with_facts_changed [] (lost world e none_against) parts.holdings))) dead_listed
          (subst (λ ks. HoldAlike h' (without_each dead (with_facts_changed [] ks parts.holdings))) losing_are alike)

      pub unheld : (d : ℕ) (i : Id) → mentions_one (indexes_of dead) i ≡ true → holds_id h' d i ≡ false
      unheld d i m = none_mentioned world e none_against h' whole' alike_left d i (ap (λ xs. mentions_one xs i) (sym dead_indexes) ∙ m)

      pub buried_is : (schemas' : Map ℕ Schema) → (IsMap nat_cmp parts.schemas → schemas' ≡ without nat_cmp parts.schemas (λ i. list_any (λ e. e.index == i) dead))
          → (names' : Names) → ((n : List ℕ) (f : EntityId) → (finite.get names' n ≡ Some f) ↔ ((finite.get parts.names n ≡ Some f) × (Contains dead f → ⊥)))
          → ((test : Id × ℕ → Bool) → list_all (λ c. mentions_one (indexes_of dead) c.0 || test c) (parts.holdings).known ≡ true → list_all test h'.known ≡ true)
          → IsWorld (parts_of h' names' schemas' parts.pins parts.accepted) × (state_of (parts_of h' names' schemas' parts.pins parts.accepted) ≡ without_entities v (deleted v e.index))
      buried_is schemas' fields names' names_are released =
          let done = buried world e none_against h' whole' alike_left schemas'
          (subst (λ es. schemas' ≡ without nat_cmp parts.schemas (λ i. list_any (λ e. e.index == i) es)) dead_listed (fields ((world.sound).in_order).schemas)) names'
          (subst (λ (es : List EntityId). (n : List ℕ) (f : EntityId) → (finite.get names' n ≡ Some f) ↔ ((finite.get parts.names n ≡ Some f) × (Contains es f → ⊥))) dead_listed names_are)
          (subst (λ xs. (test : Id × ℕ → Bool) → list_all (λ c. mentions_one xs c.0 || test c) (parts.holdings).known ≡ true → list_all test h'.known ≡ true) dead_indexes released) in
          (done.0, done.1 ∙ ap (λ u. without_entities u (deleted u e.index)) is)
