-- What is left of a world where facts have come and gone, each with the value that is read there.
use Rattle.std.proofs.Common.{◌≡◌, ℕ, ◌==◌, Bool, true, false, cond, not, List, [], ◌∷◌, map, if◌then◌else◌, refl, sym, ap, subst, ◌∙◌, true≢false}
use Rattle.std.specs.Prelude.{ℤ, Option, Some, None, option_map, unwrap_or, is_some}
use Rattle.std.specs.List.{AllByRecursion, list_all, list_any}
use Rattle.std.specs.List.Sorted.{IsStrictlySortedBy}
use Rattle.std.specs.Option.{option_eq, option_or}
use Rattle.std.specs.Ordering.{nat_cmp, is_lt}
use Rattle.std.specs.FinMap.{is_sorted}
use Rattle.std.specs.FinMap.Entries.{below_all}
use Rattle.std.specs.declared.cmp.Ordering.{Ordering}
use Rattle.std.specs.declared.cmp.Ordering.TheVariants.{Less, Equal, Greater}
pub use Rattle.id_pattern.proofs.Errors.{on_err as when_err}
use Rattle.ecs_id.specs.Id.{Id, plain, pair, id_cmp}
use Rattle.ecs_model.specs.steps.Outcomes.{with_facts}
use Rattle.ecs_model.specs.Map.{Map, IsMap, has_key, keys, value_at}
use Rattle.ecs_model.specs.Schema.{Schema}
use Rattle.ecs_model.specs.World.{WorldState, Key, key_cmp, key_eq, pair_is_tag, holds, type_of_id}
use Rattle.ecs_model.specs.steps.WellFormed.{IsWellFormed}
use Rattle.ecs_model.proofs.Maps.{both_true, key_cmp_same}
use Rattle.ecs_model.proofs.steps.Facts.{key_there}
use Rattle.ecs_model.proofs.steps.LivingIds.{each_passes}
use Rattle.name_index.specs.Names.{Names}
use Rattle.ecs_archetypes.specs.FactChanges.{Coming, changed_cells, coming_to, goes_from, with_facts_changed}
use Rattle.ecs_table.specs.Archetype.{Cells}
use Rattle.ecs_archetypes.specs.Holdings.{AreHoldings, HoldAlike, Holdings, bytes_at, cells_at, holds_id}
use Rattle.ecs_archetypes.proofs.FactReads.{bytes_changed, cells_changed, come_or}
use Rattle.rel_traits.specs.PinCounts.{Counts}
use Rattle.ecs_world.specs.State.{IsWorld, Parts, parts_of, all_facts, is_known_rightly, names_of, state_of, type_of, value_in}
use Rattle.ecs_world.proofs.Facts.{IsMap-facts, find-facts, same_facts}
use Rattle.ecs_world.proofs.States.{AreCells-whole}
pub use Rattle.ecs_world.proofs.DeletionEffects.{still_sound as before_count}

module _ {K : Type 0} (R : K → K → Ordering) where
  is_less : (o : Ordering) → is_lt o ≡ true → o ≡ Less
  is_less Less h = refl
  is_less Equal h = absurd (true≢false (sym h))
  is_less Greater h = absurd (true≢false (sym h))

  all_above : {X : Type 0} (k : K) (m : Map K X) → below_all R k m ≡ true → AllByRecursion (λ y. R k y ≡ Less) (keys m)
  all_above k [] h = tt
  all_above k (e ∷ es) h = let parts = both_true (is_lt (R k e.0)) (below_all R k es) h in (is_less (R k e.0) parts.0, all_above k es parts.1)

  -- the keys of a map strictly rise
  pub keys_rise : {X : Type 0} (m : Map K X) → IsMap R m → IsStrictlySortedBy R (keys m)
  unfolding IsStrictlySortedBy
  keys_rise [] h = tt
  keys_rise (e ∷ es) h = let parts = both_true (below_all R e.0 es) (is_sorted R es) h in (all_above e.0 es parts.0, keys_rise es parts.1)

-- ids have the types of a state with the same fields, in which the same relationships keep their pairs without data
pub types_are : (h : Holdings) (schemas : Map ℕ Schema) (v : WorldState) → v.schemas ≡ schemas → ((r : ℕ) → holds_id h r (plain pair_is_tag) ≡ holds v r (plain pair_is_tag))
    → (i : Id) → type_of h schemas i ≡ type_of_id v i
types_are h schemas v same tags (plain c) = ap (λ (s : Map ℕ Schema). value_at nat_cmp s c) (sym same)
types_are h schemas v same tags (pair r t) = λ k. if tags r k then None else option_or (value_at nat_cmp (sym same k) r) (value_at nat_cmp (sym same k) t)

-- the value of each fact is what the bytes there mean
abbrev pub AreRead : (Id → Option Schema) → Holdings → Map Key (List ℤ) → Type 0
AreRead types h facts = (e : ℕ) (i : Id) → value_at key_cmp facts (e, i) ≡ option_map (value_in (types i)) (bytes_at h e i)

-- so they are all facts of the holdings
pub facts_are : (types : Id → Option Schema) (h : Holdings) (facts : Map Key (List ℤ)) → AreHoldings h → IsMap key_cmp facts → AreRead types h facts → all_facts types h.cells ≡ facts
facts_are types h facts whole in_order read =
    same_facts (all_facts types h.cells) facts (IsMap-facts types h.cells whole.cells (AreCells-whole h whole).rise) in_order (λ q. find-facts types q.0 q.1 h.cells whole.cells ∙ sym (read q.0 q.1))

-- the state of parts, part by part
pub state_left : (p : Parts) (v : WorldState) → all_facts (type_of p.holdings p.schemas) (p.holdings).cells ≡ v.facts → (p.holdings).live ≡ v.live → names_of p.names (p.holdings).live ≡ v.names
    → p.schemas ≡ v.schemas → (p.holdings).deletions ≡ v.deletions → (p.pins).entries ≡ v.pins → p.accepted ≡ v.accepted → state_of p ≡ v
state_left p v facts live names schemas deletions pins accepted = λ k. record {
  live = live k;
  facts = facts k;
  names = names k;
  schemas = schemas k;
  deletions = deletions k;
  pins = pins k;
  accepted = accepted k;
}

none_of_none : {X : Type 0} (b : Bool) (o : Option X) → o ≡ None → cond b o None ≡ None
none_of_none true o absent = absent
none_of_none false o absent = refl

keys_mapped : {X Y : Type 0} (f : ℕ → X → Y) (m : Map ℕ X) → keys (map (λ c. (c.0, f c.0 c.1)) m) ≡ keys m
keys_mapped f [] = refl
keys_mapped f (c ∷ cs) = ap (λ ks. c.0 ∷ ks) (keys_mapped f cs)

module _ {parts : Parts} (world : IsWorld parts) (came : Coming) (went : List Key) (h' : Holdings) (alike : HoldAlike h' (with_facts_changed came went parts.holdings)) where
  abbrev h : Holdings
  h = parts.holdings

  abbrev names : Names
  names = parts.names

  abbrev schemas : Map ℕ Schema
  schemas = parts.schemas

  abbrev pins : Counts
  pins = parts.pins

  abbrev accepted : ℕ
  accepted = parts.accepted

  abbrev w : WorldState
  w = state_of parts

  absent_there : (e : ℕ) (i : Id) → list_all (λ k. is_some (cells_at h k.0)) (keys came) ≡ true → cells_at h e ≡ None → value_at key_cmp came (e, i) ≡ None
  absent_there e i settled absent = by (value_at key_cmp came (e, i)) refl
    where
      by : (o : Option ℕ) → value_at key_cmp came (e, i) ≡ o → o ≡ None
      by None p = refl
      by (Some n) p =
          let there = each_passes (λ (k : Key). is_some (cells_at h k.0)) (keys came) settled (e, i) (key_there key_cmp key_cmp_same came (e, i) (ap is_some p)) in
          absurd (true≢false (sym there ∙ ap is_some absent))

  -- what is read then: zeros if the fact comes, none if it goes, else what was there
  pub bytes_left : IsStrictlySortedBy key_cmp (keys came) → list_all (λ k. is_some (cells_at h k.0)) (keys came) ≡ true → (e : ℕ) (i : Id)
      → bytes_at h' e i ≡ come_or (value_at key_cmp came (e, i)) (cond (not (list_any (key_eq (e, i)) went)) (bytes_at h e i) None)
  bytes_left up settled e i = ap (λ cells. value_at id_cmp (unwrap_or (value_at nat_cmp cells e) []) i) alike.cells ∙ by (cells_at h e) refl
    where
      by : (o : Option Cells) → cells_at h e ≡ o
          → bytes_at (with_facts_changed came went h) e i ≡ come_or (value_at key_cmp came (e, i)) (cond (not (list_any (key_eq (e, i)) went)) (bytes_at h e i) None)
      by (Some cells) there = bytes_changed came went h e i cells there up
      by None absent =
          ap (λ o. value_at id_cmp (unwrap_or o []) i) (cells_changed came went h e ∙ ap (option_map (changed_cells (coming_to e came) (goes_from e went))) absent)
          ∙ sym (λ k. come_or (absent_there e i settled absent k) (none_of_none (not (list_any (key_eq (e, i)) went)) (bytes_at h e i) (ap (λ o. value_at id_cmp (unwrap_or o []) i) absent) k))

  -- the same entities are settled
  pub settled_left : keys h'.cells ≡ keys h'.live
  settled_left = ap keys alike.cells ∙ keys_mapped (λ e c. changed_cells (coming_to e came) (goes_from e went) c) h.cells ∙ world.settled ∙ ap keys (sym alike.live)

  module _ (facts : Map Key (List ℤ)) (whole : AreHoldings h') (sound : IsWellFormed (with_facts w facts)) (read : AreRead (type_of h' schemas) h' facts) where
    -- the world with these facts
    pub state_changed : state_of (parts_of h' names schemas pins accepted) ≡ with_facts w facts
    state_changed =
        state_left (parts_of h' names schemas pins accepted) (with_facts w facts) (facts_are (type_of h' schemas) h' facts whole (sound.in_order).facts read)
        alike.live (ap (names_of names) alike.live) refl alike.deletions refl refl

    pub world_changed : list_all (is_known_rightly h' schemas) h'.known ≡ true → IsWorld (parts_of h' names schemas pins accepted)
    world_changed known = record {
      whole = whole;
      sound = subst IsWellFormed (sym state_changed) sound;
      settled = settled_left;
      known = known;
      named = λ n f p. ap (λ live. option_eq ◌==◌ (value_at nat_cmp live f.index) (Some f.generation)) alike.live ∙ world.named n f p;
      one_to_one = world.one_to_one;
      covered = λ i l. world.covered i (ap (λ live. has_key nat_cmp live i) (sym alike.live) ∙ l);
    }

-- the same in other tables, twice
pub alike_then : {a b c : Holdings} → HoldAlike a b → HoldAlike b c → HoldAlike a c
alike_then x y = record { live = x.live ∙ y.live; deletions = x.deletions ∙ y.deletions; cells = x.cells ∙ y.cells }
