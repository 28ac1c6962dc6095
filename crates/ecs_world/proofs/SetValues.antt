-- Entities that hold an id get their values one after another.
use Rattle.std.proofs.Common.{◌≡◌, ℕ, zero, suc, ◌+◌, ◌-◌, ◌*◌, ◌^◌, ◌<◌, ◌≤◌, ◌==◌, Bool, true, false, not, ◌||◌, List, [], ◌∷◌, length, length-drop, length-take-le, take, drop, ℤ, Option, Some, None, IfSome, is_some, Ok, refl, sym, ap, subst, ◌∙◌, inl, inr, arith, true≢false}
use Rattle.std.proofs.lemmas.Bool.Decides.{nat_tests, Decides-eqb}
use Rattle.std.proofs.lemmas.List.Folds.{list_all-map}
use Rattle.std.specs.Prelude.{filter_map, if◌then◌else◌, nat_le, slice_get, unwrap_or}
use Rattle.std.specs.Cmp.{nat_cmp_total}
use Rattle.std.specs.FinMap.Entries.{is_some-find}
use Rattle.std.specs.List.{list_all, list_any}
use Rattle.std.specs.Option.{option_or}
use Rattle.std.specs.Ordering.{nat_cmp, eq_by_cmp}
use native.Mathlib.Nat.{suc-mul}
use Rattle.ecs_id.specs.declared.EntityId.{EntityId}
use Rattle.ecs_id.specs.declared.Place.{Place}
use Rattle.ecs_id.specs.Id.{Id, plain, pair, id_cmp, id_cmp_same, id_cmp_total, id_eq, id_eq_itself, id_eq_same, mentioned}
use Rattle.ecs_model.specs.Bytes.{size_of, values_in}
use Rattle.ecs_model.specs.steps.Outcomes.{counted, is_dead, is_spent, value_reasons}
use Rattle.ecs_model.specs.declared.faults.Refusal.TheVariants.{Count, Range}
use Rattle.ecs_model.specs.Map.{IsMap, has_key, keys, value_at, with_value}
use Rattle.ecs_model.specs.Refusal.{first_reason}
use Rattle.ecs_model.specs.Schema.{Schema, all_fit}
use Rattle.ecs_model.specs.World.{WorldState, Key, key_cmp, component, holds, ids_of, is_alive, is_built_in, is_live, pair_is_tag, type_of_id}
use Rattle.ecs_model.specs.steps.Step.{SetValue, adds_built_in, add_reasons, effect, reasons, step}
use Rattle.ecs_model.specs.steps.WellFormed.{IsWellFormed}
use Rattle.ecs_model.proofs.Maps.{IsMap-with_value, key_cmp_total, keys-with_value, nat_value_at, of_some, some_of}
use Rattle.ecs_model.proofs.steps.LivingIds.{refuted}
use Rattle.ecs_archetypes.specs.declared.facts.FoundFact.{FoundFact}
use Rattle.ecs_table.specs.Archetype.{Cells}
use Rattle.ecs_archetypes.specs.Holdings.{AreHoldings, HoldAlike, Holdings, agrees, cells_at, held_at, holds_id, sizes_of, with_cells, with_each_written}
use Rattle.ecs_archetypes.proofs.MapLists.{list_all_put}
use Rattle.rel_traits.specs.Additions.{is_of_built_in}
use Rattle.rel_traits.specs.Simple.{ComesAlone}
use Rattle.ecs_world.specs.Columns.{AreSet, may_bring}
use Rattle.ecs_world.specs.State.{IsWorld, Parts, byte_count, growth_reasons, no_change, parts_of, state_of, value_in}
use Rattle.ecs_world.proofs.AcceptedCommands.{set_left}
use Rattle.ecs_world.proofs.CommandEffects.{effect-set, facts_held}
use Rattle.ecs_world.proofs.QuietFacts.{alone_held, built_in_untyped}
use Rattle.ecs_world.proofs.Ranges.{AreBytes, bytes_behind, bytes_front, length_values, values_fit}
use Rattle.ecs_world.proofs.RefusalReasons.{growth_told, not_dead, set_grown}
use Rattle.ecs_world.proofs.SimpleFacts.{built_in_alone}
use Rattle.ecs_world.proofs.States.{holds_is, size_agrees, size_passes, some_bytes, type_is}
use Rattle.ecs_world.proofs.ToldChanges.{told_set}

-- ---- what is held after one value was written
module _ (h : Holdings) (whole : AreHoldings h) (e : ℕ) (i : Id) (bytes : List ℕ) (held : holds_id h e i ≡ true) (agree : agrees h.known i (length bytes) ≡ true) where
  abbrev new_cells : Cells
  new_cells = with_value id_cmp (held_at h e) i bytes

  was : (bs : List ℕ) × (value_at id_cmp (held_at h e) i ≡ Some bs)
  was = some_of (value_at id_cmp (held_at h e) i) held

  there : (cs : Cells) × (cells_at h e ≡ Some cs) × (value_at id_cmp cs i ≡ Some was.0)
  there = some_bytes (cells_at h e) i was.0 was.1

  same_cells : held_at h e ≡ there.0
  same_cells = ap (λ (o : Option Cells). unwrap_or o []) there.1

  -- the value has the size that it had
  same_size : length was.0 ≡ length bytes
  same_size =
      let test : Id × ℕ → Bool = λ c. not (id_eq c.0 i) || c.1 == length bytes in
      let passes : test (i, length was.0) ≡ true = size_passes test there.0 i was.0 (of_some (λ c. (t : Id × ℕ → Bool) → list_all t h.known ≡ true → list_all t (sizes_of c) ≡ true) (cells_at h e) (whole.sized e) there.0 there.1 test agree) there.2 in
      (Decides-eqb (length was.0) (length bytes)).0 (ap (λ b. not b || length was.0 == length bytes) (sym (id_eq_itself i)) ∙ passes)

  -- so what all sizes pass, they pass again
  sizes_pass : (test : Id × ℕ → Bool) → list_all test (sizes_of there.0) ≡ true → test (i, length bytes) ≡ true → list_all test (sizes_of new_cells) ≡ true
  sizes_pass test old now =
      ap (λ c. list_all test (sizes_of (with_value id_cmp c i bytes))) same_cells ∙ list_all-map test (λ c. (c.0, length c.1)) (with_value id_cmp there.0 i bytes)
      ∙ list_all_put id_cmp id_cmp_same (λ c. test (c.0, length c.1)) i bytes there.0 (sym (list_all-map test (λ c. (c.0, length c.1)) there.0) ∙ old) now

  rise : IsMap id_cmp new_cells
  rise =
      let old = of_some (λ c. IsMap id_cmp c × (list_all (λ s. agrees h.known s.0 s.1) (sizes_of c) ≡ true)) (cells_at h e) (whole.each e) there.0 there.1 in
      subst (λ c. IsMap id_cmp (with_value id_cmp c i bytes)) (sym same_cells) (IsMap-with_value id_cmp id_cmp_total there.0 i bytes old.0)

  pub whole_written : AreHoldings (with_cells h e new_cells)
  whole_written = record {
    live = whole.live;
    deletions = whole.deletions;
    cells = IsMap-with_value nat_cmp nat_cmp_total h.cells e new_cells whole.cells;
    each = λ d. elim (nat_value_at h.cells e new_cells d) [
      | inl p ↦
          let old = of_some (λ c. IsMap id_cmp c × (list_all (λ s. agrees h.known s.0 s.1) (sizes_of c) ≡ true)) (cells_at h e) (whole.each e) there.0 there.1 in
          subst (λ o. IfSome o (λ c. IsMap id_cmp c × (list_all (λ s. agrees h.known s.0 s.1) (sizes_of c) ≡ true))) (sym p.1) (rise, sizes_pass (λ s. agrees h.known s.0 s.1) old.1 agree)
      | inr p ↦ subst (λ o. IfSome o (λ c. IsMap id_cmp c × (list_all (λ s. agrees h.known s.0 s.1) (sizes_of c) ≡ true))) (sym p.1) (whole.each d)
    ];
    sized = λ d. elim (nat_value_at h.cells e new_cells d) [
      | inl p ↦ subst (λ o. IfSome o (λ c. (t : Id × ℕ → Bool) → list_all t h.known ≡ true → list_all t (sizes_of c) ≡ true)) (sym p.1)
          (λ test known.
          let old = of_some (λ c. (t : Id × ℕ → Bool) → list_all t h.known ≡ true → list_all t (sizes_of c) ≡ true) (cells_at h e) (whole.sized e) there.0 there.1 test known in
          sizes_pass test old (ap (λ n. test (i, n)) (sym same_size) ∙ size_passes test there.0 i was.0 old there.2))
      | inr p ↦ subst (λ o. IfSome o (λ c. (t : Id × ℕ → Bool) → list_all t h.known ≡ true → list_all t (sizes_of c) ≡ true)) (sym p.1) (whole.sized d)
    ];
    settled = λ d. elim (nat_value_at h.cells e new_cells d) [
      | inl p ↦ subst (λ o. IfSome o (λ _. has_key nat_cmp h.live d ≡ true)) (sym p.1)
          (subst (λ n. has_key nat_cmp h.live n ≡ true) (sym p.0) (of_some (λ _. has_key nat_cmp h.live e ≡ true) (cells_at h e) (whole.settled e) there.0 there.1))
      | inr p ↦ subst (λ o. IfSome o (λ _. has_key nat_cmp h.live d ≡ true)) (sym p.1) (whole.settled d)
    ];
  }

-- ---- a world where another value was written
module _ (w : WorldState) (sound : IsWellFormed w) (e : ℕ) (i : Id) (vs : List ℤ) (held : holds w e i ≡ true) where
  abbrev written : WorldState
  written = record w { facts = with_value key_cmp w.facts (e, i) vs; accepted = w.accepted + 1 }

  same_keys : keys written.facts ≡ keys w.facts
  same_keys = keys-with_value key_cmp key_cmp_total w.facts (e, i) vs (sound.in_order).facts held

  same_ids : ids_of written ≡ ids_of w
  same_ids = λ k d. filter_map (λ (q : Key). if q.0 == d then Some q.1 else None) (same_keys k)

  same_holds : (d : ℕ) (j : Id) → holds written d j ≡ holds w d j
  same_holds d j = is_some-find key_cmp (d, j) written.facts ∙ ap (list_any (eq_by_cmp key_cmp (d, j))) same_keys ∙ sym (is_some-find key_cmp (d, j) w.facts)

  same_type : (j : Id) → type_of_id written j ≡ type_of_id w j
  same_type (plain c) = refl
  same_type (pair r t) = ap (λ b. if b then None else option_or (value_at nat_cmp w.schemas r) (value_at nat_cmp w.schemas t)) (same_holds r (plain pair_is_tag))

nowhere : Place
nowhere = record { table = record { slot = 0; serial = 0 }; row = 0 }

module _ (i : Id) (fs : Schema) where
  -- what is asked of a world and of entities before their values are written
  pub record Ready (w : WorldState) (es : List EntityId) (bytes : List ℕ) : Type 0 where
    pub typed : type_of_id w i ≡ Some fs
    pub quiet : may_bring (ids_of w) i ≡ false
    pub each : (q : ℕ) (e : EntityId) → slice_get es q ≡ Some e → (is_alive w e ≡ true) × (holds w e.index i ≡ true)
    pub room : w.accepted + length es < 2 ^ 64
    pub long : length bytes ≡ length es * size_of fs
    pub values : AreBytes bytes

  module _ (w : WorldState) (sound : IsWellFormed w) (e : EntityId) (es : List EntityId) (bytes : List ℕ) (ready : Ready w (e ∷ es) bytes) where
    abbrev vs : List ℤ
    vs = values_in fs (take (size_of fs) bytes)

    holding : holds w e.index i ≡ true
    holding = (ready.each 0 e refl).1

    alive : is_alive w e ≡ true
    alive = (ready.each 0 e refl).0

    alone : ComesAlone (ids_of w) (e.index, i)
    alone = alone_held w sound fs e.index i holding ready.typed ready.quiet

    dead : is_dead w e i ≡ false
    dead = not_dead w e i alive ((sound.live).facts e.index i holding).1

    own : adds_built_in w e.index i ≡ false
    own =
        built_in_alone w e.index i alone
        ∙ (λ k. built_in_untyped w sound fs e.index i holding ready.typed k || refuted (id_eq i (plain component)) (λ same.
        let none : None ≡ Some fs = sym (ap (type_of_id w) (id_eq_same i (plain component) same) ∙ (sound.built_in).schemas component refl) ∙ ready.typed in absurd cc) k)

    spent : is_spent w ≡ false
    spent = refuted (is_spent w) (λ full. let low = ready.room in let high : 2 ^ 64 - 1 ≤ w.accepted = grind (arith, nat_tests) in absurd (omega (arith, low, high)))

    abbrev found : FoundFact
    found = record { place = nowhere; is_held = true; count = length (ids_of w e.index) }

    may_grow : None ≡ first_reason (add_reasons w e.index i)
    may_grow = sym (ap (λ b. first_reason (growth_reasons found b)) spent) ∙ growth_told w e i found alone sound alive (sym holding) refl dead own

    may_hold : None ≡ first_reason (value_reasons (type_of_id w i) vs)
    may_hold =
        let all : first_reason (value_reasons (Some fs) vs) ≡ None =
        (λ k. first_reason (
        (not ((Decides-eqb (length vs) (length fs)).1 (length_values fs (take (size_of fs) bytes)) k), Count)
        ∷ (not (values_fit fs (take (size_of fs) bytes) (bytes_front (size_of fs) bytes ready.values) k), Range)
        ∷ [])) in
        sym all ∙ ap (λ t. first_reason (value_reasons t vs)) (sym ready.typed)

    none : first_reason (reasons w (SetValue e i vs)) ≡ None
    none = sym (set_grown w e i vs None dead own may_hold may_grow)

    left : counted (effect w (SetValue e i vs)) ≡ written w sound e.index i vs holding
    left = ap counted (effect-set w e i vs ∙ ap (λ facts. record w { facts = with_value key_cmp facts (e.index, i) vs }) (facts_held w e.index i alone holding))

    answered : step w (SetValue e i vs) ≡ Ok (written w sound e.index i vs holding, record no_change { written = (e.index, i) ∷ [] })
    answered =
        told_set w (written w sound e.index i vs holding) (record no_change { written = (e.index, i) ∷ [] }) e i sound vs alone none (sym left)
        (ap (λ b. record no_change { came = if b then [] else (e.index, i) ∷ []; written = (e.index, i) ∷ [] }) (sym holding))

    ready_next : Ready (written w sound e.index i vs holding) es (drop (size_of fs) bytes)
    ready_next = record {
      typed = same_type w sound e.index i vs holding i ∙ ready.typed;
      quiet = ap (λ ids. may_bring ids i) (same_ids w sound e.index i vs holding) ∙ ready.quiet;
      each = λ q f at. ((ready.each (suc q) f at).0, same_holds w sound e.index i vs holding f.index i ∙ (ready.each (suc q) f at).1);
      room = let room = ready.room in omega (arith, room);
      long = let long = ready.long in omega (arith, length-drop (size_of fs) bytes, suc-mul (length es) (size_of fs), long);
      values = bytes_behind (size_of fs) bytes ready.values;
    }

  -- each value in turn, and what is left of the world and of its parts
  pub each_set : (es : List EntityId) (bytes : List ℕ) (parts : Parts) → IsWorld parts → (w : WorldState) → state_of parts ≡ w → Ready w es bytes → (total : ℕ) → total ≡ parts.accepted + length es
      → IsWorld (parts_of (with_each_written i (size_of fs) es bytes parts.holdings) parts.names parts.schemas parts.pins total)
      × AreSet i fs es bytes w (state_of (parts_of (with_each_written i (size_of fs) es bytes parts.holdings) parts.names parts.schemas parts.pins total))
  each_set [] bytes parts world w is ready total count =
      let same : parts.accepted ≡ total = omega (arith, count) in
      subst (λ n. IsWorld (parts_of parts.holdings parts.names parts.schemas parts.pins n) × (state_of (parts_of parts.holdings parts.names parts.schemas parts.pins n) ≡ w)) same (world, is)
  each_set (e ∷ es) bytes parts world w is ready total count =
      let sound : IsWellFormed w = subst IsWellFormed is world.sound in
      let h = parts.holdings in let first = take (size_of fs) bytes in
      let enough : size_of fs ≤ length bytes = let long = ready.long in omega (arith, long, suc-mul (length es) (size_of fs)) in
      let size : length first ≡ byte_count (type_of_id w i) = length-take-le (size_of fs) bytes enough ∙ ap byte_count (sym ready.typed) in
      let held : holds_id h e.index i ≡ true = sym (holds_is world e.index i) ∙ ap (λ u. holds u e.index i) is ∙ (ready.each 0 e refl).1 in
      let agree : agrees h.known i (length first) ≡ true = size_agrees world i (length first) (size ∙ ap (λ u. byte_count (type_of_id u i)) (sym is) ∙ ap byte_count (type_is world i)) in
      let after : Holdings = with_cells h e.index (with_value id_cmp (held_at h e.index) i first) in
      let one = set_left world is e i (alone w sound e es bytes ready) (vs w sound e es bytes ready) (none w sound e es bytes ready) after first (whole_written h world.whole e.index i first held agree) size
      (record { live = refl; deletions = refl; cells = refl }) (λ test old new. old) (ap (λ t. value_in t first) ready.typed) in
      let next : total ≡ parts.accepted + 1 + length es = omega (arith, count) in
      let rest = each_set es (drop (size_of fs) bytes) (parts_of after parts.names parts.schemas parts.pins (parts.accepted + 1)) one.0 (written w sound e.index i (vs w sound e es bytes ready) (holding w sound e es bytes ready))
      (one.1 ∙ left w sound e es bytes ready) (ready_next w sound e es bytes ready) total next in
      (rest.0, (written w sound e.index i (vs w sound e es bytes ready) (holding w sound e es bytes ready), answered w sound e es bytes ready, rest.1))
