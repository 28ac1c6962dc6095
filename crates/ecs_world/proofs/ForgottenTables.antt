-- Tables that go are those of ids that are forgotten: of pairs whose relationship got PairIsTag, and of ids that mention the dead.
use Rattle.std.proofs.Common.{◌≡◌, ℕ, ◌==◌, Bool, true, false, true≢false, not, ◌&&◌, ◌||◌, List, [], ◌∷◌, ℤ, Option, None, cond, is_some, refl, sym, ap, subst, ◌∙◌}
use Rattle.std.proofs.lemmas.Bool.Decides.{Decides-eqb}
use Rattle.std.specs.Cmp.{nat_cmp_total}
use Rattle.std.specs.List.{Contains, list_any}
use Rattle.std.specs.Ordering.{nat_cmp}
use Rattle.std.proofs.lemmas.Bool.{or_left, or_right}
use Rattle.ecs_id.specs.declared.EntityId.{EntityId}
use Rattle.ecs_id.specs.Id.{Id, plain, pair, mentioned}
use Rattle.ecs_model.specs.steps.Outcomes.{counted, differences}
use Rattle.ecs_model.specs.Map.{has_key, keys, value_at, without}
use Rattle.ecs_model.specs.Refusal.{first_reason}
use Rattle.ecs_model.specs.World.{WorldState, Key, holds, is_alive, is_live, key_cmp, key_eq, pair_is_tag}
use Rattle.ecs_model.specs.steps.FactChanges.{deleted}
use Rattle.ecs_model.specs.steps.Step.{Add, Delete, SetValue, effect, reasons, without_entities}
use Rattle.ecs_model.specs.steps.WellFormed.{IsWellFormed}
use Rattle.ecs_model.proofs.Maps.{key_cmp_total}
use Rattle.ecs_model.proofs.Members.{any_passes, filtered, passing}
use Rattle.ecs_model.proofs.steps.AcceptedFacts.{accepted_add, accepted_set}
use Rattle.ecs_model.proofs.steps.AddedSets.{from_map, in_map}
use Rattle.ecs_model.proofs.steps.AddEffects.{differences_of_add, differences_of_set}
use Rattle.ecs_model.proofs.steps.DeletedSets.{deleted_is_least}
use Rattle.ecs_model.proofs.steps.Deletions.{nat_value_at-without}
use Rattle.ecs_model.proofs.steps.Facts.{there_key}
use Rattle.ecs_model.proofs.steps.ReplacedFacts.{key_eq_same}
use Rattle.rel_traits.specs.Additions.{TellsAddition}
use Rattle.table_store.specs.Store.{Store}
use Rattle.ecs_archetypes.specs.Staying.{TablesStay, stay_more}
use Rattle.ecs_archetypes.proofs.MapLists.{both}
use Rattle.ecs_world.specs.Changes.{sized_by}
use Rattle.ecs_world.specs.Releases.{became_tag, gets_no_data, is_forgotten, mentions_dead, mentions_one}
use Rattle.ecs_world.specs.Standing.{Standing}
use Rattle.ecs_world.proofs.AcceptedCommands.{refuted}
use Rattle.ecs_world.proofs.Deaths.{falls_live}
use Rattle.ecs_world.proofs.Entities.{generation_of}
use Rattle.ecs_world.proofs.ReleasedTables.{neither, no_true}

-- where no id passes a test, none passes a narrower one
none_narrower : (p q : Id → Bool) → ((i : Id) → p i ≡ true → q i ≡ true) → (ids : List Id) → list_any q ids ≡ false → list_any p ids ≡ false
none_narrower p q within [] none = refl
none_narrower p q within (i ∷ ids) none =
    let parts = neither (q i) (list_any q ids) none in
    ap (λ b. b || list_any p ids) (no_true (p i) (λ t. true≢false (sym (within i t) ∙ parts.0))) ∙ none_narrower p q within ids parts.1

-- tables that may go by a narrower test, may go by a wider one
stay_wider : (p q : Id → Bool) (s n : Store) → ((i : Id) → p i ≡ true → q i ≡ true) → TablesStay (list_any p) s n → TablesStay (list_any q) s n
stay_wider p q s n within = stay_more (list_any p) (list_any q) s n (none_narrower p q within)

module _ (w v : WorldState) where
  -- the dead lived, and don't live after
  abbrev AreDead : List ℕ → Type 0
  AreDead dead = (x : ℕ) → Contains dead x → (is_live w x ≡ true) × (is_live v x ≡ false)

  dead_forgotten : (dead : List ℕ) → AreDead dead → (i : Id) → mentions_one dead i ≡ true → is_forgotten w v i ≡ true
  dead_forgotten dead are i any =
      let x = passing (λ x. list_any (λ d. x == d) dead) (mentioned i) any in
      let d = passing (λ d. x.0 == d) dead x.2 in
      let same : d.0 ≡ x.0 = sym ((Decides-eqb x.0 d.0).0 d.2) in
      let fell = are x.0 (subst (Contains dead) same d.1) in
      or_left (mentions_dead w v i) (became_tag w v i) (any_passes (λ x. is_live w x && not (is_live v x)) (mentioned i) x.0 x.1 (both (is_live w x.0) (not (is_live v x.0)) fell.0 (ap not fell.1)))

  -- what came is held after, and wasn't
  abbrev AreNew : List Key → Type 0
  AreNew came = (k : Key) → Contains came k → (holds w k.0 k.1 ≡ false) × (holds v k.0 k.1 ≡ true)

  tags_forgotten : (u : WorldState) (came : List Key) → AreNew came → (i : Id) → gets_no_data (sized_by u came) i ≡ true → is_forgotten w v i ≡ true
  tags_forgotten u came are (plain c) any = absurd (true≢false (sym any))
  tags_forgotten u came are (pair r t) any =
      let x = passing (λ (k : Key × ℕ). key_eq k.0 (r, plain pair_is_tag)) (sized_by u came) any in
      let k = from_map (λ (k : Key). (k, _)) came x.0 x.1 in
      let same : k.0 ≡ (r, plain pair_is_tag) = ap (λ (y : Key × ℕ). y.0) k.2 ∙ key_eq_same x.0.0 (r, plain pair_is_tag) x.2 in
      let new = are (r, plain pair_is_tag) (subst (Contains came) same k.1) in
      or_right (mentions_dead w v (pair r t)) (became_tag w v (pair r t)) (both (not (holds w r (plain pair_is_tag))) (holds v r (plain pair_is_tag)) (ap not new.0) new.1)

  -- what differs is new
  differing_new : AreNew (keys (without key_cmp v.facts (has_key key_cmp w.facts)))
  differing_new k there =
      let f = from_map (λ (x : Key × List ℤ). x.0) (without key_cmp v.facts (has_key key_cmp w.facts)) k there in
      let is = (filtered (λ (x : Key × List ℤ). not (has_key key_cmp w.facts x.0)) v.facts f.0).0 f.1 in
      let was : has_key key_cmp w.facts f.0.0 ≡ false = refuted (has_key key_cmp w.facts f.0.0) is.1 in
      let now : has_key key_cmp v.facts f.0.0 ≡ true = there_key key_cmp key_cmp_total v.facts f.0.0 (in_map (λ (x : Key × List ℤ). x.0) v.facts f.0 is.0) in
      (ap (has_key key_cmp w.facts) (sym f.2) ∙ was, ap (has_key key_cmp v.facts) (sym f.2) ∙ now)

-- what an accepted addition lists as come is new
module _ (w v : WorldState) (e : EntityId) (i : Id) {base : Option ℕ} {all copies came went : List Key} (lists : TellsAddition w (e.index, i) base all copies came went) (h : IsWellFormed w) where
  added_new : first_reason (reasons w (Add e i)) ≡ None → v ≡ counted (effect w (Add e i)) → AreNew w v came
  unfolding differences
  added_new none left =
      subst (AreNew w v)
      (ap (λ u. keys (without key_cmp u.facts (has_key key_cmp w.facts))) left ∙ ap (λ c. c.came) (differences_of_add w e i h ((accepted_add w e i h none).may).mentions) ∙ sym lists.came_are)
      (differing_new w v)

  set_new : (vs : List ℤ) → first_reason (reasons w (SetValue e i vs)) ≡ None → v ≡ counted (effect w (SetValue e i vs)) → AreNew w v came
  unfolding differences
  set_new vs none left =
      subst (AreNew w v)
      (ap (λ u. keys (without key_cmp u.facts (has_key key_cmp w.facts))) left ∙ ap (λ c. c.came) (differences_of_set w e i vs h (((accepted_set w e i vs h none).1).may).mentions) ∙ sym lists.came_are)
      (differing_new w v)

  -- so the tables that may go by it are forgotten
  module _ (u : WorldState) (s n : Store) (stay : TablesStay (list_any (gets_no_data (sized_by u came))) s n) where
    pub added_stay : first_reason (reasons w (Add e i)) ≡ None → v ≡ counted (effect w (Add e i)) → TablesStay (list_any (is_forgotten w v)) s n
    added_stay none left = stay_wider (gets_no_data (sized_by u came)) (is_forgotten w v) s n (tags_forgotten w v u came (added_new none left)) stay

    pub set_stay : (vs : List ℤ) → first_reason (reasons w (SetValue e i vs)) ≡ None → v ≡ counted (effect w (SetValue e i vs)) → TablesStay (list_any (is_forgotten w v)) s n
    set_stay vs none left = stay_wider (gets_no_data (sized_by u came)) (is_forgotten w v) s n (tags_forgotten w v u came (set_new vs none left)) stay

-- who is deleted is dead
module _ (w v : WorldState) (e : EntityId) (alive : is_alive w e ≡ true) (left : v ≡ counted (effect w (Delete e))) where
  deleted_dead : AreDead w v (keys (deleted w e.index))
  unfolding effect without_entities
  deleted_dead x there =
      let gone : has_key nat_cmp (deleted w e.index) x ≡ true = there_key nat_cmp nat_cmp_total (deleted w e.index) x there in
      let live : is_live w e.index ≡ true = ap is_some (generation_of (value_at nat_cmp w.live e.index) e.generation alive) in (
        falls_live w e.index live ((deleted_is_least w e.index live x).0 gone),
        ap (λ u. is_live u x) left ∙ ap is_some (nat_value_at-without w.live (has_key nat_cmp (deleted w e.index)) x ∙ ap (λ b. cond (not b) (value_at nat_cmp w.live x) None) gone),
      )

  -- so the tables that may go by that are forgotten
  pub deleted_stay : (dead : List ℕ) → dead ≡ keys (deleted w e.index) → (s n : Store) → TablesStay (list_any (mentions_one dead)) s n → TablesStay (list_any (is_forgotten w v)) s n
  deleted_stay dead are s n stay = stay_wider (mentions_one dead) (is_forgotten w v) s n (dead_forgotten w v dead (subst (AreDead w v) (sym are) deleted_dead)) stay

-- the tables go from and to those that were seen
pub going_to : {may_go : List Id → Bool} {s t : Standing} {n : Store} → s ≡ t → (u : Standing) → u.tables ≡ n → TablesStay may_go s.tables u.tables → TablesStay may_go t.tables n
going_to {may_go = may_go} {t = t} {n = n} from u to stay = subst (λ z. TablesStay may_go t.tables z) to (subst (λ z. TablesStay may_go z.tables u.tables) from stay)
