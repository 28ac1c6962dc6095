-- Entities that are deleted one after another.
use Rattle.std.proofs.Common.{◌≡◌, ℕ, ◌+◌, ◌<◌, true, false, cond, not, ◌&&◌, ◌==◌, List, [], ◌∷◌, length, drop, get_or, Some, None, is_some, refl, sym, ap, subst, ◌∙◌}
use Rattle.std.proofs.lemmas.List.{at_drop_more}
use Rattle.std.specs.List.{list_all}
use Rattle.std.specs.Option.{option_eq}
use Rattle.std.specs.Ordering.{nat_cmp}
use Rattle.std.specs.FinMap.Entries.{find, put}
use Rattle.std.proofs.lemmas.Bool.{not-true}
use Rattle.ecs_id.specs.declared.EntityId.{EntityId}
use Rattle.ecs_model.proofs.Maps.{both_true}
use Rattle.ecs_model.specs.Map.{count_at}
use Rattle.ecs_model.specs.World.{is_built_in}
use Rattle.ecs_archetypes.specs.Holdings.{HoldAlike, Holdings, cells_at, is_settled, lives, without_entity}
use Rattle.ecs_archetypes.specs.Housing.{Housing, holdings_of}
use Rattle.ecs_archetypes.specs.Moves.{are_apart, are_deletable, without_each}
use Rattle.ecs_archetypes.specs.Tables.{StandAlike}
use Rattle.ecs_archetypes.proofs.EntityDeaths.{found_without, without_index}
use Rattle.ecs_archetypes.proofs.MapLists.{both}
use Rattle.ecs_archetypes.proofs.TableMoves.{alike_then}

pub without_alike : (es : List EntityId) (a b : Holdings) → HoldAlike a b → HoldAlike (without_each es a) (without_each es b)
without_alike [] a b x = x
without_alike (e ∷ es) a b x = without_alike es (without_entity a e.index) (without_entity b e.index) (record {
  live = ap (without_index e.index) x.live;
  deletions = ap (λ d. put nat_cmp e.index (count_at d e.index + 1) d) x.deletions;
  cells = ap (without_index e.index) x.cells;
})

others_settled : (h g : Holdings) (e d : EntityId) → HoldAlike g (without_entity h e.index) → not (d.index == e.index) ≡ true → is_settled h d ≡ true → is_settled g d ≡ true
others_settled h g e d x apart was =
    let parts = both_true (lives h d) (is_some (cells_at h d.index)) was in
    both (lives g d) (is_some (cells_at g d.index))
    (ap (λ l. option_eq ◌==◌ (find nat_cmp d.index l) (Some d.generation)) x.live
    ∙ ap (λ o. option_eq ◌==◌ o (Some d.generation)) (found_without e.index d.index h.live ∙ ap (λ b. cond b (find nat_cmp d.index h.live) None) apart) ∙ parts.0)
    (ap (λ m. is_some (find nat_cmp d.index m)) x.cells ∙ ap is_some (found_without e.index d.index h.cells ∙ ap (λ b. cond b (find nat_cmp d.index h.cells) None) apart) ∙ parts.1)

all_settled : (h g : Holdings) (e : EntityId) → HoldAlike g (without_entity h e.index) → (es : List EntityId) → list_all (λ d. not (d.index == e.index)) es ≡ true → list_all (λ d. is_settled h d && not (is_built_in d.index)) es ≡ true
    → list_all (λ d. is_settled g d && not (is_built_in d.index)) es ≡ true
all_settled h g e x [] apart was = refl
all_settled h g e x (d ∷ es) apart was =
    let a = both_true (not (d.index == e.index)) (list_all (λ d. not (d.index == e.index)) es) apart in
    let b = both_true (is_settled h d && not (is_built_in d.index)) (list_all (λ d. is_settled h d && not (is_built_in d.index)) es) was in
    let one = both_true (is_settled h d) (not (is_built_in d.index)) b.0 in
    both (is_settled g d && not (is_built_in d.index)) (list_all (λ d. is_settled g d && not (is_built_in d.index)) es) (both (is_settled g d) (not (is_built_in d.index)) (others_settled h g e d x a.0 one.0) one.1) (all_settled h g e x es a.1 b.1)

-- the first of the entities are deleted, and these are left
pub record AreDeleted (before : Housing) (dead : List EntityId) (now : Housing) (rest : List EntityId) : Type 0 where
  pub ready : are_deletable (holdings_of now) rest ≡ true
  pub held : HoldAlike (without_each rest (holdings_of now)) (without_each dead (holdings_of before))
  pub alike : StandAlike before.tables now.tables

module _ (before now : Housing) (dead : List EntityId) (i : ℕ) (d e : EntityId) (is : e ≡ get_or dead i d) (within : i < length dead) (so_far : AreDeleted before dead now (drop i dead)) where
  left : drop i dead ≡ e ∷ drop (i + 1) dead
  left = at_drop_more (λ z. z) dead i d within ∙ ap (λ z. z ∷ drop (i + 1) dead) (sym is)

  here : AreDeleted before dead now (e ∷ drop (i + 1) dead)
  here = subst (AreDeleted before dead now) left so_far

  ready : (list_all (λ d. is_settled (holdings_of now) d && not (is_built_in d.index)) (e ∷ drop (i + 1) dead) ≡ true) × (are_apart (e ∷ drop (i + 1) dead) ≡ true)
  ready = both_true (list_all (λ d. is_settled (holdings_of now) d && not (is_built_in d.index)) (e ∷ drop (i + 1) dead)) (are_apart (e ∷ drop (i + 1) dead)) here.ready

  first : ((is_settled (holdings_of now) e && not (is_built_in e.index)) ≡ true) × (list_all (λ d. is_settled (holdings_of now) d && not (is_built_in d.index)) (drop (i + 1) dead) ≡ true)
  first = both_true (is_settled (holdings_of now) e && not (is_built_in e.index)) (list_all (λ d. is_settled (holdings_of now) d && not (is_built_in d.index)) (drop (i + 1) dead)) ready.0

  pub next_settled : is_settled (holdings_of now) e ≡ true
  next_settled = (both_true (is_settled (holdings_of now) e) (not (is_built_in e.index)) first.0).0

  pub next_deletable : is_built_in e.index ≡ false
  next_deletable = not-true (is_built_in e.index) (both_true (is_settled (holdings_of now) e) (not (is_built_in e.index)) first.0).1

  pub deleted_more : (next : Housing) → HoldAlike (holdings_of next) (without_entity (holdings_of now) e.index) → StandAlike now.tables next.tables → AreDeleted before dead next (drop (i + 1) dead)
  deleted_more next held alike =
      let apart = both_true (list_all (λ d. not (d.index == e.index)) (drop (i + 1) dead)) (are_apart (drop (i + 1) dead)) ready.1 in
      record {
        ready = both (list_all (λ d. is_settled (holdings_of next) d && not (is_built_in d.index)) (drop (i + 1) dead)) (are_apart (drop (i + 1) dead))
            (all_settled (holdings_of now) (holdings_of next) e held (drop (i + 1) dead) apart.0 first.1) apart.1;
        held = alike_then _ _ _ (without_alike (drop (i + 1) dead) (holdings_of next) (without_entity (holdings_of now) e.index) held) here.held;
        alike = record { shapes = λ k. alike.shapes k ∙ here.alike.shapes k; last = alike.last ∙ here.alike.last };
      }

pub deletable_alike : (a b : Holdings) → HoldAlike a b → (es : List EntityId) → are_deletable a es ≡ are_deletable b es
deletable_alike a b x es = λ k. list_all (λ d. (option_eq ◌==◌ (find nat_cmp d.index (x.live k)) (Some d.generation) && is_some (find nat_cmp d.index (x.cells k))) && not (is_built_in d.index)) es && are_apart es
