-- Of the added facts only one can give a base, where no cycle comes.
use Rattle.std.specs.Prelude.{◌≡◌, ℕ, ◌==◌, ◌&&◌, Bool, true, false, not, Option, Some, None, is_some, if◌then◌else◌}
use Rattle.std.specs.List.{list_all}
use Rattle.std.proofs.Common.{refl, sym, ap, subst, ◌∙◌, inl, inr, true≢false}
use Rattle.ecs_id.specs.declared.EntityId.{EntityId}
use Rattle.ecs_id.specs.Id.{Id, plain, pair, id_cmp, mentioned}
use Rattle.ecs_model.specs.Added.{IsAdded}
use Rattle.ecs_model.specs.BuiltIns.{acyclic, is_a}
use Rattle.ecs_model.specs.steps.Outcomes.{is_dead, with_facts}
use Rattle.ecs_model.specs.Map.{has_key}
use Rattle.ecs_model.specs.World.{WorldState, Key, key_cmp, first_world, holds, ids_of, is_live, value_of}
use Rattle.ecs_model.specs.steps.FactChanges.{added, facts_after_add, new_base}
use Rattle.ecs_model.specs.steps.Step.{adds_built_in, changes_trait, has_cycle}
use Rattle.ecs_model.specs.steps.WellFormed.{IsWellFormed}
use Rattle.ecs_model.specs.steps.StepLaws.{OneNewBase}
use Rattle.ecs_model.proofs.Members.{eq_itself, eq_same}
use Rattle.ecs_model.proofs.steps.AcceptedFacts.{may_come}
use Rattle.ecs_model.proofs.steps.AddedSets.{HasForm, added_are_members, added_form}
use Rattle.ecs_model.proofs.steps.Cycles.{added_pairs_close}
use Rattle.ecs_model.proofs.steps.Facts.{is_held-holds}
use Rattle.ecs_model.proofs.steps.Additions.{no_pair, same_parts}

bases_first : is_some (value_of first_world is_a (plain acyclic)) ≡ true
unfolding first_world key_cmp id_cmp
bases_first = refl

-- IsA is Acyclic
pub bases_acyclic : (w : WorldState) → IsWellFormed w → holds w is_a (plain acyclic) ≡ true
bases_acyclic w h = ap is_some ((h.built_in).facts is_a (plain acyclic) refl) ∙ bases_first

chosen : (a b : Bool) (t : ℕ) → a ≡ true → b ≡ false → (if a && not b then Some t else None) ≡ Some t
chosen true false t p q = refl
chosen false b t p q = absurd (true≢false (sym p))
chosen true true t p q = absurd (true≢false q)

own_base : (w : WorldState) (e r t : ℕ) → has_key key_cmp (added w e (pair r t)) (e, pair is_a t) ≡ true → holds w e (pair is_a t) ≡ false → new_base w e (pair r t) ≡ Some t
unfolding new_base
own_base w e r t new absent = chosen (has_key key_cmp (added w e (pair r t)) (e, pair is_a t)) (holds w e (pair is_a t)) t new absent

by_own : (w : WorldState) (e r t : ℕ) → IsWellFormed w → list_all (is_live w) (mentioned (pair r t)) ≡ true → (f b c : ℕ) → IsAdded (ids_of w) (e, pair r t) (f, pair is_a b)
    → holds w f (pair is_a b) ≡ false → ◌≡◌ {A = Key} (f, pair is_a b) (e, pair c t) → (f ≡ e) × (new_base w e (pair r t) ≡ Some b)
by_own w e r t h m f b c new absent form =
    let same = same_parts f e is_a c b t form in
    let here : IsAdded (ids_of w) (e, pair r t) (e, pair is_a t) = subst (IsAdded (ids_of w) (e, pair r t)) (λ j. (same.0 j, pair is_a (same.2 j))) new in (
      same.0,
      own_base w e r t ((added_are_members w e (pair r t) h m (e, pair is_a t)).1 here) (sym (λ j. holds w (same.0 j) (pair is_a (same.2 j))) ∙ absent) ∙ ap (λ x. Some x) (sym same.2),
    )

by_form : (w : WorldState) (e : EntityId) (i : Id) (h : IsWellFormed w) (dead : is_dead w e i ≡ false) (built : adds_built_in w e.index i ≡ false) (fixed : changes_trait w e.index i ≡ false)
    → has_cycle (with_facts w (facts_after_add w e.index i)) ≡ false
    → (f b c : ℕ) → IsAdded (ids_of w) (e.index, i) (f, pair is_a b) → holds w f (pair is_a b) ≡ false → HasForm e.index i c (f, pair is_a b) → (f ≡ e.index) × (new_base w e.index i ≡ Some b)
by_form w e (plain d) h dead built fixed free f b c new absent form = absurd (no_pair e.index f c is_a b (sym form))
by_form w e (pair r t) h dead built fixed free f b c new absent (inl form) =
    by_own w e.index r t h (may_come w e (pair r t) h dead built fixed).mentions f b c new absent form
by_form w e (pair r t) h dead built fixed free f b c new absent (inr form) = by (f == e.index) refl (by_own w e.index r t h (may_come w e (pair r t) h dead built fixed).mentions f b c new absent)
  where
    same : (f ≡ t) × (is_a ≡ c) × (b ≡ e.index)
    same = same_parts f t is_a c b e.index form

    by : (s : Bool) → (f == e.index) ≡ s → (◌≡◌ {A = Key} (f, pair is_a b) (e.index, pair c t) → (f ≡ e.index) × (new_base w e.index (pair r t) ≡ Some b)) → (f ≡ e.index) × (new_base w e.index (pair r t) ≡ Some b)
    by true s own = let here = eq_same f e.index s in own (λ j. (here j, pair (same.1 j) ((same.2 ∙ sym here ∙ same.0) j)))
    by false s own =
        absurd (true≢false (sym ((added_pairs_close w e (pair r t) h dead built fixed).1
        ((f, pair is_a b), inl new, (b, refl, is_held-holds w is_a (plain acyclic) ∙ bases_acyclic w h, inl (λ q. true≢false (sym (eq_itself f) ∙ (ap (λ x. f == x) q ∙ s)))))) ∙ free))

pub one_new_base : OneNewBase
one_new_base w e i h dead built fixed free f b new absent =
    let form = added_form w h e.index i (may_come w e i h dead built fixed).mentions new in
    by_form w e i h dead built fixed free f b form.0 new absent form.2
