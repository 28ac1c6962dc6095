-- Removing what isn't held takes nothing.
use Rattle.std.specs.List.{Contains, list_any}
use Rattle.std.specs.Prelude.{◌≡◌, ℕ, Bool, true, false, not, [], ◌∷◌, cond}
use Rattle.std.proofs.Common.{refl, sym, ap, ◌∙◌, inl, inr, arith, true≢false}
use Rattle.std.proofs.lemmas.List.Elements.{Contains-append_right}
use Rattle.ecs_id.specs.Id.{Id, plain, pair}
use Rattle.ecs_model.specs.Added.{is_symmetric, mirror}
use Rattle.ecs_model.specs.Map.{Map, keys, without}
use Rattle.ecs_model.specs.World.{WorldState, Key, key_cmp, key_eq, holds, ids_of}
use Rattle.ecs_model.specs.steps.FactChanges.{facts_after_remove, removed}
use Rattle.ecs_model.specs.steps.WellFormed.{IsWellFormed}
use Rattle.ecs_model.specs.steps.StepLaws.{RemovesHeldAlone}
use Rattle.ecs_model.proofs.Maps.{key_cmp_total}
use Rattle.ecs_model.proofs.Members.{head_or_tail, passing}
use Rattle.ecs_model.proofs.steps.Facts.{is_held-holds, there_key}
use Rattle.ecs_model.proofs.steps.LivingIds.{refuted}
use Rattle.ecs_model.proofs.steps.ReplacedFacts.{key_eq_same}

-- where no key passes the test, none goes
pub none_goes : {X : Type 0} (m : Map Key X) (test : Key → Bool) → ((k : Key) → Contains (keys m) k → test k ≡ false) → without key_cmp m test ≡ m
none_goes [] test none = refl
none_goes (e ∷ es) test none =
    ap (λ b. cond (not b) (e ∷ without key_cmp es test) (without key_cmp es test)) (none e.0 (0, omega arith, refl))
    ∙ ap (λ xs. e ∷ xs) (none_goes es test (λ k c. none k (Contains-append_right (e.0 ∷ []) (keys es) k c)))

module _ (w : WorldState) (h : IsWellFormed w) where
  -- a mirror is held with its fact alone
  mirror_held : (e : ℕ) (i : Id) (k : Key) → Contains (mirror (ids_of w) (e, i)) k → holds w k.0 k.1 ≡ true → holds w e i ≡ true
  mirror_held e (plain c) k n held = absurd (omega (arith, n.1))
  mirror_held e (pair r t) k n held = by (is_symmetric (ids_of w) r) refl n
    where
      by : (b : Bool) → is_symmetric (ids_of w) r ≡ b → Contains (cond b ((t, pair r e) ∷ []) []) k → holds w e (pair r t) ≡ true
      by true s c =
          elim (head_or_tail (t, pair r e) k [] c) [
            | inl q ↦ (h.traits).mirrored t r e (sym (is_held-holds w r (plain 7)) ∙ s) (ap (λ j. holds w j.0 j.1) q ∙ held)
            | inr n ↦ absurd (omega (arith, n.1))
          ]
      by false s c = absurd (omega (arith, c.1))

pub removes_held_alone : RemovesHeldAlone
unfolding facts_after_remove
removes_held_alone w e i h none = none_goes w.facts (λ k. list_any (key_eq k) (removed w e i)) (λ k c. refuted (list_any (key_eq k) (removed w e i)) (held k c))
  where
    held : (k : Key) → Contains (keys w.facts) k → list_any (key_eq k) (removed w e i) ≡ true → ⊥
    held k c t =
        let there = there_key key_cmp key_cmp_total w.facts k c in
        let r = passing (key_eq k) (removed w e i) t in
        let same = key_eq_same k r.0 r.2 in
        elim (head_or_tail (e, i) r.0 (mirror (ids_of w) (e, i)) r.1) [
          | inl q ↦ true≢false (sym there ∙ (ap (λ j. holds w j.0 j.1) (same ∙ sym q) ∙ none))
          | inr n ↦ true≢false (sym (mirror_held w h e i r.0 n (ap (λ j. holds w j.0 j.1) (sym same) ∙ there)) ∙ none)
        ]
