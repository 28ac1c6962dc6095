-- Where two views agree in some ids, they agree in what these lead to.
use Rattle.std.proofs.Common.{◌≡◌, ℕ, ◌-◌, Bool, true, false, inl, inr, length, refl, sym, ap, ◌∙◌}
use Rattle.std.specs.Prelude.{◌==◌, ◌&&◌, ◌||◌, filter, Some, None, if◌then◌else◌}
use Rattle.std.specs.List.{list_any}
use Rattle.std.proofs.lemmas.Bool.{false≢true, cases_Bool, eqb-true}
use Rattle.ecs_id.specs.Id.{Id, plain, pair, id_eq, id_eq_same}
use Rattle.ecs_model.specs.BuiltIns.{transitive, reflexive}
use Rattle.ecs_model.specs.AncestorLine.{ancestor_line_within}
use Rattle.ecs_model.specs.Links.{ancestor_line, is_held, reaches, target_under, upward}
use Rattle.ecs_model.specs.Sets.{has_chain}
use Rattle.ecs_model.specs.rows.View.{View}
use Rattle.watch_concerns.proofs.WiderTests.{any_same, maps_same}

module _ (wide : Id → Bool) where
  -- all pairs of a relationship pass
  abbrev pub HasPairs : ℕ → Type 0
  HasPairs r = (t : ℕ) → wide (pair r t) ≡ true

  -- each holds the same ids of those that pass a test, in two views
  abbrev pub HoldAlike : View → View → Type 0
  HoldAlike w v = (e : ℕ) → filter wide (w.ids e) ≡ filter wide (v.ids e)

  pub no_target : (r : ℕ) → HasPairs r → (i : Id) → wide i ≡ false → target_under r i ≡ None
  no_target r h (plain c) out = refl
  no_target r h (pair q t) out = elim (cases_Bool (q == r)) [
    | inl same ↦ absurd (false≢true (sym out ∙ ap (λ p. wide (pair p t)) (eqb-true q r same) ∙ h t))
    | inr other ↦ ap (λ b. if b then Some t else None) other
  ]

-- and then the same have an ancestor that passes some test, and the same is reached
pub record Agree (wide : Id → Bool) (w v : View) : Type 0 where
  pub ids : HoldAlike wide w v
  pub risen : (r : ℕ) → HasPairs wide r → (s : ℕ) (p : ℕ → Bool) → list_any p (ancestor_line w.ids w.entities r s) ≡ list_any p (ancestor_line v.ids v.entities r s)
  pub reached : (r : ℕ) → HasPairs wide r → (s t : ℕ) → reaches w.ids w.entities r s t ≡ reaches v.ids v.entities r s t

module _ (wide : Id → Bool) (w v : View) (alike : HoldAlike wide w v) where
  pub held_same : (i : Id) → wide i ≡ true → (e : ℕ) → is_held (w.ids e) i ≡ is_held (v.ids e) i
  held_same i h e = any_same wide (w.ids e) (v.ids e) (alike e) (λ j. id_eq j i) (λ j t. ap wide (id_eq_same j i t) ∙ h)

  pub upward_same : (r : ℕ) → HasPairs wide r → upward w.ids r ≡ upward v.ids r
  upward_same r h = λ k e. maps_same wide (w.ids e) (v.ids e) (alike e) (target_under r) (no_target wide r h) k

  -- where the same live
  module _ (lives : w.entities ≡ v.entities) (has_transitive : wide (plain transitive) ≡ true) (has_reflexive : wide (plain reflexive) ≡ true) where
    line_same : (r : ℕ) → HasPairs wide r → (s : ℕ) → ancestor_line w.ids w.entities r s ≡ ancestor_line v.ids v.entities r s
    line_same r h s =
        let up = upward_same r h in
        λ k. ancestor_line_within (up k) (length (lives k)) s

    reaches_same : (r : ℕ) → HasPairs wide r → (s t : ℕ) → reaches w.ids w.entities r s t ≡ reaches v.ids v.entities r s t
    unfolding reaches
    reaches_same r h s t =
        let itself = held_same (plain reflexive) has_reflexive r in
        let chains = held_same (plain transitive) has_transitive r in
        let held = held_same (pair r t) (h t) s in
        let up = upward_same r h in
        λ k. itself k && s == t || (if chains k then has_chain (up k) (length (lives k) - 1) s t else held k)

    pub agree_alive : Agree wide w v
    agree_alive = record {
      ids = alike;
      risen = λ r h s p. ap (list_any p) (line_same r h s);
      reached = reaches_same;
    }
