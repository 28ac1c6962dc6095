-- A line holds just what chains lead to; so where facts are of the living alone, who else lives changes no line and nothing that is reached.
use Rattle.std.proofs.Common.{◌≡◌, ℕ, zero, suc, ◌≤◌, ◌⊎◌, Bool, true, inl, inr, List, [], ◌∷◌, length, refl, sym, subst, arith}
use Rattle.std.specs.List.{Contains, list_any}
use Rattle.std.proofs.lemmas.Bool.{cases_eq}
use Rattle.std.proofs.lemmas.List.Elements.{Contains-append_right}
use Rattle.ecs_id.specs.Id.{Id, plain}
use Rattle.ecs_model.specs.BuiltIns.{transitive, reflexive}
use Rattle.ecs_model.specs.AncestorLine.{ancestor_line_within}
use Rattle.ecs_model.specs.Links.{AreLinks, ancestor_line, is_reflexive, is_transitive, reaches, upward}
use Rattle.ecs_model.specs.Reach.{HasChain, Reached, Reaches, itself, onward}
use Rattle.ecs_model.specs.rows.View.{View}
use Rattle.ecs_model.proofs.ReachTests.{reaches_tells}
use Rattle.ecs_model.proofs.LivePairs.{upward_lives}
use Rattle.ecs_model.proofs.Members.{alike, among_others, any_passes, from_flat_map, head_or_tail, in_flat_map, others, others_fewer, passing}
use Rattle.ecs_model.proofs.ShortLines.{chain_through}
use Rattle.watch_concerns.proofs.ReachAgreement.{Agree, HasPairs, HoldAlike, held_same, upward_same}

module _ (next : ℕ → List ℕ) where
  pub line_chain : (n s t : ℕ) → Contains (ancestor_line_within next n s) t → HasChain next s t
  unfolding ancestor_line_within
  line_chain zero s t h = absurd (omega (arith, h.1))
  line_chain (suc n) s t h =
      let u = from_flat_map (λ t. t ∷ ancestor_line_within next n t) (next s) t h in
      elim (head_or_tail u.0 t (ancestor_line_within next n u.0) u.2) [
        | inl e ↦ (t, subst (Contains (next s)) e u.1, itself)
        | inr m ↦ chain_through next s u.0 t u.1 (line_chain n u.0 t m)
      ]

  -- y is reached from x by way of these alone
  data Through (live : List ℕ) (x : ℕ) : ℕ → Type 0 where
    here : Contains live x → Through live x x
    further : {y z : ℕ} → Through live x y → Contains (next y) z → Contains live z → Through live x z

  start_of : (live : List ℕ) (x : ℕ) → {y : ℕ} → Through live x y → Contains live x
  start_of live x (here h) = h
  start_of live x (further r h l) = start_of live x r

  by_living : (live : List ℕ) → ((x y : ℕ) → Contains (next x) y → Contains live y) → (x : ℕ) → Contains live x → {y : ℕ} → Reached next x y → Through live x y
  by_living live steps x there itself = here there
  by_living live steps x there (onward {y} {z} r h) = further (by_living live steps x there r) h (steps y z h)

  -- without the way back to x
  cut : (live : List ℕ) (x : ℕ) (m : Contains live x) → {y : ℕ} → Through live x y → (x ≡ y) ⊎ ((u : ℕ) × Contains (next x) u × Through (others live m.0) u y)
  cut live x m (here h) = inl refl
  cut live x m (further {y} {z} r h l) = elim (cases_eq x z) [
    | inl e ↦ inl e
    | inr apart ↦
        let there = among_others live m.0 x z m.1 m.2 apart l in
        elim (cut live x m r) [
          | inl q ↦ inr (z, subst (λ k. Contains (next k) z) (sym q) h, here there)
          | inr p ↦ inr (p.0, p.1, further p.2 h there)
        ]
  ]

  in_line : (n : ℕ) (live : List ℕ) → length live ≤ suc n → (x y : ℕ) → Through live x y → (x ≡ y) ⊎ Contains (ancestor_line_within next n x) y
  unfolding ancestor_line_within
  in_line zero live l x y r =
      let m = start_of live x r in
      elim (cut live x m r) [
        | inl q ↦ inl q
        | inr p ↦ absurd (omega (arith, (start_of (others live m.0) p.0 p.2).1, others_fewer live m.0 m.1))
      ]
  in_line (suc n) live l x y r =
      let m = start_of live x r in
      elim (cut live x m r) [
        | inl q ↦ inl q
        | inr p ↦ inr (in_flat_map (λ t. t ∷ ancestor_line_within next n t) (next x) p.0 y p.1 (there n p.0 y (in_line n (others live m.0) (omega (arith, others_fewer live m.0 m.1)) p.0 y p.2)))
      ]
    where
      there : (n u y : ℕ) → (u ≡ y) ⊎ Contains (ancestor_line_within next n u) y → Contains (u ∷ ancestor_line_within next n u) y
      there n u y (inl e) = (0, omega arith, e)
      there n u y (inr h) = Contains-append_right (u ∷ []) (ancestor_line_within next n u) y h

  pub chain_line : (live : List ℕ) → ((x y : ℕ) → Contains (next x) y → Contains live y) → (s t : ℕ) → HasChain next s t → Contains (ancestor_line_within next (length live) s) t
  unfolding ancestor_line_within
  chain_line [] steps s t c = absurd (omega (arith, (steps s c.0 c.1).1))
  chain_line (l ∷ ls) steps s t c =
      let r = in_line (length ls) (l ∷ ls) (omega arith) c.0 t (by_living (l ∷ ls) steps c.0 (steps s c.0 c.1) c.2) in
      in_flat_map (λ t. t ∷ ancestor_line_within next (length ls) t) (next s) c.0 t c.1
      (elim r [ inl e ↦ (0, omega arith, e) | inr h ↦ Contains-append_right (c.0 ∷ []) (ancestor_line_within next (length ls) c.0) t h ])

-- two lists with the same members: a test passes for some of both
any_alike : (p : ℕ → Bool) (xs ys : List ℕ) → ((x : ℕ) → Contains xs x → Contains ys x) → ((x : ℕ) → Contains ys x → Contains xs x) → list_any p xs ≡ list_any p ys
any_alike p xs ys f g =
    alike (list_any p xs) (list_any p ys)
    (λ h. let x = passing p xs h in any_passes p ys x.0 (f x.0 x.1) x.2)
    (λ h. let x = passing p ys h in any_passes p xs x.0 (g x.0 x.1) x.2)

module _ (wide : Id → Bool) {m n : ℕ} (w v : View) (links : AreLinks m w.entities w.ids) (links' : AreLinks n v.entities v.ids) (held : HoldAlike wide w v) where
  risen_alike : (r : ℕ) → HasPairs wide r → (s : ℕ) (p : ℕ → Bool) → list_any p (ancestor_line w.ids w.entities r s) ≡ list_any p (ancestor_line v.ids v.entities r s)
  risen_alike r h s p =
      let up = upward_same wide w v held r h in
      any_alike p (ancestor_line w.ids w.entities r s) (ancestor_line v.ids v.entities r s)
      (λ x i. chain_line (upward v.ids r) v.entities (upward_lives links' r) s x (subst (λ next. HasChain next s x) up (line_chain (upward w.ids r) (length w.entities) s x i)))
      (λ x i. chain_line (upward w.ids r) w.entities (upward_lives links r) s x (subst (λ next. HasChain next s x) (sym up) (line_chain (upward v.ids r) (length v.entities) s x i)))

  module _ (has_transitive : wide (plain transitive) ≡ true) (has_reflexive : wide (plain reflexive) ≡ true) where
    reached_alike : (r : ℕ) → HasPairs wide r → (s t : ℕ) → reaches w.ids w.entities r s t ≡ reaches v.ids v.entities r s t
    reached_alike r h s t =
        let itself = held_same wide w v held (plain reflexive) has_reflexive r in
        let chains = held_same wide w v held (plain transitive) has_transitive r in
        let up = upward_same wide w v held r h in
        let same : Reaches (is_transitive w.ids r) (is_reflexive w.ids r) (upward w.ids r) s t ≡ Reaches (is_transitive v.ids r) (is_reflexive v.ids r) (upward v.ids r) s t
        = λ k. Reaches (chains k) (itself k) (up k) s t in
        let here = reaches_tells links r s t in
        let there = reaches_tells links' r s t in
        alike (reaches w.ids w.entities r s t) (reaches v.ids v.entities r s t)
        (λ e. there.1 (subst (λ X. X) same (here.0 e)))
        (λ e. here.1 (subst (λ X. X) (sym same) (there.0 e)))

    pub agree_linked : Agree wide w v
    agree_linked = record { ids = held; risen = risen_alike; reached = reached_alike }
