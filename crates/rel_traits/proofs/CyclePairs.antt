-- Where the added pairs close a cycle.
use Rattle.std.proofs.Common.{◌≡◌, ◌↔◌, ◌⊎◌, ℕ, ◌==◌, Bool, true, false, cond, not, List, [], ◌∷◌, ◌++◌, refl, sym, ap, ◌∙◌, inl, inr, arith, true≢false}
use Rattle.std.specs.List.{Contains, filter, flat_map}
use Rattle.std.proofs.lemmas.Bool.Decides.{nat_tests}
use Rattle.std.proofs.lemmas.List.Elements.{Contains-append_left, Contains-push, Contains-push_cases}
use Rattle.std.proofs.lemmas.Bool.{eqb-true}
use Rattle.ecs_id.specs.Id.{Id, pair, first_of, target_or_zero}
use Rattle.ecs_model.specs.World.{Key}
use Rattle.ecs_model.specs.Cycles.{HasCycle, after_step}
use Rattle.ecs_model.specs.Links.{upward}
use Rattle.ecs_model.specs.Reach.{Reached, itself, onward}
use Rattle.ecs_model.proofs.Members.{filtered}
use Rattle.ecs_model.proofs.ClosedChains.{steps_close_chains}
use Rattle.ecs_model.proofs.Members.{from_flat_map, head_or_tail, in_flat_map}
use Rattle.ecs_model.specs.Added.{IsAdded, IsReplaced}
use Rattle.rel_traits.specs.After.{IsAfter, IsTurned, OneWayPairsClose, OthersStayOpen, TurnedPairsClose}
use Rattle.ecs_model.specs.Added.{displaced, is_exclusive, is_symmetric}
use Rattle.rel_traits.proofs.AddedSets.{is_along, is_back, joined, pair_only}

-- more steps keep a cycle
pub wider_cycle : (f g : ℕ → List ℕ) → ((x y : ℕ) → Contains (f x) y → Contains (g x) y) → HasCycle f → HasCycle g
wider_cycle f g wider c = (c.0, ((c.1).0, wider c.0 (c.1).0 (c.1).1, go (c.1).2))
  where
    go : {x y : ℕ} → Reached f x y → Reached g x y
    go itself = itself
    go (onward {y} {z} r h) = onward (go r) (wider y z h)

other_number : (x y : ℕ) → (x == y) ≡ false → ¬ (x ≡ y)
other_number x y e q = absurd (true≢false (sym (grind (arith, nat_tests, q)) ∙ e))

module _ (ids : ℕ → List Id) where
  -- what is displaced: pairs of the same relationship
  pub gone : (x c t : ℕ) (z : Key) → Contains (displaced ids (x, pair c t)) z
      → (is_exclusive ids c ≡ true) × ((u : ℕ) × ¬ (u ≡ t) × ((z ≡ (x, pair c u)) ⊎ ((is_symmetric ids c ≡ true) × (z ≡ (u, pair c x)))))
  gone x c t z h = by (is_exclusive ids c) refl h
    where
      at_mirror : (u : ℕ) (s : Bool) → Contains (cond s ((u, pair c x) ∷ []) []) z → (s ≡ true) × (z ≡ (u, pair c x))
      at_mirror u true m = elim (Contains-push_cases [] (u, pair c x) z m) [ inl n ↦ absurd (omega (arith, n.1)) | inr q ↦ (refl, sym q) ]
      at_mirror u false m = absurd (omega (arith, m.1))

      by : (b : Bool) → is_exclusive ids c ≡ b → Contains (cond b (flat_map (λ u. (x, pair c u) ∷ cond (is_symmetric ids c) ((u, pair c x) ∷ []) []) (filter (λ u. not (u == t)) (upward ids c x))) []) z
          → (is_exclusive ids c ≡ true) × ((u : ℕ) × ¬ (u ≡ t) × ((z ≡ (x, pair c u)) ⊎ ((is_symmetric ids c ≡ true) × (z ≡ (u, pair c x)))))
      by false e m = absurd (omega (arith, m.1))
      by true e m =
          let f = from_flat_map (λ u. (x, pair c u) ∷ cond (is_symmetric ids c) ((u, pair c x) ∷ []) []) (filter (λ u. not (u == t)) (upward ids c x)) z m in
          let kept = (filtered (λ u. not (u == t)) (upward ids c x) f.0).0 f.1 in (
            e,
            (
              f.0,
              differs f.0 kept.1,
              elim (head_or_tail (x, pair c f.0) z (cond (is_symmetric ids c) ((f.0, pair c x) ∷ []) []) f.2) [ inl q ↦ inl (sym q) | inr q ↦ inr (at_mirror f.0 (is_symmetric ids c) q) ],
            ),
          )
        where
          differs : (u : ℕ) → not (u == t) ≡ true → ¬ (u ≡ t)
          differs u d q = absurd (true≢false (sym d ∙ grind (arith, nat_tests, q)))

  goes : (x c t y : ℕ) → is_exclusive ids c ≡ true → (y == t) ≡ false → Contains (upward ids c x) y → Contains (displaced ids (x, pair c t)) (x, pair c y)
  goes x c t y e d h =
      let kept = (filtered (λ u. not (u == t)) (upward ids c x) y).1 (h, ap not d) in
      rw e (in_flat_map (λ u. (x, pair c u) ∷ cond (is_symmetric ids c) ((u, pair c x) ∷ []) []) (filter (λ u. not (u == t)) (upward ids c x)) y (x, pair c y) kept (0, omega arith, refl))

  module _ (e r t c : ℕ) where
    abbrev withs : ℕ → List ℕ
    withs = upward ids 13

    -- an added pair of c is the one, or c comes both ways
    came : (x y : ℕ) → IsAdded ids (e, pair r t) (x, pair c y) → ((x ≡ e) × (y ≡ t) × Reached withs r c) ⊎ IsTurned ids r c
    came x y h =
        elim (pair_only ids e r t h) [
          | inl (d, p, same) ↦
              let q : c ≡ d = ap (λ (k : Key). first_of k.1) same in
              inl (ap (λ (k : Key). k.0) same, ap (λ (k : Key). target_or_zero k.1) same, rw q p)
          | inr (d, b, p, s, w, same) ↦ let q : c ≡ d = ap (λ (k : Key). first_of k.1) same in inr (b, p, s, rw q w)
        ]

    -- a replaced pair of c starts at e, or c comes both ways
    went : (x y : ℕ) → IsReplaced ids (e, pair r t) (x, pair c y) → ((x ≡ e) × (is_exclusive ids c ≡ true)) ⊎ IsTurned ids r c
    went x y h =
        elim (pair_only ids e r t h.1) [
          | inl (d, p, same) ↦
              let g = gone e d t (x, pair c y) (rw same at h.2) in
              by_own d p g.0 (g.1).0 (g.1).2
          | inr (d, b, p, s, w, same) ↦
              let g = gone t d e (x, pair c y) (rw same at h.2) in
              let q = of_same d t (g.1).0 (g.1).2 in inr (b, p, s, rw q w)
        ]
      where
        of_same : (d v u : ℕ) → (◌≡◌ {A = Key} (x, pair c y) (v, pair d u)) ⊎ ((is_symmetric ids d ≡ true) × (◌≡◌ {A = Key} (x, pair c y) (u, pair d v))) → c ≡ d
        of_same d v u (inl q) = ap (λ (k : Key). first_of k.1) q
        of_same d v u (inr q) = ap (λ (k : Key). first_of k.1) q.1

        by_own : (d : ℕ) → Reached withs r d → is_exclusive ids d ≡ true → (u : ℕ) → (◌≡◌ {A = Key} (x, pair c y) (e, pair d u)) ⊎ ((is_symmetric ids d ≡ true) × (◌≡◌ {A = Key} (x, pair c y) (u, pair d e)))
            → ((x ≡ e) × (is_exclusive ids c ≡ true)) ⊎ IsTurned ids r c
        by_own d p ex u (inl q) = let same : c ≡ d = ap (λ (k : Key). first_of k.1) q in inl (ap (λ (k : Key). k.0) q, rw same ex)
        by_own d p ex u (inr q) = let same : c ≡ d = ap (λ (k : Key). first_of k.1) q.1 in inr (d, p, q.0, rw same itself)

    module _ (next : ℕ → List ℕ) (after : IsAfter ids (e, pair r t) c next) where
      new_there : Reached withs r c → Contains (next e) t
      new_there p = (after e t).1 (inl (is_along ids e (pair r t) (c, p, refl)))

      both_ways : Reached withs r c → IsTurned ids r c → HasCycle next
      both_ways p s =
          let back : Contains (next t) e = (after t e).1 (inl (is_back ids e r t (c, s.0, s.1, s.2, s.3, refl))) in
          (e, (t, new_there p, onward itself back))

      stays_open : ¬ (HasCycle (upward ids c)) → ¬ (Reached withs r c) → ¬ (HasCycle next)
      stays_open none out h = none (wider_cycle next (upward ids c) before h)
        where
          before : (x y : ℕ) → Contains (next x) y → Contains (upward ids c x) y
          before x y m =
              elim ((after x y).0 m) [
                | inl a ↦ elim (came x y a) [ inl q ↦ absurd (out q.2) | inr s ↦ absurd (out (joined s.1 s.3)) ]
                | inr k ↦ k.0
              ]

      module _ (p : Reached withs r c) (one_way : ¬ (IsTurned ids r c)) where
        abbrev stepped : ℕ → List ℕ
        stepped = after_step (upward ids c) (is_exclusive ids c) e t

        is_new : (only : Bool) → Contains (cond only (t ∷ []) (upward ids c e ++ t ∷ [])) t
        is_new true = Contains-push [] t
        is_new false = Contains-push (upward ids c e) t

        itself_same : (x : ℕ) → (x == x) ≡ true
        itself_same x = grind (arith, nat_tests)

        into : (x y : ℕ) → Contains (next x) y → Contains (stepped x) y
        into x y m =
            elim ((after x y).0 m) [
              | inl a ↦ elim (came x y a) [ inl q ↦ rw (q.0, q.1, itself_same e) (is_new (is_exclusive ids c)) | inr s ↦ absurd (one_way s) ]
              | inr k ↦ kept (x == e) refl (is_exclusive ids c) refl (y == t) refl k.0 k.1
            ]
          where
            kept : (here : Bool) → (x == e) ≡ here → (only : Bool) → is_exclusive ids c ≡ only → (end : Bool) → (y == t) ≡ end → Contains (upward ids c x) y → ¬ (IsReplaced ids (e, pair r t) (x, pair c y))
                → Contains (cond here (cond only (t ∷ []) (upward ids c x ++ t ∷ [])) (upward ids c x)) y
            kept false h only o end d m not_gone = m
            kept true h false o end d m not_gone = Contains-append_left (upward ids c x) (t ∷ []) y m
            kept true h true o true d m not_gone = rw (eqb-true y t d) (Contains-push [] t)
            kept true h true o false d m not_gone =
                let at_e = eqb-true x e h in
                absurd (not_gone ((e, pair c t), is_along ids e (pair r t) (c, p, refl), rw at_e (goes e c t y o d (rw at_e at m))))

        out_of : (x y : ℕ) → Contains (stepped x) y → Contains (next x) y
        out_of x y m = by (x == e) refl (is_exclusive ids c) refl m
          where
            stay : Contains (upward ids c x) y → ¬ ((x ≡ e) × (is_exclusive ids c ≡ true)) → Contains (next x) y
            stay h free = (after x y).1 (inr (h, λ g. elim (went x y g) [ inl q ↦ free q | inr s ↦ one_way s ]))

            by : (here : Bool) → (x == e) ≡ here → (only : Bool) → is_exclusive ids c ≡ only → Contains (cond here (cond only (t ∷ []) (upward ids c x ++ t ∷ [])) (upward ids c x)) y → Contains (next x) y
            by false h only o m = stay m (λ q. other_number x e h q.0)
            by true h true o m = elim (Contains-push_cases [] t y m) [ inl n ↦ absurd (omega (arith, n.1)) | inr q ↦ rw (eqb-true x e h, ← q) (new_there p) ]
            by true h false o m =
                elim (Contains-push_cases (upward ids c x) t y m) [
                  | inl n ↦ stay n (λ q. true≢false (sym q.1 ∙ o))
                  | inr q ↦ rw (eqb-true x e h, ← q) (new_there p)
                ]

        one_way_closes : ¬ (HasCycle (upward ids c)) → HasCycle next ↔ Reached (upward ids c) t e
        one_way_closes none =
            let closes = steps_close_chains (upward ids c) none (is_exclusive ids c) e t in
            (λ h. closes.0 (wider_cycle next stepped into h), λ b. wider_cycle stepped next out_of (closes.1 b))

pub turned_pairs_close : TurnedPairsClose
turned_pairs_close ids e r t c next after p s = both_ways ids e r t c next after p s

pub one_way_pairs_close : OneWayPairsClose
one_way_pairs_close ids e r t c next after none p one_way = one_way_closes ids e r t c next after p one_way none

pub others_stay_open : OthersStayOpen
others_stay_open ids e r t c next after none out = stays_open ids e r t c next after none out
