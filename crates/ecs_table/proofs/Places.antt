-- What stands at a place of a list after an edit, as one equation.
use Rattle.std.proofs.Common.{◌≡◌, ℕ, ◌-◌, ◌≤◌, ◌<◌, List, [], ◌∷◌, ◌++◌, length, take, cond, eqb, sym, ap, ◌∙◌, false, arith, get_or, slice_get, slice_set, get_or-set_other, inl, inr, Option, Some, None}
use Rattle.std.proofs.lemmas.Grind.{get_or-set_at}
use Rattle.std.proofs.lemmas.List.{get_or-take, get_or_append_left, get_or_push, length-set, length-take, length_push}
use Rattle.std.proofs.lemmas.Option.{slice_get-get_or, slice_get_past}
use Rattle.std.proofs.lemmas.Bool.{cases_lt}
use Rattle.std.proofs.lemmas.Bool.Decides.{eqb_tells}
use Rattle.std.specs.List.{swap_remove}

pub get_pushed : {X : Type 0} (xs : List X) (y : X) (n r : ℕ) → length xs ≡ n → slice_get (xs ++ y ∷ []) r ≡ cond (eqb r n) (Some y) (slice_get xs r)
get_pushed xs y n r e =
    let long = length_push xs y in
    elim (eqb_tells r n) [
      | inl p ↦
          let here : length xs ≡ r = e ∙ sym p.1 in
          let within : r < length (xs ++ y ∷ []) = omega arith in
          slice_get-get_or (xs ++ y ∷ []) r y within ∙ ap Some (get_or_push xs y y r here) ∙ sym (ap (λ b. cond b (Some y) (slice_get xs r)) p.0)
      | inr q ↦ elim (cases_lt r (length xs)) [
        | inl a ↦
            let within : r < length (xs ++ y ∷ []) = omega arith in
            slice_get-get_or (xs ++ y ∷ []) r y within ∙ ap Some (get_or_append_left xs (y ∷ []) y r a) ∙ sym (slice_get-get_or xs r y a) ∙ sym (ap (λ b. cond b (Some y) (slice_get xs r)) q.0)
        | inr b ↦
            let other = q.1 in
            let past : length (xs ++ y ∷ []) ≤ r = omega arith in
            slice_get_past (xs ++ y ∷ []) r past ∙ sym (slice_get_past xs r b) ∙ sym (ap (λ b. cond b (Some y) (slice_get xs r)) q.0)
      ]
    ]

pub get_set : {X : Type 0} (xs : List X) (k : ℕ) (y : X) (r : ℕ) → k < length xs → slice_get (slice_set xs k y) r ≡ cond (eqb r k) (Some y) (slice_get xs r)
get_set xs k y r lt =
    let long = length-set xs k y in
    elim (eqb_tells r k) [
      | inl p ↦
          let here = p.1 in
          let within : r < length (slice_set xs k y) = omega arith in
          slice_get-get_or (slice_set xs k y) r y within ∙ ap Some (get_or-set_at xs k r y y p.1 lt) ∙ sym (ap (λ b. cond b (Some y) (slice_get xs r)) p.0)
      | inr q ↦ elim (cases_lt r (length xs)) [
        | inl a ↦
            let within : r < length (slice_set xs k y) = omega arith in
            slice_get-get_or (slice_set xs k y) r y within ∙ ap Some (get_or-set_other xs k r y y q.1) ∙ sym (slice_get-get_or xs r y a) ∙ sym (ap (λ b. cond b (Some y) (slice_get xs r)) q.0)
        | inr b ↦
            let past : length (slice_set xs k y) ≤ r = omega arith in
            slice_get_past (slice_set xs k y) r past ∙ sym (slice_get_past xs r b) ∙ sym (ap (λ b. cond b (Some y) (slice_get xs r)) q.0)
      ]
    ]

-- the place is the last one, the gap, or another
pub get_swap_removed : {X : Type 0} (xs : List X) (k : ℕ) (d : X) (n r : ℕ) → length xs ≡ n → k < n
    → slice_get (swap_remove xs k d) r ≡ cond (eqb r (n - 1)) None (cond (eqb r k) (slice_get xs (n - 1)) (slice_get xs r))
get_swap_removed xs k d n r e lt =
    let final = get_or xs (length xs - 1) d in
    let filled = slice_set xs k final in
    let left = take (length xs - 1) filled in
    let long : length left ≡ n - 1 = omega (arith, length-take (length xs - 1) filled, length-set xs k final) in
    let chosen : Option _ = cond (eqb r k) (slice_get xs (n - 1)) (slice_get xs r) in
    elim (eqb_tells r (n - 1)) [
      | inl p ↦
          let here = p.1 in
          let past : length left ≤ r = omega arith in
          slice_get_past left r past ∙ sym (ap (λ b. cond b None chosen) p.0)
      | inr q ↦
          let other = q.1 in
          elim (cases_lt r (n - 1)) [
            | inl a ↦
                let within : r < length left = omega arith in
                let low : r < length xs - 1 = omega arith in
                let inside : r < length xs = omega arith in
                let gap : k < length xs = omega arith in
                slice_get-get_or left r d within ∙ ap Some (get_or-take (length xs - 1) filled r d low) ∙ sym (slice_get-get_or filled r d (omega (arith, length-set xs k final)))
                ∙ get_set xs k final r gap
                ∙ ap (λ x. cond (eqb r k) x (slice_get xs r)) (sym (slice_get-get_or xs (length xs - 1) d (omega arith)) ∙ ap (λ m. slice_get xs (m - 1)) e)
                ∙ sym (ap (λ b. cond b None chosen) q.0)
            | inr b ↦
                let past : length left ≤ r = omega arith in
                let beyond : length xs ≤ r = omega arith in
                let elsewhere : eqb r k ≡ false = elim (eqb_tells r k) [ inl p ↦ let same = p.1 in absurd (omega arith) | inr o ↦ o.0 ] in
                slice_get_past left r past ∙ sym (slice_get_past xs r beyond) ∙ sym (ap (λ b. cond b (slice_get xs (n - 1)) (slice_get xs r)) elsewhere) ∙ sym (ap (λ b. cond b None chosen) q.0)
          ]
    ]
