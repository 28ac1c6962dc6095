-- A walk along a list that grows: where each of its members has brought those to whom a step leads, all are in it to whom steps lead from its first ones.
use Rattle.std.specs.Prelude.{◌≡◌, ℕ, ◌+◌, ◌<◌, ◌≤◌, List, [], ◌∷◌, ◌++◌, length, take}
use Rattle.std.specs.List.{Contains}
use Rattle.std.proofs.Common.{sym, ap, subst, ◌∙◌, inl, inr, append_assoc, arith, get_or}
use Rattle.std.proofs.lemmas.List.{take-append-le, take_all, take_more}
use Rattle.std.proofs.lemmas.List.Elements.{Contains-append_cases, Contains-append_left}
use Rattle.ecs_model.specs.Reach.{Reached, itself, onward}
use Rattle.ecs_model.proofs.Members.{head_or_tail}
use Rattle.watch_touched.specs.Leaning.{Adds, IsClosed}
use Rattle.watch_touched.proofs.GrownLists.{nothing_behind, still}

module _ (next : ℕ → List ℕ) where
  -- a list has grown, and has all to whom a step leads from one of its first n
  pub record IsWalked (start found : List ℕ) (n : ℕ) : Type 0 where
    pub more : List ℕ
    pub behind : found ≡ start ++ more
    pub stepped : (x e : ℕ) → Contains (take n found) x → Contains (next x) e → Contains found e

  pub begun : (start : List ℕ) → IsWalked start start 0
  begun start = record { more = []; behind = nothing_behind start; stepped = λ x e h leads. absurd (omega (arith, h.1)) }

  pub walked_on : (start found after : List ℕ) (n d : ℕ) → IsWalked start found n → n < length found → Adds (next (get_or found n d)) found after → IsWalked start after (n + 1)
  walked_on start found after n d h inside k = record {
    more = h.more ++ k.more;
    behind = k.behind ∙ ap (λ es. es ++ k.more) h.behind ∙ append_assoc start h.more k.more;
    stepped = λ x e there leads.
        let taken : take (n + 1) after ≡ take n found ++ (get_or found n d ∷ []) = ap (take (n + 1)) k.behind ∙ take-append-le (n + 1) found k.more (omega arith) ∙ take_more found n d inside in
        elim (Contains-append_cases (take n found) (get_or found n d ∷ []) x (subst (λ es. Contains es x) taken there)) [
          | inl earlier ↦ still (next (get_or found n d)) found after k e (h.stepped x e earlier leads)
          | inr last ↦ elim (head_or_tail (get_or found n d) x [] last) [
            | inl same ↦ k.all e (subst (λ y. Contains (next y) e) (sym same) leads)
            | inr none ↦ absurd (omega (arith, none.1))
          ]
        ];
  }

  pub all_walked : (start found : List ℕ) (n : ℕ) → IsWalked start found n → length found ≤ n → IsClosed next start found
  all_walked start found n h over = record {
    begun = λ x there. subst (λ es. Contains es x) (sym h.behind) (Contains-append_left start h.more x there);
    stepped = λ x y there leads. h.stepped x y (subst (λ es. Contains es x) (sym (take_all n found over)) there) leads;
  }

  -- so all to whom steps lead are in it
  pub all_reached : (start found : List ℕ) → IsClosed next start found → (x e : ℕ) → Contains start x → Reached next x e → Contains found e
  all_reached start found h x e there reached = by reached
    where
      by : {y : ℕ} → Reached next x y → Contains found y
      by itself = h.begun x there
      by (onward {y} {z} r leads) = h.stepped y z (by r) leads
