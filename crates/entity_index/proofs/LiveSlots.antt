-- The live entities, gone through slot by slot.
use Rattle.std.proofs.Common.{Some, None, ◌≡◌, ℕ, suc, ◌+◌, ◌<◌, Bool, true, false, cond, List, [], ◌∷◌, map, length, refl, ap, ◌∙◌, arith, sym, subst}
use Rattle.ecs_id.specs.declared.EntityId.{EntityId}
use Rattle.entity_index.specs.declared.slot.EntitySlot.{EntitySlot}
use Rattle.entity_index.specs.Slots.{slot_at, generation_of, with_entry, entries_from, live_from, IsRest, generations}

abbrev entity_of : ℕ × ℕ → EntityId
entity_of e = record { index = e.0; generation = e.1 }

one_slot : (n d : ℕ) (live : Bool) (es : List (ℕ × ℕ)) (rest : List EntityId) → rest ≡ map entity_of es
    → cond live (record { index = n; generation = d } ∷ rest) rest ≡ map entity_of (with_entry n (cond live (Some d) None) es)
one_slot n d true es rest e = ap (λ r. record { index = n; generation = d } ∷ r) e
one_slot n d false es rest e = e

pub live_from-entries : (n : ℕ) (slots : List EntitySlot) → live_from n slots ≡ map entity_of (entries_from generation_of n slots)
live_from-entries n [] = refl
live_from-entries n (s ∷ slots) = one_slot n s.deletions s.live _ _ (live_from-entries (suc n) slots)

-- one slot on
pub IsRest-tail : (n : ℕ) (xs : List EntitySlot) (s : EntitySlot) (ys : List EntitySlot) → IsRest n xs → xs ≡ s ∷ ys → IsRest (n + 1) ys
IsRest-tail n xs s ys is e = record {
  range = omega (arith, ap length e, is.range);
  generation = λ i live. let at : slot_at xs (suc i) ≡ slot_at ys i = ap (λ zs. slot_at zs (suc i)) e in
      subst (λ t. t.deletions < generations) at (is.generation (suc i) (ap (λ t. t.live) at ∙ live));
}

pub IsRest-head : (n : ℕ) (xs : List EntitySlot) (s : EntitySlot) (ys : List EntitySlot) → IsRest n xs → xs ≡ s ∷ ys → s.live ≡ true → s.deletions < generations
IsRest-head n xs s ys is e live = let at : slot_at xs 0 ≡ s = ap (λ zs. slot_at zs 0) e in subst (λ t. t.deletions < generations) at (is.generation 0 (ap (λ t. t.live) at ∙ live))

pub live_from-dead : (n : ℕ) (xs : List EntitySlot) (s : EntitySlot) (ys : List EntitySlot) → xs ≡ s ∷ ys → s.live ≡ false → live_from (n + 1) ys ≡ live_from n xs
live_from-dead n xs s ys e dead = let next : n + 1 ≡ suc n = omega arith in
    ap (λ m. live_from m ys) next ∙ sym (ap (live_from n) e ∙ ap (λ b. cond b (record { index = n; generation = s.deletions } ∷ live_from (suc n) ys) (live_from (suc n) ys)) dead)
