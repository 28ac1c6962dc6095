-- A world stays well formed where one stored query more or less mentions an entity.
use Rattle.std.specs.Cmp.{nat_cmp_total}
use Rattle.std.specs.Ordering.{nat_cmp}
use Rattle.std.specs.Prelude.{◌≡◌, ◌≢◌, ◌⊎◌, ℕ, zero, suc, ◌+◌, ◌-◌, ◌^◌, ◌<◌, ◌==◌, Bool, true, false, not, Option, Some, None, cond, unwrap_or, Result, Ok, Err, if◌then◌else◌}
use Rattle.std.proofs.Common.{refl, sym, ap, subst, ◌∙◌, inl, inr, arith, true≢false}
use Rattle.std.proofs.lemmas.Bool.Decides.{nat_tests}
use Rattle.ecs_id.specs.declared.EntityId.{EntityId}
use Rattle.ecs_model.specs.declared.faults.Refusal.{Refusal}
use Rattle.ecs_model.specs.declared.faults.Refusal.TheVariants.{Dead}
use Rattle.ecs_model.specs.Map.{Map, IsMap, value_at, with_value, without, count_at}
use Rattle.ecs_model.specs.World.{WorldState, is_live, is_alive}
use Rattle.ecs_model.specs.steps.WellFormed.{IsWellFormed}
use Rattle.ecs_model.specs.steps.StepLaws.{PinsKeep}
use Rattle.ecs_model.specs.steps.Pins.{most_pins, with_count, one_more, one_less, with_pins, pin, unpin}
use Rattle.ecs_model.proofs.Maps.{of_some, if_some, IsMap-with_value, nat_value_at}
use Rattle.ecs_model.proofs.Members.{eq_itself, eq_same}
use Rattle.ecs_model.proofs.MadeEntities.{there}
use Rattle.ecs_model.proofs.steps.Deletions.{nat_IsMap-without, nat_value_at-without, was}
use Rattle.ecs_model.proofs.steps.NewEntities.{same_facts_keep}

pub IsMap-with_count : (m : Map ℕ ℕ) (i n : ℕ) → IsMap nat_cmp m → IsMap nat_cmp (with_count m i n)
IsMap-with_count m i zero h = nat_IsMap-without m (λ j. j == i) h
IsMap-with_count m i (suc n) h = IsMap-with_value nat_cmp nat_cmp_total m i (suc n) h

-- a count is the new one, and not 0, or as it was
value_at-with_count : (m : Map ℕ ℕ) (i n j x : ℕ) → value_at nat_cmp (with_count m i n) j ≡ Some x → ((j ≡ i) × (n ≡ x) × (0 < n)) ⊎ (value_at nat_cmp m j ≡ Some x)
value_at-with_count m i zero j x f =
    inr (was (j == i) (value_at nat_cmp (without nat_cmp m (λ j. j == i)) j) (value_at nat_cmp m j) (nat_value_at-without m (λ j. j == i) j) x f).1
value_at-with_count m i (suc n) j x f =
    elim (nat_value_at m i (suc n) j) [
      | inl p ↦ let same : Some (suc n) ≡ Some x = sym p.1 ∙ f in let is : suc n ≡ x = cc in inl (p.0, is, omega arith)
      | inr p ↦ inr (sym p.1 ∙ f)
    ]

-- the count at its number is the new one, and each other is as it was
pub count-with_count : (m : Map ℕ ℕ) (i n j : ℕ) → count_at (with_count m i n) j ≡ cond (j == i) n (count_at m j)
count-with_count m i zero j = ap (λ o. unwrap_or o 0) (nat_value_at-without m (λ k. k == i) j) ∙ by (j == i)
  where
    by : (b : Bool) → unwrap_or (cond (not b) (value_at nat_cmp m j) None) 0 ≡ cond b 0 (count_at m j)
    by true = refl
    by false = refl
count-with_count m i (suc n) j = by (j == i) refl (nat_value_at m i (suc n) j)
  where
    by : (b : Bool) → (j == i) ≡ b
        → ((j ≡ i) × (value_at nat_cmp (with_value nat_cmp m i (suc n)) j ≡ Some (suc n))) ⊎ ((j ≢ i) × (value_at nat_cmp (with_value nat_cmp m i (suc n)) j ≡ value_at nat_cmp m j))
        → count_at (with_value nat_cmp m i (suc n)) j ≡ cond b (suc n) (count_at m j)
    by true e (inl p) = ap (λ o. unwrap_or o 0) p.1
    by true e (inr p) = absurd (p.0 (eq_same j i e))
    by false e (inl p) = absurd (true≢false (sym (eq_itself i) ∙ (ap (λ x. x == i) (sym p.0) ∙ e)))
    by false e (inr p) = ap (λ o. unwrap_or o 0) p.1

module _ (w : WorldState) (h : IsWellFormed w) where
  count_small : (i : ℕ) → count_at w.pins i < 2 ^ 64
  count_small i = by (value_at nat_cmp w.pins i) refl
    where
      by : (o : Option ℕ) → value_at nat_cmp w.pins i ≡ o → unwrap_or o 0 < 2 ^ 64
      by None p = omega arith
      by (Some n) p = (of_some (λ n. (is_live w i ≡ true) × (0 < n) × (n < 2 ^ 64)) (value_at nat_cmp w.pins i) ((h.live).pins i) n p).2

  counts_live : (i n : ℕ) → is_live w i ≡ true → n < 2 ^ 64 → (j x : ℕ) → value_at nat_cmp (with_count w.pins i n) j ≡ Some x → (is_live w j ≡ true) × (0 < x) × (x < 2 ^ 64)
  counts_live i n l small j x f =
      elim (value_at-with_count w.pins i n j x f) [
        | inl p ↦ (ap (is_live w) p.0 ∙ l, omega (arith, p.1, p.2), omega (arith, p.1))
        | inr p ↦ of_some (λ n. (is_live w j ≡ true) × (0 < n) × (n < 2 ^ 64)) (value_at nat_cmp w.pins j) ((h.live).pins j) x p
      ]

  pub count_keeps : (i n : ℕ) → is_live w i ≡ true → n < 2 ^ 64 → IsWellFormed (record w { pins = with_count w.pins i n })
  count_keeps i n l small =
      let v : WorldState = record w { pins = with_count w.pins i n } in
      record {
        in_order = record {
          live = (h.in_order).live;
          facts = (h.in_order).facts;
          names = (h.in_order).names;
          schemas = (h.in_order).schemas;
          deletions = (h.in_order).deletions;
          pins = IsMap-with_count w.pins i n (h.in_order).pins;
        };
        indexes = record { given_out = (h.indexes).given_out; generation = (h.indexes).generation };
        built_in = record { live = (h.built_in).live; names = (h.built_in).names; facts = (h.built_in).facts; schemas = (h.built_in).schemas };
        live = record {
          names = (h.live).names;
          names_differ = (h.live).names_differ;
          schemas = (h.live).schemas;
          pins = λ j. if_some (λ n. (is_live w j ≡ true) × (0 < n) × (n < 2 ^ 64)) (value_at nat_cmp (with_count w.pins i n) j) (counts_live i n l small j);
          facts = (h.live).facts;
        };
        typed = h.typed;
        few_ids = h.few_ids;
        counted = h.counted;
        traits = same_facts_keep w v h.traits refl;
      }

  more_small : (n : ℕ) → n < 2 ^ 64 → one_more n < 2 ^ 64
  more_small n l = by (n == most_pins) refl
    where
      by : (b : Bool) → (n == most_pins) ≡ b → cond b n (n + 1) < 2 ^ 64
      by true e = l
      by false e = grind (arith, nat_tests)

  less_small : (n : ℕ) → n < 2 ^ 64 → one_less n < 2 ^ 64
  less_small n l = by (n == most_pins)
    where
      by : (b : Bool) → cond b n (n - 1) < 2 ^ 64
      by true = l
      by false = omega arith

  alive_live : (e : EntityId) → is_alive w e ≡ true → is_live w e.index ≡ true
  alive_live e a = there (value_at nat_cmp w.live e.index) e.generation a

  pin_keeps : (e : EntityId) (v : WorldState) → pin w e ≡ Ok v → IsWellFormed v
  unfolding pin
  pin_keeps e v f = by (is_alive w e) refl f
    where
      next : WorldState
      next = with_pins w one_more e.index

      answer : Bool → Result WorldState Refusal
      answer b = if b then Ok next else Err Dead

      by : (b : Bool) → is_alive w e ≡ b → answer b ≡ Ok v → IsWellFormed v
      by true a q = let same : next ≡ v = cc in subst IsWellFormed same (count_keeps e.index (one_more (count_at w.pins e.index)) (alive_live e a) (more_small (count_at w.pins e.index) (count_small e.index)))
      by false a q = absurd cc

  unpin_keeps : (e : EntityId) → IsWellFormed (unpin w e)
  unfolding unpin
  unpin_keeps e = by (is_alive w e) refl
    where
      by : (b : Bool) → is_alive w e ≡ b → IsWellFormed (if b then with_pins w one_less e.index else w)
      by true a = count_keeps e.index (one_less (count_at w.pins e.index)) (alive_live e a) (less_small (count_at w.pins e.index) (count_small e.index))
      by false a = h

pub pins_keep : PinsKeep
pins_keep w e h = (λ v f. pin_keeps w h e v f, unpin_keeps w h e)
