-- How many moves of a plan lead to each table.
use Rattle.std.proofs.Common.{◌≡◌, ◌≢◌, ℕ, ◌+◌, ◌≤◌, ◌==◌, Bool, true, false, true≢false, cond, List, [], ◌∷◌, ◌++◌, length, Option, Some, None, unwrap_or, refl, sym, ap, subst, ◌∙◌, arith}
use Rattle.std.specs.BTreeMap as ordered
use Rattle.std.specs.BTreeMap.{BTreeMap}
use Rattle.std.specs.Option.{IfSome}
use Rattle.std.specs.Ordering.{nat_cmp, is_eq}
use Rattle.std.proofs.lemmas.Bool.Decides.{Decides-eqb, nat_tests}
use Rattle.std.proofs.lemmas.List.{length-append}
use Rattle.ecs_id.specs.declared.TableKey.{TableKey}
use Rattle.ecs_id.specs.TableKeys.{table_eq}
use Rattle.ecs_archetypes.specs.declared.plans.EntityMove.{EntityMove}
use Rattle.ecs_archetypes.specs.Moves.{moves_to}
use Rattle.ecs_archetypes.specs.Plans.{AreCounted}
use Rattle.ecs_archetypes.proofs.Placings.{table_eq-tells}
use Rattle.ecs_archetypes.proofs.MovePlans.{moves_more}

pub unequal : (a b : ℕ) → a ≢ b → is_eq (nat_cmp a b) ≡ false
unequal a b d = grind (arith, nat_tests)

length_more : (ms : List EntityMove) (m : EntityMove) → length (ms ++ m ∷ []) ≡ length ms + 1
length_more ms m = length-append ms (m ∷ [])

-- what is counted after one more move, whose table's count has risen
module _ (ms : List EntityMove) (m : EntityMove) (old new : BTreeMap ℕ ℕ) (counted : AreCounted ms old) (n : ℕ) (set : ordered.Updates nat_cmp old new (m.to).serial (Some n))
    (all : (q : TableKey) → q.serial ≡ (m.to).serial → moves_to q ms + 1 ≤ n) (few : n ≤ length ms + 1) where
  at_serial : (s : ℕ) → s ≡ (m.to).serial → ordered.get nat_cmp new s ≡ Some n
  at_serial s same = ap (ordered.get nat_cmp new) same ∙ set.1

  elsewhere : (s : ℕ) → s ≢ (m.to).serial → ordered.get nat_cmp new s ≡ ordered.get nat_cmp old s
  elsewhere s apart = set.2 s (unequal (m.to).serial s (λ h. apart (sym h)))

  enough_more : (q : TableKey) → moves_to q (ms ++ m ∷ []) ≤ unwrap_or (ordered.get nat_cmp new q.serial) 0
  enough_more q = subst (λ z. z ≤ unwrap_or (ordered.get nat_cmp new q.serial) 0) (sym (moves_more q ms m)) (by (q.serial == (m.to).serial) refl (table_eq q m.to) refl)
    where
      by : (b : Bool) → (q.serial == (m.to).serial) ≡ b → (k : Bool) → table_eq q m.to ≡ k → moves_to q ms + cond k 1 0 ≤ unwrap_or (ordered.get nat_cmp new q.serial) 0
      by true e true k = let same = (Decides-eqb q.serial (m.to).serial).0 e in let le = all q same in subst (λ o. moves_to q ms + 1 ≤ unwrap_or o 0) (sym (at_serial q.serial same)) le
      by true e false k = let same = (Decides-eqb q.serial (m.to).serial).0 e in let le = all q same in subst (λ o. moves_to q ms + 0 ≤ unwrap_or o 0) (sym (at_serial q.serial same)) (omega (arith, le))
      by false e true k = absurd (true≢false (sym ((Decides-eqb q.serial (m.to).serial).1 (ap (λ z. z.serial) ((table_eq-tells q m.to).0 k))) ∙ e))
      by false e false k = let apart : q.serial ≢ (m.to).serial = λ h. true≢false (sym ((Decides-eqb q.serial (m.to).serial).1 h) ∙ e) in
          let le = counted.enough q in subst (λ o. moves_to q ms + 0 ≤ unwrap_or o 0) (sym (elsewhere q.serial apart)) (omega (arith, le))

  within_more : (s : ℕ) → IfSome (ordered.get nat_cmp new s) (λ c. c ≤ length (ms ++ m ∷ []))
  within_more s = by (s == (m.to).serial) refl
    where
      larger : (o : Option ℕ) → IfSome o (λ c. c ≤ length ms) → IfSome o (λ c. c ≤ length (ms ++ m ∷ []))
      larger None h = h
      larger (Some c) h = let e = length_more ms m in omega (arith, e, h)

      by : (b : Bool) → (s == (m.to).serial) ≡ b → IfSome (ordered.get nat_cmp new s) (λ c. c ≤ length (ms ++ m ∷ []))
      by true e = subst (λ o. IfSome o (λ c. c ≤ length (ms ++ m ∷ []))) (sym (at_serial s ((Decides-eqb s (m.to).serial).0 e))) (subst (λ z. n ≤ z) (sym (length_more ms m)) few)
      by false e = let apart : s ≢ (m.to).serial = λ h. true≢false (sym ((Decides-eqb s (m.to).serial).1 h) ∙ e) in
          subst (λ o. IfSome o (λ c. c ≤ length (ms ++ m ∷ []))) (sym (elsewhere s apart)) (larger (ordered.get nat_cmp old s) (counted.within s))

  pub counted_more : AreCounted (ms ++ m ∷ []) new
  counted_more = record { enough = enough_more; within = within_more }
