-- Lines that begin with one of the words that most lines begin with, before a space.
use Rattle.std.proofs.Common.{◌≡◌, ℕ, ◌≤◌, List, [], ◌∷◌, drop, get_or, length, sym, ap, ◌∙◌, arith}
use Rattle.ecs_model.specs.Orders.{AddTo, DeleteOne, MakeEntity, MakeFresh, RemoveFrom}
use Rattle.ecs_model.specs.Text.{words}
use Rattle.ecs_model.specs.Script.{CarryOut, entity_line, fact_line, forms, nothing_more, one_word, set_line}
use Rattle.ecs_model.specs.stored.Session.{InWorld}
use Rattle.script_line.specs.Line.{by_first_word}

-- a list by its first items
four : (bs : List ℕ) (a b c d : ℕ) → 4 ≤ length bs → get_or bs 0 0 ≡ a → get_or bs 1 0 ≡ b → get_or bs 2 0 ≡ c → get_or bs 3 0 ≡ d → bs ≡ a ∷ b ∷ c ∷ d ∷ drop 4 bs
four [] a b c d long e f g h = absurd (omega arith)
four (w ∷ []) a b c d long e f g h = absurd (omega arith)
four (w ∷ x ∷ []) a b c d long e f g h = absurd (omega arith)
four (w ∷ x ∷ y ∷ []) a b c d long e f g h = absurd (omega arith)
four (w ∷ x ∷ y ∷ z ∷ r) a b c d long e f g h = λ i. e i ∷ f i ∷ g i ∷ h i ∷ r

module _ (bs rest : List ℕ) (behind : rest ≡ drop 3 bs) (long : 4 ≤ length bs) where
  pub opened_set : get_or bs 0 0 ≡ 115 → get_or bs 1 0 ≡ 101 → get_or bs 2 0 ≡ 116 → get_or bs 3 0 ≡ 32 → fact_line set_line rest ≡ by_first_word bs
  unfolding forms
  opened_set e f g h = let is : bs ≡ 115 ∷ 101 ∷ 116 ∷ 32 ∷ drop 4 bs = four bs 115 101 116 32 long e f g h in
      ap (fact_line set_line) (behind ∙ ap (drop 3) is) ∙ sym (ap by_first_word is)

  pub opened_add : get_or bs 0 0 ≡ 97 → get_or bs 1 0 ≡ 100 → get_or bs 2 0 ≡ 100 → get_or bs 3 0 ≡ 32 → fact_line (λ r i. nothing_more (CarryOut (InWorld (AddTo r i)))) rest ≡ by_first_word bs
  unfolding forms
  opened_add e f g h = let is : bs ≡ 97 ∷ 100 ∷ 100 ∷ 32 ∷ drop 4 bs = four bs 97 100 100 32 long e f g h in
      ap (fact_line (λ r i. nothing_more (CarryOut (InWorld (AddTo r i))))) (behind ∙ ap (drop 3) is) ∙ sym (ap by_first_word is)

seven : (bs : List ℕ) (a b c d p q s : ℕ) → 7 ≤ length bs → get_or bs 0 0 ≡ a → get_or bs 1 0 ≡ b → get_or bs 2 0 ≡ c → get_or bs 3 0 ≡ d → get_or bs 4 0 ≡ p → get_or bs 5 0 ≡ q → get_or bs 6 0 ≡ s
    → bs ≡ a ∷ b ∷ c ∷ d ∷ p ∷ q ∷ s ∷ drop 7 bs
seven [] a b c d p q s long e f g h j k l = absurd (omega arith)
seven (t ∷ []) a b c d p q s long e f g h j k l = absurd (omega arith)
seven (t ∷ u ∷ []) a b c d p q s long e f g h j k l = absurd (omega arith)
seven (t ∷ u ∷ v ∷ []) a b c d p q s long e f g h j k l = absurd (omega arith)
seven (t ∷ u ∷ v ∷ w ∷ []) a b c d p q s long e f g h j k l = absurd (omega arith)
seven (t ∷ u ∷ v ∷ w ∷ x ∷ []) a b c d p q s long e f g h j k l = absurd (omega arith)
seven (t ∷ u ∷ v ∷ w ∷ x ∷ y ∷ []) a b c d p q s long e f g h j k l = absurd (omega arith)
seven (t ∷ u ∷ v ∷ w ∷ x ∷ y ∷ z ∷ r) a b c d p q s long e f g h j k l = λ i. e i ∷ f i ∷ g i ∷ h i ∷ j i ∷ k i ∷ l i ∷ r

module _ (bs rest : List ℕ) (behind : rest ≡ drop 6 bs) (long : 7 ≤ length bs) where
  pub opened_remove : get_or bs 0 0 ≡ 114 → get_or bs 1 0 ≡ 101 → get_or bs 2 0 ≡ 109 → get_or bs 3 0 ≡ 111 → get_or bs 4 0 ≡ 118 → get_or bs 5 0 ≡ 101 → get_or bs 6 0 ≡ 32
      → fact_line (λ r i. nothing_more (CarryOut (InWorld (RemoveFrom r i)))) rest ≡ by_first_word bs
  unfolding forms
  opened_remove e f g h j k l = let is : bs ≡ 114 ∷ 101 ∷ 109 ∷ 111 ∷ 118 ∷ 101 ∷ 32 ∷ drop 7 bs = seven bs 114 101 109 111 118 101 32 long e f g h j k l in
      ap (fact_line (λ r i. nothing_more (CarryOut (InWorld (RemoveFrom r i))))) (behind ∙ ap (drop 6) is) ∙ sym (ap by_first_word is)

  pub opened_entity : get_or bs 0 0 ≡ 101 → get_or bs 1 0 ≡ 110 → get_or bs 2 0 ≡ 116 → get_or bs 3 0 ≡ 105 → get_or bs 4 0 ≡ 116 → get_or bs 5 0 ≡ 121 → get_or bs 6 0 ≡ 32
      → one_word (λ n. CarryOut (InWorld (MakeEntity n))) (words rest) ≡ by_first_word bs
  unfolding forms
  opened_entity e f g h j k l = let is : bs ≡ 101 ∷ 110 ∷ 116 ∷ 105 ∷ 116 ∷ 121 ∷ 32 ∷ drop 7 bs = seven bs 101 110 116 105 116 121 32 long e f g h j k l in
      ap (λ r. one_word (λ n. CarryOut (InWorld (MakeEntity n))) (words r)) (behind ∙ ap (drop 6) is) ∙ sym (ap by_first_word is)

  pub opened_delete : get_or bs 0 0 ≡ 100 → get_or bs 1 0 ≡ 101 → get_or bs 2 0 ≡ 108 → get_or bs 3 0 ≡ 101 → get_or bs 4 0 ≡ 116 → get_or bs 5 0 ≡ 101 → get_or bs 6 0 ≡ 32
      → entity_line (λ r. CarryOut (InWorld (DeleteOne r))) rest ≡ by_first_word bs
  unfolding forms
  opened_delete e f g h j k l = let is : bs ≡ 100 ∷ 101 ∷ 108 ∷ 101 ∷ 116 ∷ 101 ∷ 32 ∷ drop 7 bs = seven bs 100 101 108 101 116 101 32 long e f g h j k l in
      ap (entity_line (λ r. CarryOut (InWorld (DeleteOne r)))) (behind ∙ ap (drop 6) is) ∙ sym (ap by_first_word is)

three : (bs : List ℕ) (a b c : ℕ) → length bs ≡ 3 → get_or bs 0 0 ≡ a → get_or bs 1 0 ≡ b → get_or bs 2 0 ≡ c → bs ≡ a ∷ b ∷ c ∷ []
three [] a b c n e f g = absurd (omega (arith, n))
three (x ∷ []) a b c n e f g = absurd (omega (arith, n))
three (x ∷ y ∷ []) a b c n e f g = absurd (omega (arith, n))
three (x ∷ y ∷ z ∷ []) a b c n e f g = λ i. e i ∷ f i ∷ g i ∷ []
three (x ∷ y ∷ z ∷ w ∷ r) a b c n e f g = absurd (omega (arith, n))

pub opened_new : (bs : List ℕ) → length bs ≡ 3 → get_or bs 0 0 ≡ 110 → get_or bs 1 0 ≡ 101 → get_or bs 2 0 ≡ 119 → CarryOut (InWorld MakeFresh) ≡ by_first_word bs
unfolding forms
opened_new bs n e f g = sym (ap by_first_word (three bs 110 101 119 n e f g))
