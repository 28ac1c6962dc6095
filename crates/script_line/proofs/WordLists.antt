-- The words of a text are its first word and the words after it.
use Rattle.std.proofs.Common.{◌≡◌, ℕ, suc, ◌+◌, ◌==◌, Bool, true, false, not, cond, List, [], ◌∷◌, length, take, drop, refl, ap, ◌∙◌, sym, inl, inr, arith}
use Rattle.std.specs.Prelude.{filter}
use Rattle.std.specs.List.{slice_split, onto_first, prefix_len, position_or_len, before_first}
use Rattle.std.proofs.lemmas.Bool.{cases_Bool, eqb-true, eqb-false, false_from_ne_true}
use Rattle.std.proofs.lemmas.List.Folds.{length-prefix_len}
use Rattle.std.proofs.lemmas.List.Splits.{slice_split-cons_yes, slice_split-cons_no}
use Rattle.ecs_model.specs.Text.{is_blank, trim_front, words}
use Rattle.ecs_model.specs.Script.{word_and_rest}

-- what isn't empty
abbrev is_word : List ℕ → Bool
is_word w = not (length w == 0)

-- the words between separators, a text without the separators at its beginning, and what stands after its first word
abbrev words_by : (ℕ → Bool) → List ℕ → List (List ℕ)
words_by p bs = filter is_word (slice_split p bs)

abbrev trim_by : (ℕ → Bool) → List ℕ → List ℕ
trim_by p bs = drop (prefix_len p bs) bs

abbrev rest_by : (ℕ → Bool) → List ℕ → List ℕ
rest_by p bs = drop (position_or_len p bs) bs

-- each of them at a separator, and at another byte
module _ (p : ℕ → Bool) (b : ℕ) (bs : List ℕ) where
  pub past_one : (n : ℕ) → drop (1 + n) (b ∷ bs) ≡ drop n bs
  past_one n = let one : 1 + n ≡ suc n = omega arith in ap (λ k. drop k (b ∷ bs)) one

  pub trim_yes : p b ≡ true → trim_by p (b ∷ bs) ≡ trim_by p bs
  trim_yes e = ap (λ v. drop (cond v (1 + prefix_len p bs) 0) (b ∷ bs)) e ∙ past_one (prefix_len p bs)

  pub trim_no : p b ≡ false → trim_by p (b ∷ bs) ≡ b ∷ bs
  trim_no e = ap (λ v. drop (cond v (1 + prefix_len p bs) 0) (b ∷ bs)) e

  rest_yes : p b ≡ true → rest_by p (b ∷ bs) ≡ b ∷ bs
  rest_yes e = ap (λ v. drop (cond (not v) (1 + position_or_len p bs) 0) (b ∷ bs)) e

  rest_no : p b ≡ false → rest_by p (b ∷ bs) ≡ rest_by p bs
  rest_no e = ap (λ v. drop (cond (not v) (1 + position_or_len p bs) 0) (b ∷ bs)) e ∙ past_one (position_or_len p bs)

  pub front_yes : p b ≡ true → before_first p (b ∷ bs) ≡ []
  front_yes e = ap (λ v. take (cond (not v) (1 + position_or_len p bs) 0) (b ∷ bs)) e

  pub front_no : p b ≡ false → before_first p (b ∷ bs) ≡ b ∷ before_first p bs
  front_no e =
      let one : 1 + position_or_len p bs ≡ suc (position_or_len p bs) = omega arith in
      ap (λ v. take (cond (not v) (1 + position_or_len p bs) 0) (b ∷ bs)) e ∙ ap (λ k. take k (b ∷ bs)) one

-- the parts are the first word and parts that hold the words after it
record SplitsFirst (p : ℕ → Bool) (bs : List ℕ) : Type 0 where
  tail : List (List ℕ)
  parts : slice_split p bs ≡ before_first p bs ∷ tail
  behind : filter is_word tail ≡ words_by p (rest_by p bs)

splits_yes : (p : ℕ → Bool) (b : ℕ) (bs : List ℕ) → p b ≡ true → SplitsFirst p (b ∷ bs)
splits_yes p b bs e = record {
  tail = slice_split p bs;
  parts = slice_split-cons_yes p b bs e ∙ ap (λ w. w ∷ slice_split p bs) (sym (front_yes p b bs e));
  behind = sym (ap (words_by p) (rest_yes p b bs e) ∙ ap (filter is_word) (slice_split-cons_yes p b bs e));
}

splits_no : (p : ℕ → Bool) (b : ℕ) (bs : List ℕ) → p b ≡ false → SplitsFirst p bs → SplitsFirst p (b ∷ bs)
splits_no p b bs e s = record {
  tail = s.tail;
  parts = slice_split-cons_no p b bs e ∙ ap (onto_first b) s.parts ∙ ap (λ w. w ∷ s.tail) (sym (front_no p b bs e));
  behind = s.behind ∙ ap (words_by p) (sym (rest_no p b bs e));
}

splits_first : (p : ℕ → Bool) (bs : List ℕ) → SplitsFirst p bs
splits_first p [] = record { tail = []; parts = refl; behind = refl }
splits_first p (b ∷ bs) = elim (cases_Bool (p b)) [ inl e ↦ splits_yes p b bs e | inr e ↦ splits_no p b bs e (splits_first p bs) ]

-- separators at the beginning hold no word
words-trim : (p : ℕ → Bool) (bs : List ℕ) → words_by p bs ≡ words_by p (trim_by p bs)
words-trim p [] = refl
words-trim p (b ∷ bs) = elim (cases_Bool (p b)) [
  | inl e ↦ ap (filter is_word) (slice_split-cons_yes p b bs e) ∙ words-trim p bs ∙ ap (words_by p) (sym (trim_yes p b bs e))
  | inr e ↦ ap (words_by p) (sym (trim_no p b bs e))
]

-- after the separators at the beginning a word begins, if anything stands there
no_word : (p : ℕ → Bool) (bs : List ℕ) → length (before_first p (trim_by p bs)) ≡ 0 → trim_by p bs ≡ []
no_word p [] h = refl
no_word p (b ∷ bs) h = elim (cases_Bool (p b)) [
  | inl e ↦ trim_yes p b bs e ∙ no_word p bs (ap (λ t. length (before_first p t)) (sym (trim_yes p b bs e)) ∙ h)
  | inr e ↦
      let none : suc (length (before_first p bs)) ≡ 0 =
      sym (ap length (front_no p b bs e)) ∙ sym (ap (λ t. length (before_first p t)) (trim_no p b bs e)) ∙ h in
      absurd (omega arith)
]

-- a text that begins with a word
first_word : (p : ℕ → Bool) (bs : List ℕ) → (length (before_first p bs) == 0) ≡ false → words_by p bs ≡ before_first p bs ∷ words_by p (drop (length (before_first p bs)) bs)
first_word p bs h =
    let s : SplitsFirst p bs = splits_first p bs in
    let w : List ℕ = before_first p bs in
    let len : position_or_len p bs ≡ length w = sym (length-prefix_len (λ b. not (p b)) bs) in
    ap (filter is_word) s.parts ∙ ap (λ v. cond (not v) (w ∷ filter is_word s.tail) (filter is_word s.tail)) h ∙ ap (λ ws. w ∷ ws) (s.behind ∙ ap (λ k. words_by p (drop k bs)) len)

-- no first word: no word
pub words_none : (bs : List ℕ) → length (word_and_rest bs).0 ≡ 0 → words bs ≡ []
words_none bs h = words-trim is_blank bs ∙ ap words (no_word is_blank bs h)

-- the first word, and the words after it
pub words_next : (bs : List ℕ) → (length (word_and_rest bs).0 == 0) ≡ false → words bs ≡ (word_and_rest bs).0 ∷ words (word_and_rest bs).1
words_next bs h = words-trim is_blank bs ∙ first_word is_blank (trim_front bs) h

-- no text after the blanks: no word
pub words_at_end : (bs : List ℕ) → length (trim_front bs) ≡ 0 → words bs ≡ []
words_at_end bs h = words-trim is_blank bs ∙ ap words (none (trim_front bs) h)
  where
    none : (t : List ℕ) → length t ≡ 0 → t ≡ []
    none [] e = refl
    none (b ∷ t) e = absurd (omega arith)

-- a text without blanks at its front begins with its first word
pub words_from : (bs : List ℕ) → (length (trim_front bs) == 0) ≡ false → words bs ≡ (word_and_rest bs).0 ∷ words (word_and_rest bs).1
words_from bs h = words_next bs (false_from_ne_true _ (λ e. eqb-false (length (trim_front bs)) 0 h (ap length (no_word is_blank bs (eqb-true (length (word_and_rest bs).0) 0 e)))))

-- blanks at the beginning are left out once
pub trim_twice : (bs : List ℕ) → trim_front (trim_front bs) ≡ trim_front bs
trim_twice [] = refl
trim_twice (b ∷ bs) = elim (cases_Bool (is_blank b)) [
  | inl e ↦ ap trim_front (trim_yes is_blank b bs e) ∙ trim_twice bs ∙ sym (trim_yes is_blank b bs e)
  | inr e ↦ ap trim_front (trim_no is_blank b bs e)
]
