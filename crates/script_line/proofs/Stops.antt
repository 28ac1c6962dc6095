-- A text cut before the first byte that may not stand in its first word: the word ends there, or that byte stands in it.
use Rattle.std.proofs.Common.{◌≡◌, ◌≢◌, ℕ, ◌+◌, ◌==◌, ◌||◌, ◌&&◌, Bool, true, false, not, cond, inl, inr, List, [], ◌∷◌, length, take, drop, Option, Some, None, option_map, refl, ap, ◌∙◌, sym, arith}
use Rattle.std.specs.Prelude.{ℤ, neg_ℤ, pos, nat_le, if◌then◌else◌}
use Rattle.std.specs.List.{list_all, list_any, prefix_len, position_or_len, before_first}
use Rattle.std.proofs.lemmas.Bool.{cases_Bool, false_from_ne_true}
use Rattle.std.proofs.lemmas.Bool.Decides.{nat_tests}
use Rattle.std.proofs.lemmas.List.Folds.{length-prefix_len}
use Rattle.query_model.specs.Text.{is_digit}
pub use Rattle.query_model.proofs.TokenSpelling.{front_passes}
use Rattle.ecs_model.specs.Text.{is_blank, is_number, number_of}
use Rattle.ecs_model.specs.Script.{is_apart, reference_of, handle_of, value_of_word}
use Rattle.ecs_model.specs.Orders.{by_name}
use Rattle.script_line.specs.Line.{ends_reference, followed_by, unsigned_of_word, word_read}
use Rattle.script_line.proofs.WordLists.{past_one, front_yes, front_no}
use Rattle.script_line.proofs.NamedReferences.{begins_not}

-- no blank passes
abbrev pub TakesNoBlank : (ℕ → Bool) → Type 0
TakesNoBlank p = (b : ℕ) → is_blank b ≡ true → p b ≡ false

pub true_is_no_false : true ≡ false → ⊥
true_is_no_false h = absurd (cc)

-- a byte that passes is no blank
no_blank : (p : ℕ → Bool) (b : ℕ) → TakesNoBlank p → p b ≡ true → is_blank b ≡ false
no_blank p b none e = false_from_ne_true (is_blank b) (λ t. true_is_no_false (sym e ∙ none b t))

-- the front that passes, where the first byte passes, and where it doesn't
module _ (p : ℕ → Bool) (b : ℕ) (bs : List ℕ) where
  len_yes : p b ≡ true → prefix_len p (b ∷ bs) ≡ 1 + prefix_len p bs
  len_yes e = ap (λ v. cond v (1 + prefix_len p bs) 0) e

  len_no : p b ≡ false → prefix_len p (b ∷ bs) ≡ 0
  len_no e = ap (λ v. cond v (1 + prefix_len p bs) 0) e

  behind_yes : p b ≡ true → drop (prefix_len p (b ∷ bs)) (b ∷ bs) ≡ drop (prefix_len p bs) bs
  behind_yes e = ap (λ k. drop k (b ∷ bs)) (len_yes e) ∙ past_one p b bs (prefix_len p bs)

  behind_no : p b ≡ false → drop (prefix_len p (b ∷ bs)) (b ∷ bs) ≡ b ∷ bs
  behind_no e = ap (λ k. drop k (b ∷ bs)) (len_no e)

-- where a blank or nothing follows, the word ends
pub ends_word : (p : ℕ → Bool) (bs : List ℕ) → TakesNoBlank p → is_apart (drop (prefix_len p bs) bs) ≡ true → position_or_len is_blank bs ≡ prefix_len p bs
ends_word p [] none h = refl
ends_word p (b ∷ bs) none h = elim (cases_Bool (p b)) [
  | inl e ↦
      ap (λ v. cond (not v) (1 + position_or_len is_blank bs) 0) (no_blank p b none e)
      ∙ ap (λ n. 1 + n) (ends_word p bs none (sym (ap is_apart (behind_yes p b bs e)) ∙ h))
      ∙ sym (len_yes p b bs e)
  | inr e ↦
      let blank : is_blank b ≡ true = sym (ap is_apart (behind_no p b bs e)) ∙ h in
      ap (λ v. cond (not v) (1 + position_or_len is_blank bs) 0) blank ∙ sym (len_no p b bs e)
]

-- where another byte follows, the word has it
pub faulty_word : (p : ℕ → Bool) (bs : List ℕ) → TakesNoBlank p → is_apart (drop (prefix_len p bs) bs) ≡ false → list_all p (before_first is_blank bs) ≡ false
faulty_word p [] none h = absurd (cc)
faulty_word p (b ∷ bs) none h = elim (cases_Bool (p b)) [
  | inl e ↦
      ap (list_all p) (front_no is_blank b bs (no_blank p b none e))
      ∙ ap (λ v. v && list_all p (before_first is_blank bs)) e
      ∙ faulty_word p bs none (sym (ap is_apart (behind_yes p b bs e)) ∙ h)
  | inr e ↦
      let apart : is_blank b ≡ false = sym (ap is_apart (behind_no p b bs e)) ∙ h in
      ap (list_all p) (front_no is_blank b bs apart) ∙ ap (λ v. v && list_all p (before_first is_blank bs)) e
]

-- the word that ends at a place
word_read_at : {A : Type 0} (f : List ℕ → Option A) (bs : List ℕ) (n : ℕ) → position_or_len is_blank bs ≡ n → word_read f bs ≡ followed_by (drop n bs) (f (take n bs))
word_read_at f bs n h =
    ap (λ k. followed_by (drop k bs) (f (before_first is_blank bs))) (length-prefix_len (λ b. not (is_blank b)) bs ∙ h)
    ∙ ap (λ k. followed_by (drop n bs) (f (take k bs))) h

-- a word that can't be read
word_unread : {A : Type 0} (f : List ℕ → Option A) (bs : List ℕ) → f (before_first is_blank bs) ≡ None → word_read f bs ≡ None
word_unread f bs h = ap (followed_by (drop (length (before_first is_blank bs)) bs)) h

-- a text that was cut there into a word and its rest
module _ (p : ℕ → Bool) (none : TakesNoBlank p) (bs rest : List ℕ) (n : ℕ) (len : n ≡ prefix_len p bs) (back : rest ≡ drop n bs) where
  behind : is_apart (drop (prefix_len p bs) bs) ≡ is_apart rest
  behind = sym (ap is_apart (back ∙ ap (λ k. drop k bs) len))

  pub cut_read : {A : Type 0} (f : List ℕ → Option A) (word : List ℕ) → word ≡ take n bs → is_apart rest ≡ true → followed_by rest (f word) ≡ word_read f bs
  cut_read f word front apart =
      ap (λ r. followed_by r (f word)) back
      ∙ ap (λ w. followed_by (drop n bs) (f w)) front
      ∙ sym (word_read_at f bs n (ends_word p bs none (behind ∙ apart) ∙ sym len))

  cut_faulty : is_apart rest ≡ false → list_all p (before_first is_blank bs) ≡ false
  cut_faulty within = faulty_word p bs none (behind ∙ within)

-- ---- references

pub no_blank_stands : TakesNoBlank (λ b. not (ends_reference b))
no_blank_stands b h = ap (λ v. not (v || b == 40 || b == 41 || b == 44)) h

any_not_all : (f : ℕ → Bool) (w : List ℕ) → list_any f w ≡ not (list_all (λ c. not (f c)) w)
any_not_all f [] = refl
any_not_all f (b ∷ w) = elim (cases_Bool (f b)) [
  | inl e ↦ ap (λ v. v || list_any f w) e ∙ sym (ap (λ v. not (not v && list_all (λ c. not (f c)) w)) e)
  | inr e ↦ ap (λ v. v || list_any f w) e ∙ any_not_all f w ∙ sym (ap (λ v. not (not v && list_all (λ c. not (f c)) w)) e)
]

-- no byte before the first one that ends a reference ends one
pub none_ends : (bs : List ℕ) → list_any ends_reference (take (position_or_len ends_reference bs) bs) ≡ false
none_ends bs = any_not_all ends_reference (take (position_or_len ends_reference bs) bs) ∙ ap not (front_passes (λ b. not (ends_reference b)) bs)

-- a word with such a byte is no reference
pub no_reference : (w : List ℕ) → list_any ends_reference w ≡ true → reference_of w ≡ None
no_reference [] h = absurd (cc)
no_reference (b ∷ w) h = ap (λ v. if v then None else if b == 35 then handle_of w else Some (by_name (b ∷ w))) h

-- a text whose first word has one
pub reference_unread : (bs rest : List ℕ) (n : ℕ) → n ≡ position_or_len ends_reference bs → rest ≡ drop n bs → is_apart rest ≡ false → word_read reference_of bs ≡ None
reference_unread bs rest n len back within =
    let w : List ℕ = before_first is_blank bs in
    word_unread reference_of bs (no_reference w (any_not_all ends_reference w ∙ ap not (cut_faulty (λ b. not (ends_reference b)) no_blank_stands bs rest n len back within)))

-- ---- values

pub no_blank_digit : TakesNoBlank is_digit
no_blank_digit b h = grind (arith, nat_tests)

no_number : (w : List ℕ) → list_all is_digit w ≡ false → unsigned_of_word w ≡ None
no_number w h = ap (λ v. if v && nat_le 1 (length w) && nat_le (length w) 38 then Some (pos (number_of w)) else None) h

-- a text whose first word has another byte than digits
pub number_unread : (bs rest : List ℕ) (n : ℕ) → n ≡ prefix_len is_digit bs → rest ≡ drop n bs → is_apart rest ≡ false → word_read unsigned_of_word bs ≡ None
number_unread bs rest n len back within = word_unread unsigned_of_word bs (no_number (before_first is_blank bs) (cut_faulty is_digit no_blank_digit bs rest n len back within))

-- with a minus before it
abbrev pub negated : ℤ × List ℕ → ℤ × List ℕ
negated p = (neg_ℤ p.0, p.1)

-- after a minus
pub minus_read : (bs : List ℕ) → word_read value_of_word (45 ∷ bs) ≡ option_map negated (word_read unsigned_of_word bs)
minus_read bs =
    let w : List ℕ = before_first is_blank bs in
    ap (λ u. followed_by (drop (length u) (45 ∷ bs)) (value_of_word u)) (front_no is_blank 45 bs refl)
    ∙ by_number (is_number 1 38 w) (drop (length w) bs) (pos (number_of w))
  where
    by_number : (v : Bool) (rest : List ℕ) (n : ℤ) → followed_by rest (if v then Some (neg_ℤ n) else None) ≡ option_map negated (followed_by rest (if v then Some n else None))
    by_number true rest n = refl
    by_number false rest n = refl

-- without one
pub plain_value : (bs : List ℕ) → ((rest : List ℕ) → bs ≢ 45 ∷ rest) → word_read unsigned_of_word bs ≡ word_read value_of_word bs
plain_value [] p = refl
plain_value (b ∷ bs) p =
    let w : List ℕ = before_first is_blank bs in
    elim (cases_Bool (is_blank b)) [
      | inl e ↦
          word_unread unsigned_of_word (b ∷ bs) (ap unsigned_of_word (front_yes is_blank b bs e))
          ∙ sym (word_unread value_of_word (b ∷ bs) (ap value_of_word (front_yes is_blank b bs e)))
      | inr e ↦
          let negative : Option ℤ = if is_number 1 38 w then Some (neg_ℤ (pos (number_of w))) else None in
          let same : value_of_word (b ∷ w) ≡ unsigned_of_word (b ∷ w) = ap (λ v. if v then negative else unsigned_of_word (b ∷ w)) (begins_not 45 b bs p) in
          let word : before_first is_blank (b ∷ bs) ≡ b ∷ w = front_no is_blank b bs e in
          ap (followed_by (drop (length (before_first is_blank (b ∷ bs))) (b ∷ bs))) (ap unsigned_of_word word ∙ sym same ∙ sym (ap value_of_word word))
    ]
