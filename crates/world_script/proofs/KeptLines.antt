-- Lines as far as they are kept, and bytes cut after their last line feed.
use Rattle.std.proofs.Common.{◌≡◌, ℕ, zero, suc, ◌<◌, ◌==◌, Bool, true, false, List, [], ◌∷◌, ◌++◌, length, take, refl, sym, ◌∙◌, ap, subst, inl, inr, arith, append_assoc, append-nil}
use Rattle.std.specs.Prelude.{nat_lt}
use Rattle.std.proofs.lemmas.Bool.{ltb-true, ltb-false, lt-ltb, le-ltb, eqb-true}
use Rattle.std.proofs.lemmas.List.{length-take, take-take, take_all}
use Rattle.std.proofs.lemmas.List.Elements.{All-nil, All-cons}
use Rattle.ecs_model.specs.Script.{Form, LongLine, form_among, form_of, forms}
use Rattle.script_streams.specs.Lines.{HasNoEnd, kept}
use Rattle.world_script.specs.Whole.{EndsInFeed}

-- the prefix of a list is that of its prefix and what stands after it
take-front : (n : ℕ) (a b : List ℕ) → take n (take n a ++ b) ≡ take n (a ++ b)
take-front zero a b = refl
take-front (suc n) [] b = refl
take-front (suc n) (x ∷ xs) b = ap (λ l. x ∷ l) (take-front n xs b)

pub kept_front : (a b : List ℕ) → kept (kept a ++ b) ≡ kept (a ++ b)
kept_front a b = take-front 4097 a b

-- what is kept of a line is kept again
pub kept_again : (front part : List ℕ) → front ≡ kept part → kept front ≡ kept part
kept_again front part e = ap kept e ∙ take-take 4097 4097 part (omega arith)

-- a front with something in it is that of a part with something in it
pub kept-some : (part : List ℕ) → ¬ (length (kept part) ≡ 0) → 0 < length part
kept-some [] some = absurd (some refl)
kept-some (b ∷ bs) some = omega arith

-- ---- the form of a line is that of what is kept of it

long_form : (table : List (List ℕ × (List ℕ → Form))) (line : List ℕ) → nat_lt 4096 (length line) ≡ true → form_among table line ≡ LongLine
unfolding form_among
long_form table line long = rw long refl

form_by : (a b : List ℕ) (is_long : Bool) → nat_lt 4096 (length a) ≡ is_long → nat_lt 4096 (length b) ≡ is_long → kept a ≡ kept b → form_of a ≡ form_of b
form_by a b true long_a long_b same = long_form forms a long_a ∙ sym (long_form forms b long_b)
form_by a b false short_a short_b same =
    let whole_a : kept a ≡ a = take_all 4097 a (omega (arith, ltb-false _ _ short_a)) in
    let whole_b : kept b ≡ b = take_all 4097 b (omega (arith, ltb-false _ _ short_b)) in
    ap form_of (sym whole_a ∙ same ∙ whole_b)

-- a line is too long where what is kept of it is
kept_long : (a : List ℕ) (is_long : Bool) → nat_lt 4096 (length a) ≡ is_long → nat_lt 4096 (length (kept a)) ≡ is_long
kept_long a true long = lt-ltb _ _ (omega (arith, length-take 4097 a, ltb-true _ _ long))
kept_long a false short = le-ltb _ _ (omega (arith, length-take 4097 a, ltb-false _ _ short))

as_long : (a b : List ℕ) → kept a ≡ kept b → nat_lt 4096 (length a) ≡ nat_lt 4096 (length b)
as_long a b same = sym (kept_long a _ refl) ∙ ap (λ l. nat_lt 4096 (length l)) same ∙ kept_long b _ refl

pub form_of-kept : (a b : List ℕ) → kept a ≡ kept b → form_of a ≡ form_of b
form_of-kept a b same = form_by a b (nat_lt 4096 (length a)) refl (sym (as_long a b same)) same

-- ---- bytes are whole lines, and after their last line feed a part of one

pub record Cut (bytes : List ℕ) : Type 0 where
  pub whole : List ℕ
  pub part : List ℕ
  pub is : bytes ≡ whole ++ part
  pub ends : EndsInFeed whole
  pub inside : HasNoEnd part

-- one byte before them
ends_cons : (b : ℕ) (whole : List ℕ) → b ≡ 10 → EndsInFeed whole → EndsInFeed (b ∷ whole)
ends_cons b whole e (inl none) = inr ([], ap (λ l. b ∷ l) none ∙ ap (λ c. c ∷ []) e)
ends_cons b whole e (inr some) = inr (b ∷ some.0, ap (λ l. b ∷ l) some.1)

cut_cons : (b : ℕ) (bytes : List ℕ) (c : Cut bytes) (is_end : Bool) → (b == 10) ≡ is_end → EndsInFeed c.whole → Cut (b ∷ bytes)
cut_cons b bytes c true e ends = record { whole = b ∷ c.whole; part = c.part; is = ap (λ l. b ∷ l) c.is; ends = ends_cons b c.whole (eqb-true _ _ e) c.ends; inside = c.inside }
cut_cons b bytes c false e (inl none) =
    record { whole = []; part = b ∷ c.part; is = ap (λ l. b ∷ l) (c.is ∙ ap (λ l. l ++ c.part) none); ends = inl refl; inside = All-cons (λ x. (x == 10) ≡ false) b c.part e c.inside }
cut_cons b bytes c false e (inr some) =
    record { whole = b ∷ c.whole; part = c.part; is = ap (λ l. b ∷ l) c.is; ends = inr (b ∷ some.0, ap (λ l. b ∷ l) some.1); inside = c.inside }

pub cut : (bytes : List ℕ) → Cut bytes
cut [] = record { whole = []; part = []; is = refl; ends = inl refl; inside = All-nil (λ x. (x == 10) ≡ false) }
cut (b ∷ bs) = let c = cut bs in cut_cons b bs c (b == 10) refl c.ends

-- whole lines after whole lines
pub EndsInFeed-more : (a b : List ℕ) → EndsInFeed a → EndsInFeed b → EndsInFeed (a ++ b)
EndsInFeed-more a b ends (inl none) = subst EndsInFeed (sym (ap (λ l. a ++ l) none ∙ append-nil a)) ends
EndsInFeed-more a b ends (inr some) = inr (a ++ some.0, ap (λ l. a ++ l) some.1 ∙ sym (append_assoc a some.0 (10 ∷ [])))
