-- The form of a line, case by case.
use Rattle.std.proofs.Common.{◌≡◌, ◌≢◌, ℕ, ◌<◌, ◌≤◌, Bool, true, false, not, cond, List, [], ◌∷◌, Some, option_map, drop, length, refl, ap, ◌∙◌, sym, ltb}
use Rattle.std.specs.Prelude.{⊤, bytes_eq, codes}
use Rattle.std.specs.List.{find}
use Rattle.std.specs.Str.{IsUtf8, is_utf8}
use Rattle.std.proofs.lemmas.Bool.{lt-ltb, le-ltb, false_from_ne_true}
use Rattle.std.proofs.lemmas.Slice.Eq.{bytes_eq-Decides}
use Rattle.std.proofs.lemmas.Str.{IsUtf8-from_is_utf8, is_utf8-from_IsUtf8}
use Rattle.ecs_model.specs.Text.{trim_front}
use Rattle.ecs_model.specs.Script.{Form, LongLine, BadLine, form_among, form_of, form_or_bad, forms, looked_up, says_nothing}
use Rattle.script_line.specs.Line.{by_first_word, by_rarer_word}
use Rattle.ecs_model.specs.Script

-- the form by the three tests: too long, nothing said, text
abbrev by_tests : List ℕ → Bool → Bool → Bool → Form
by_tests l long silent text = cond long LongLine (cond silent Script.Nothing (cond (not text) BadLine (by_first_word l)))

form_by_tests : (l : List ℕ) (long silent text : Bool) → ltb 4096 (length l) ≡ long → says_nothing (trim_front l) ≡ silent → is_utf8 l ≡ text → by_tests l long silent text ≡ form_of l
unfolding form_among
form_by_tests l long silent text e f g =
    sym (ap (λ b. by_tests l b (says_nothing (trim_front l)) (is_utf8 l)) e ∙ ap (λ b. by_tests l long b (is_utf8 l)) f ∙ ap (by_tests l long silent) g)

-- a line that is too long
pub form_long : (l : List ℕ) → 4096 < length l → LongLine ≡ form_of l
form_long l h = form_by_tests l true (says_nothing (trim_front l)) (is_utf8 l) (lt-ltb 4096 (length l) h) refl refl

-- a line that says nothing
pub form_nothing : (l : List ℕ) → length l ≤ 4096 → says_nothing (trim_front l) ≡ true → Script.Nothing ≡ form_of l
form_nothing l h s = form_by_tests l false true (is_utf8 l) (le-ltb 4096 (length l) h) s refl

-- a line that is no text
pub form_no_text : (l : List ℕ) → length l ≤ 4096 → says_nothing (trim_front l) ≡ false → ¬ (IsUtf8 l) → BadLine ≡ form_of l
form_no_text l h s u = form_by_tests l false false false (le-ltb 4096 (length l) h) s (false_from_ne_true (is_utf8 l) (λ e. u (IsUtf8-from_is_utf8 l e)))

-- a line of text
pub form_text : (l : List ℕ) → length l ≤ 4096 → says_nothing (trim_front l) ≡ false → IsUtf8 l → by_first_word l ≡ form_of l
form_text l h s u = form_by_tests l false false true (le-ltb 4096 (length l) h) s (is_utf8-from_IsUtf8 l u)

-- a table whose first word is another
abbrev OthersFirst : {X : Type 0} → List ℕ → List (List ℕ × X) → Type 0
OthersFirst w [] = ⊤
OthersFirst w (c ∷ table) = bytes_eq w c.0 ≡ false

-- what isn't the first word of a table is looked up after it
looked_up_behind : {X : Type 0} (w : List ℕ) (table : List (List ℕ × X)) → OthersFirst w table → looked_up (drop 1 table) w ≡ looked_up table w
looked_up_behind w [] h = refl
looked_up_behind w (c ∷ table) h = ap (λ b. option_map (λ e. e.1) (cond b (Some c) (find (λ e. bytes_eq w e.0) table))) (sym h)

-- a word that is none of the first four
pub rarer_is : (w rest : List ℕ) → w ≢ codes "entity" → w ≢ codes "component" → w ≢ codes "add" → w ≢ codes "set" → by_rarer_word w rest ≡ form_or_bad (λ f. f rest) (looked_up forms w)
unfolding forms
rarer_is w rest e c a s = ap (form_or_bad (λ f. f rest))
    (looked_up_behind w (drop 3 forms) (differs _ s) ∙ looked_up_behind w (drop 2 forms) (differs _ a) ∙ looked_up_behind w (drop 1 forms) (differs _ c) ∙ looked_up_behind w forms (differs _ e))
  where
    differs : (other : List ℕ) → w ≢ other → bytes_eq w other ≡ false
    differs other h = false_from_ne_true (bytes_eq w other) (λ same. h ((bytes_eq-Decides w other).0 same))
