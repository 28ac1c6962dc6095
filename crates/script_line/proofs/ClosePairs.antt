-- A pair without blanks, as it is cut at the first bytes that end its references.
use Rattle.std.proofs.Common.{◌≡◌, ℕ, ◌+◌, ◌==◌, ◌||◌, ◌&&◌, Bool, true, false, cond, not, List, [], ◌∷◌, ◌++◌, drop, take, Option, Some, None, option_map, refl, ap, ◌∙◌, sym, arith}
use Rattle.std.specs.Prelude.{reverse, if◌then◌else◌}
use Rattle.std.specs.List.{list_any, position_or_len, before_first, after_first}
use Rattle.std.proofs.lemmas.Bool.{eqb-true, false_from_ne_true}
use Rattle.std.proofs.lemmas.List.{append_assoc, reverse-append, reverse-reverse, take-append-drop}
use Rattle.std.proofs.lemmas.List.Folds.{list_any-append}
use Rattle.ecs_model.specs.Text.{is_blank, trim_front, trimmed}
use Rattle.ecs_model.specs.Orders.{EntityRef, IdRef, pair_of}
use Rattle.ecs_model.specs.Script.{is_apart, pair_and_rest, pair_in, pair_ref, reference_of}
use Rattle.script_line.specs.Line.{ends_reference}
use Rattle.script_line.proofs.WordLists.{front_yes, front_no, past_one, trim_no}
use Rattle.script_line.proofs.Stops.{true_is_no_false}

-- a list of which no item passes
module _ (f : ℕ → Bool) (x : ℕ) (xs : List ℕ) (none : list_any f (x ∷ xs) ≡ false) where
  first_not : f x ≡ false
  first_not = false_from_ne_true (f x) (λ e. true_is_no_false (sym (ap (λ v. v || list_any f xs) e) ∙ none))

  rest_not : list_any f xs ≡ false
  rest_not = sym (ap (λ v. v || list_any f xs) first_not) ∙ none

-- where fewer pass, none does either
fewer_pass : (f g : ℕ → Bool) → ((b : ℕ) → f b ≡ true → g b ≡ true) → (xs : List ℕ) → list_any g xs ≡ false → list_any f xs ≡ false
fewer_pass f g up [] none = refl
fewer_pass f g up (x ∷ xs) none =
    let here : f x ≡ false = false_from_ne_true (f x) (λ e. true_is_no_false (sym (up x e) ∙ first_not g x xs none)) in
    ap (λ v. v || list_any f xs) here ∙ fewer_pass f g up xs (rest_not g x xs none)

none_reversed : (f : ℕ → Bool) (xs : List ℕ) → list_any f xs ≡ false → list_any f (reverse xs) ≡ false
none_reversed f [] none = refl
none_reversed f (x ∷ xs) none =
    ap (list_any f) (reverse-append (x ∷ []) xs)
    ∙ list_any-append f (reverse xs) (x ∷ [])
    ∙ ap (λ v. v || list_any f (x ∷ [])) (none_reversed f xs (rest_not f x xs none))
    ∙ ap (λ v. v || false) (first_not f x xs none)

-- an item that passes, after others that don't
module _ (f : ℕ → Bool) (ys : List ℕ) (c : ℕ) (here : f c ≡ true) where
  before_cut : (xs : List ℕ) → list_any f xs ≡ false → before_first f (xs ++ c ∷ ys) ≡ xs
  before_cut [] none = front_yes f c ys here
  before_cut (x ∷ xs) none = front_no f x (xs ++ c ∷ ys) (first_not f x xs none) ∙ ap (λ t. x ∷ t) (before_cut xs (rest_not f x xs none))

  behind_cut : (xs : List ℕ) → list_any f xs ≡ false → after_first f (xs ++ c ∷ ys) ≡ ys
  behind_cut [] none = ap (λ v. drop (cond (not v) (1 + position_or_len f ys) 0 + 1) (c ∷ ys)) here
  behind_cut (x ∷ xs) none =
      let p : ℕ = position_or_len f (xs ++ c ∷ ys) in
      let one : 1 + p + 1 ≡ 1 + (p + 1) = omega arith in
      ap (λ v. drop (cond (not v) (1 + p) 0 + 1) (x ∷ xs ++ c ∷ ys)) (first_not f x xs none)
      ∙ ap (λ k. drop k (x ∷ xs ++ c ∷ ys)) one
      ∙ past_one f x (xs ++ c ∷ ys) (p + 1)
      ∙ behind_cut xs (rest_not f x xs none)

  passes_there : (xs : List ℕ) → list_any f xs ≡ false → list_any f (xs ++ c ∷ ys) ≡ true
  passes_there xs none =
      list_any-append f xs (c ∷ ys) ∙ ap (λ v. v || list_any f (c ∷ ys)) none ∙ ap (λ v. v || list_any f ys) here

-- ---- references have no blanks, brackets and commas

blank_ends : (b : ℕ) → is_blank b ≡ true → ends_reference b ≡ true
blank_ends b h = ap (λ v. v || b == 40 || b == 41 || b == 44) h

bracket_ends : (b : ℕ) → (b == 41) ≡ true → ends_reference b ≡ true
bracket_ends b h = ap ends_reference (eqb-true b 41 h)

comma_ends : (b : ℕ) → (b == 44) ≡ true → ends_reference b ≡ true
comma_ends b h = ap ends_reference (eqb-true b 44 h)

untrimmed_front : (w : List ℕ) → list_any is_blank w ≡ false → trim_front w ≡ w
untrimmed_front [] none = refl
untrimmed_front (b ∷ w) none = trim_no is_blank b w (first_not is_blank b w none)

untrimmed : (w : List ℕ) → list_any ends_reference w ≡ false → trimmed w ≡ w
untrimmed w stands =
    let none : list_any is_blank w ≡ false = fewer_pass is_blank ends_reference blank_ends w stands in
    ap (λ t. reverse (trim_front (reverse t))) (untrimmed_front w none)
    ∙ ap reverse (untrimmed_front (reverse w) (none_reversed is_blank w none))
    ∙ reverse-reverse w

-- ---- a pair

module _ (r t rest : List ℕ) (r_stands : list_any ends_reference r ≡ false) (t_stands : list_any ends_reference t ≡ false) where
  inside : List ℕ
  inside = r ++ 44 ∷ t

  in_close : pair_in inside ≡ pair_ref (reference_of r) (reference_of t)
  unfolding inside
  in_close =
      let none : list_any (λ b. b == 44) r ≡ false = fewer_pass (λ b. b == 44) ends_reference comma_ends r r_stands in
      ap (λ w. pair_ref (reference_of (trimmed w)) (reference_of (trimmed (after_first (λ b. b == 44) inside)))) (before_cut (λ b. b == 44) t 44 refl r none)
      ∙ ap (λ w. pair_ref (reference_of (trimmed r)) (reference_of (trimmed w))) (behind_cut (λ b. b == 44) t 44 refl r none)
      ∙ ap (λ w. pair_ref (reference_of w) (reference_of (trimmed t))) (untrimmed r r_stands)
      ∙ ap (λ w. pair_ref (reference_of r) (reference_of w)) (untrimmed t t_stands)

  no_bracket_inside : list_any (λ b. b == 41) inside ≡ false
  unfolding inside
  no_bracket_inside =
      list_any-append (λ b. b == 41) r (44 ∷ t)
      ∙ ap (λ v. v || list_any (λ b. b == 41) (44 ∷ t)) (fewer_pass (λ b. b == 41) ends_reference bracket_ends r r_stands)
      ∙ fewer_pass (λ b. b == 41) ends_reference bracket_ends t t_stands

  pub close_pair : (text : List ℕ) → text ≡ r ++ 44 ∷ (t ++ 41 ∷ rest) → is_apart rest ≡ true → pair_and_rest text ≡ option_map (λ i. (i, rest)) (pair_ref (reference_of r) (reference_of t))
  unfolding inside
  close_pair text is apart =
      let f : ℕ → Bool = λ b. b == 41 in
      let whole : text ≡ inside ++ 41 ∷ rest = is ∙ sym (append_assoc r (44 ∷ t) (41 ∷ rest)) in
      let all : List ℕ = inside ++ 41 ∷ rest in
      let read : Bool → List ℕ → List ℕ → Option (IdRef × List ℕ) = λ v w i. if v && is_apart w then option_map (λ p. (p, w)) (pair_in i) else None in
      ap pair_and_rest whole
      ∙ ap (λ v. read v (after_first f all) (before_first f all)) (passes_there f rest 41 refl inside no_bracket_inside)
      ∙ ap (λ w. read true w (before_first f all)) (behind_cut f rest 41 refl inside no_bracket_inside)
      ∙ ap (λ w. read true rest w) (before_cut f rest 41 refl inside no_bracket_inside)
      ∙ ap (λ v. if v then option_map (λ p. (p, rest)) (pair_in inside) else None) apart
      ∙ ap (option_map (λ p. (p, rest))) in_close

  -- its references were read
  pub read_close : (text : List ℕ) (x y : EntityRef) → text ≡ r ++ 44 ∷ (t ++ 41 ∷ rest) → is_apart rest ≡ true → Some x ≡ reference_of r → Some y ≡ reference_of t → Some (pair_of x y, rest) ≡ pair_and_rest text
  read_close text x y is apart first second =
      ap (λ o. option_map (λ i. (i, rest)) (pair_ref o (Some y))) first
      ∙ ap (λ o. option_map (λ i. (i, rest)) (pair_ref (reference_of r) o)) second
      ∙ sym (close_pair text is apart)

-- a text that was cut before a byte
pub cut_before_byte : (text front back rest : List ℕ) (n c : ℕ) → front ≡ take n text → back ≡ drop n text → back ≡ c ∷ rest → text ≡ front ++ c ∷ rest
cut_before_byte text front back rest n c is_front is_back begins =
    sym (take-append-drop n text) ∙ ap (λ w. w ++ drop n text) (sym is_front) ∙ ap (λ w. front ++ w) (sym is_back ∙ begins)
