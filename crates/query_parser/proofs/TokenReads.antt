-- Lemmas on reading one token after another.
use Rattle.std.proofs.Common.{◌≡◌, ℕ, zero, suc, sym, one-add, ◌+◌, ◌-◌, ◌<◌, ◌≤◌, true, List, [], ◌∷◌, All, length, get_or, take, drop, arith, refl, ap, ◌∙◌, Some, None, Ok, subst, length-drop, length-take}
use Rattle.std.specs.List.{prefix_len}
use Rattle.std.specs.Str.{IsUtf8, IsCharBoundary}
use Rattle.std.proofs.lemmas.List.{get_or-take, get_or-drop}
use Rattle.std.proofs.lemmas.List.Sums.{prefix_len_passes}
use Rattle.std.proofs.lemmas.Bool.Decides.{nat_tests}
use Rattle.std.proofs.lemmas.Str.{IsCharBoundary-after_ascii}
use Rattle.std.specs.Prelude.{slice_get}
use Rattle.std.proofs.lemmas.List.{take_rest}
use Rattle.query_model.specs.Text.{is_word_byte, is_name_byte, is_query_blank}
use Rattle.query_model.specs.Tokens.{Sign, Variable, token, spelled, sign_at, variable_at}
pub use Rattle.query_model.proofs.TokenSpelling.{letter_is_name_byte}
use Rattle.query_parser.specs.Lexed.{token_of, placed, next_of}

-- a byte of a name is ASCII
pub name_byte_is_ascii : (b : ℕ) → is_name_byte b ≡ true → b < 128
name_byte_is_ascii b e = grind (arith, nat_tests)

-- the bytes of a name are ASCII
pub name_is_ascii : (xs : List ℕ) → All (λ byte. byte < 128) (take (prefix_len is_name_byte xs) xs)
name_is_ascii xs k d h =
    let n : ℕ = prefix_len is_name_byte xs in
    let l : k < n = omega (arith, length-take n xs) in
    let e : is_name_byte (get_or xs k d) ≡ true = prefix_len_passes is_name_byte xs k d l in
    let g : get_or (take n xs) k d ≡ get_or xs k d = get_or-take n xs k d l in
    rw g (name_byte_is_ascii _ e)

-- a text may be cut after ASCII bytes
pub cut_behind_ascii : (bs : List ℕ) (start len : ℕ) → IsUtf8 bs → 0 < len → start + len ≤ length bs → All (λ byte. byte < 128) (take len (drop start bs)) → IsCharBoundary bs (start + len)
cut_behind_ascii bs start len u some fits ascii =
    let l : len - 1 < len = omega arith in
    let n : length (take len (drop start bs)) ≡ len = omega (arith, length-take len (drop start bs), length-drop start bs) in
    let a : get_or (take len (drop start bs)) (len - 1) 0 < 128 = ascii (len - 1) 0 (omega arith) in
    let e : get_or (take len (drop start bs)) (len - 1) 0 ≡ get_or bs (start + (len - 1)) 0 = get_or-take len (drop start bs) (len - 1) 0 l ∙ get_or-drop start bs (len - 1) 0 in
    let m : start + (len - 1) + 1 ≡ start + len = omega arith in
    let b : IsCharBoundary bs (start + (len - 1) + 1) = IsCharBoundary-after_ascii bs (start + (len - 1)) u (omega arith) (omega arith) in
    subst (λ (i : ℕ). IsCharBoundary bs i) m b

-- where a sign is spelled at the beginning, it is the next token
pub token_of_sign : (at : ℕ) (rest : List ℕ) (s : Sign) → 0 < length rest → sign_at rest ≡ Some s → token_of at rest ≡ Ok (token s (record { start = at; end = at + length (spelled s) }))
token_of_sign at [] s l e = absurd (omega arith)
token_of_sign at (b ∷ bs) s l e = ap (placed at (b ∷ bs)) e

-- the next token, where its sign is known
pub next_is_sign : (text : List ℕ) (from blanks len : ℕ) (s : Sign) → blanks ≡ prefix_len is_query_blank (drop from text) → 0 < len → from + blanks + len ≤ length text → sign_at (drop (from + blanks) text) ≡ Some s → spelled s ≡ take len (drop (from + blanks) text) → next_of text from ≡ Ok (token s (record { start = from + blanks; end = from + blanks + len }))
next_is_sign text from blanks len s e some fits found spells =
    let start : ℕ = from + blanks in
    let l : length (spelled s) ≡ len = ap length spells ∙ length-take len (drop start text) ∙ omega (arith, length-drop start text) in
    let t : token_of start (drop start text) ≡ Ok (token s (record { start = start; end = start + length (spelled s) })) = token_of_sign start (drop start text) s (omega (arith, length-drop start text)) found in
    rw (← e) (rw (← l) t)

-- the part of a text's bytes from a place on
pub rest_of_bytes : (bytes text : List ℕ) (i : ℕ) → bytes ≡ text → take (length bytes - i) (drop i bytes) ≡ drop i text
rest_of_bytes bytes text i e = rw e (take_rest text i)

-- a list without a first element is empty
pub empty_from_no_first : (xs : List ℕ) → slice_get xs 0 ≡ None → length xs ≡ 0
empty_from_no_first [] e = refl
empty_from_no_first (x ∷ xs) e = cc

-- a byte of a variable is ASCII
word_byte_is_ascii : (b : ℕ) → is_word_byte b ≡ true → b < 128
word_byte_is_ascii b e = grind (arith, nat_tests)

word_is_ascii : (xs : List ℕ) → All (λ byte. byte < 128) (take (prefix_len is_word_byte xs) xs)
word_is_ascii xs k d h =
    let n : ℕ = prefix_len is_word_byte xs in
    let l : k < n = omega (arith, length-take n xs) in
    let e : is_word_byte (get_or xs k d) ≡ true = prefix_len_passes is_word_byte xs k d l in
    let g : get_or (take n xs) k d ≡ get_or xs k d = get_or-take n xs k d l in
    rw g (word_byte_is_ascii _ e)

-- what begins with `$` is the variable after that
pub variable_is_sign : (xs : List ℕ) (n len : ℕ) → 0 < length xs → get_or xs 0 0 ≡ 36 → len ≡ 1 + n → variable_at (drop 1 xs) ≡ Some (Variable (take n (drop 1 xs))) → sign_at xs ≡ Some (Variable (drop 1 (take len xs)))
variable_is_sign [] n len l e m v = absurd (omega arith)
variable_is_sign (b ∷ bs) n len l e m v =
    let k : drop 1 (take len (b ∷ bs)) ≡ take n bs = ap (λ i. drop 1 (take i (b ∷ bs))) (m ∙ one-add n) in
    let s : sign_at (b ∷ bs) ≡ Some (Variable (take n bs)) = subst (λ c. sign_at (c ∷ bs) ≡ Some (Variable (take n bs))) (sym e) v in
    s ∙ ap (λ v. Some (Variable v)) (sym k)

pub variable_is_ascii : (xs : List ℕ) (len : ℕ) → 0 < length xs → get_or xs 0 0 ≡ 36 → len ≡ 1 + prefix_len is_word_byte (drop 1 xs) → All (λ byte. byte < 128) (take len xs)
variable_is_ascii [] len l e m = absurd (omega arith)
variable_is_ascii (b ∷ bs) len l e m =
    let n : ℕ = prefix_len is_word_byte bs in
    let whole : take len (b ∷ bs) ≡ b ∷ take n bs = ap (λ i. take i (b ∷ bs)) (m ∙ one-add n) in
    subst (λ ys. All (λ byte. byte < 128) ys) (sym whole) (behind_first b (take n bs) (omega arith) (word_is_ascii bs))
  where
    behind_first : (b : ℕ) (ys : List ℕ) → b < 128 → All (λ byte. byte < 128) ys → All (λ byte. byte < 128) (b ∷ ys)
    behind_first b ys small all zero d h = small
    behind_first b ys small all (suc k) d h = all k d (omega arith)
