-- References and ids by how they begin, and texts without a separator.
use Rattle.std.proofs.Common.{◌≡◌, ◌≢◌, ℕ, ◌+◌, ◌==◌, ◌||◌, ◌&&◌, suc, Bool, false, not, cond, inl, inr, List, [], ◌∷◌, length, drop, Option, Some, None, option_map, refl, ap, ◌∙◌, sym, arith}
use Rattle.std.specs.Prelude.{if◌then◌else◌}
use Rattle.std.specs.List.{list_any, position_or_len, before_first, after_first}
use Rattle.std.proofs.lemmas.Bool.{cases_Bool, eqb-true, false_from_ne_true}
use Rattle.std.proofs.lemmas.List.{drop_all}
use Rattle.ecs_model.specs.Text.{is_blank, trim_front, trimmed}
use Rattle.ecs_model.specs.Orders.{EntityRef, IdRef, plain_of}
use Rattle.ecs_model.specs.Script.{id_and_rest, is_apart, pair_and_rest, pair_in, pair_ref, reference_of}
use Rattle.script_line.specs.Line.{word_read}

-- a text that doesn't begin with a byte
pub begins_not : (c b : ℕ) (bs : List ℕ) → ((rest : List ℕ) → b ∷ bs ≢ c ∷ rest) → (b == c) ≡ false
begins_not c b bs p = false_from_ne_true (b == c) (λ e. p bs (ap (λ x. x ∷ bs) (eqb-true b c e)))

-- f after g
both_mapped : {A B C : Type 0} (g : A → B) (f : B → C) (o : Option A) → option_map f (option_map g o) ≡ option_map (λ x. f (g x)) o
both_mapped g f None = refl
both_mapped g f (Some x) = refl

-- an id that is no pair
pub plain_read : (bs : List ℕ) → trim_front bs ≡ bs → ((rest : List ℕ) → bs ≢ 40 ∷ rest) → option_map (λ r. (plain_of r.0, r.1)) (word_read reference_of bs) ≡ id_and_rest bs
plain_read [] e p = refl
plain_read (b ∷ bs) e p =
    let plain : List ℕ → Option (IdRef × List ℕ) = λ t. option_map (λ r. (plain_of r, drop (length (before_first is_blank t)) t)) (reference_of (before_first is_blank t)) in
    both_mapped (λ r. (r, drop (length (before_first is_blank (b ∷ bs))) (b ∷ bs))) (λ r. (plain_of r.0, r.1)) (reference_of (before_first is_blank (b ∷ bs)))
    ∙ sym (ap plain e)
    ∙ sym (ap (λ v. if v then pair_and_rest bs else plain (trim_front (b ∷ bs))) (begins_not 40 b bs p))

-- after a separator that isn't there stands nothing, and no byte is one
nothing_behind : (f : ℕ → Bool) (bs : List ℕ) → position_or_len f bs ≡ length bs → after_first f bs ≡ []
nothing_behind f bs h = drop_all (position_or_len f bs + 1) bs (omega (arith, h))

none_any : (f : ℕ → Bool) (bs : List ℕ) → position_or_len f bs ≡ length bs → list_any f bs ≡ false
none_any f [] h = refl
none_any f (b ∷ bs) h = elim (cases_Bool (f b)) [
  | inl e ↦
      let first : 0 ≡ suc (length bs) = sym (ap (λ v. cond (not v) (1 + position_or_len f bs) 0) e) ∙ h in
      absurd (omega arith)
  | inr e ↦
      let later : 1 + position_or_len f bs ≡ suc (length bs) = sym (ap (λ v. cond (not v) (1 + position_or_len f bs) 0) e) ∙ h in
      ap (λ v. v || list_any f bs) e ∙ none_any f bs (omega arith)
]

-- a pair without its target
no_target : (r : Option EntityRef) → pair_ref r None ≡ None
no_target None = refl
no_target (Some r) = refl

-- a pair without a comma
pub no_comma : (bs : List ℕ) → position_or_len (λ b. b == 44) bs ≡ length bs → None ≡ pair_in bs
no_comma bs h =
    let first : Option EntityRef = reference_of (trimmed (before_first (λ b. b == 44) bs)) in
    sym (ap (λ t. pair_ref first (reference_of (trimmed t))) (nothing_behind (λ b. b == 44) bs h) ∙ no_target first)

-- a pair without its second bracket
pub no_bracket : (bs : List ℕ) → position_or_len (λ b. b == 41) bs ≡ length bs → None ≡ pair_and_rest bs
no_bracket bs h =
    let rest : List ℕ = after_first (λ b. b == 41) bs in
    sym (ap (λ v. if v && is_apart rest then option_map (λ i. (i, rest)) (pair_in (before_first (λ b. b == 41) bs)) else None) (none_any (λ b. b == 41) bs h))
