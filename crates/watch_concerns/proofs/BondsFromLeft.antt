-- What is read of a query's pieces from the left decides whether its variables are bound.
use Rattle.std.proofs.Common.{◌≡◌, ℕ, zero, suc, Bool, true, false, List, [], ◌∷◌, length, refl, sym, ap, ◌∙◌, arith}
use Rattle.std.proofs.lemmas.Bool.{ne_eqb}
use Rattle.std.specs.Prelude.{◌+◌, ◌-◌, ◌==◌, ◌&&◌, ◌||◌, not, if◌then◌else◌}
use Rattle.std.specs.List.{list_all, range_with_len}
use Rattle.ecs_model.specs.rows.Level.{Level, done, also, unless, top, then_level, joined_levels, open_levels, first_level, other_levels}
use Rattle.ecs_model.specs.rows.Rows.{visible}
use Rattle.query_model.specs.declared.query.Term.{Term}
use Rattle.query_model.specs.Query.{Item, Piece, item, opening, closing, Query}
use Rattle.query_check.specs.Terms.{terms}
use Rattle.watch_concerns.specs.declared.bonds.Bond.{Bond}
use Rattle.watch_concerns.specs.Bonds.{are_all_bound, groups_are_bound, has_directly}
use Rattle.watch_concerns.specs.FromLeft.{binds, binds_from, depth_behind, each_group, groups_from, is_end, is_free, item_binds, passes_from, piece_passes}

-- the level in which items count: the whole query's, or that of the group that is open, behind so many inner ones
abbrev pub left : Bool → ℕ → List Level → Level
left true zero ls = joined_levels ls
left false zero ls = first_level ls
left whole (suc d) [] = done
left whole (suc d) (l ∷ ls) = left whole d ls

none_left : (whole : Bool) (d : ℕ) → left whole d [] ≡ done
none_left true zero = refl
none_left false zero = refl
none_left whole (suc d) = refl

passed : (whole b : Bool) → (if not whole && false then false else b) ≡ b
passed true b = refl
passed false b = refl

tested : (a b : Bool) → (if a then true else b) ≡ (a || b)
tested true b = refl
tested false b = refl

module _ (test : Item → Bool) where
  behind_item : (whole : Bool) (x : Item) (ls : List Level) → (test x || has_directly test (left whole zero ls)) ≡ has_directly test (left whole zero (also x (first_level ls) ∷ other_levels ls))
  behind_item true x [] = refl
  behind_item true x (l ∷ ls) = refl
  behind_item false x ls = refl

  behind_inner_item : (whole : Bool) (d : ℕ) (x : Item) (ls : List Level) → has_directly test (left whole (suc d) ls) ≡ has_directly test (left whole (suc d) (also x (first_level ls) ∷ other_levels ls))
  behind_inner_item whole d x [] = sym (ap (has_directly test) (none_left whole d))
  behind_inner_item whole d x (l ∷ ls) = refl

  behind_opening : (whole : Bool) (d : ℕ) (from_term : Bool) (own : List ℕ) (ls : List Level)
      → has_directly test (left whole (suc d) ls) ≡ has_directly test (left whole d (unless from_term own (first_level ls) (first_level (other_levels ls)) ∷ other_levels (other_levels ls)))
  behind_opening true zero from_term own [] = refl
  behind_opening true zero from_term own (l ∷ []) = refl
  behind_opening true zero from_term own (l ∷ m ∷ ls) = refl
  behind_opening false zero from_term own [] = refl
  behind_opening false zero from_term own (l ∷ []) = refl
  behind_opening false zero from_term own (l ∷ m ∷ ls) = refl
  behind_opening whole (suc d) from_term own [] = sym (ap (has_directly test) (none_left whole d))
  behind_opening whole (suc d) from_term own (l ∷ []) = sym (ap (has_directly test) (none_left whole d))
  behind_opening whole (suc d) from_term own (l ∷ m ∷ ls) = refl

  -- in a group that was opened here no item counts, and no end is the last
  inside : (whole : Bool) (d : ℕ) (p : Piece) (ps : List Piece) → passes_from test whole (suc d) (p ∷ ps) ≡ passes_from test whole (depth_behind (suc d) p) ps
  inside whole d p ps =
      let deep : (suc d == 0) ≡ false = ne_eqb (suc d) 0 (λ e. absurd (omega (arith, e))) in
      ap (λ b. if b && piece_passes test p then true else if b && not whole && is_end p then false else passes_from test whole (depth_behind (suc d) p) ps) deep

  pub level_left : (whole : Bool) (d : ℕ) (ps : List Piece) → passes_from test whole d ps ≡ has_directly test (left whole d (open_levels ps))
  level_left whole d [] = sym (ap (has_directly test) (none_left whole d))
  level_left whole zero (item x ∷ ps) =
      ap (λ b. if test x then true else b) (passed whole (passes_from test whole zero ps))
      ∙ tested (test x) (passes_from test whole zero ps)
      ∙ ap (λ b. test x || b) (level_left whole zero ps)
      ∙ behind_item whole x (open_levels ps)
  level_left whole (suc d) (item x ∷ ps) = inside whole d (item x) ps ∙ level_left whole (suc d) ps ∙ behind_inner_item whole d x (open_levels ps)
  level_left whole zero (opening from_term own ∷ ps) = passed whole (passes_from test whole 1 ps) ∙ level_left whole 1 ps ∙ behind_opening whole zero from_term own (open_levels ps)
  level_left whole (suc d) (opening from_term own ∷ ps) =
      let deeper : suc d + 1 ≡ suc (suc d) = omega arith in
      inside whole d (opening from_term own) ps
      ∙ ap (λ n. passes_from test whole n ps) deeper
      ∙ level_left whole (suc (suc d)) ps ∙ behind_opening whole (suc d) from_term own (open_levels ps)
  level_left true zero (closing ∷ ps) = level_left true zero ps
  level_left false zero (closing ∷ ps) = refl
  level_left whole (suc d) (closing ∷ ps) =
      let around : suc d - 1 ≡ d = omega arith in
      inside whole d closing ps ∙ ap (λ n. passes_from test whole n ps) around ∙ level_left whole d ps

-- ---- groups

all_agree : {X : Type 0} (p q : X → Bool) → ((x : X) → p x ≡ q x) → (xs : List X) → list_all p xs ≡ list_all q xs
all_agree p q same [] = refl
all_agree p q same (x ∷ xs) = let rest = all_agree p q same xs in λ k. same x k && rest k

and_assoc : (a b c : Bool) → (a && (b && c)) ≡ ((a && b) && c)
and_assoc true b c = refl
and_assoc false b c = refl

-- a test of variables in levels, and the same from the pieces with which a level begins
module _ (bound : ℕ → Level → Bool) (from : Bool → List Piece → ℕ → Bool) (from_left : (whole : Bool) (ps : List Piece) (v : ℕ) → from whole ps v ≡ bound v (left whole zero (open_levels ps))) where
  -- whether the variables of the groups in a level pass
  abbrev in_groups : Level → Bool
  in_groups = groups_are_bound bound

  first_and_others : (ls : List Level) → list_all in_groups ls ≡ (in_groups (first_level ls) && list_all in_groups (other_levels ls))
  first_and_others [] = refl
  first_and_others (l ∷ ls) = refl

  groups_left : (ps : List Piece) → each_group (from false) ps ≡ list_all in_groups (open_levels ps)
  groups_left [] = refl
  groups_left (item x ∷ ps) = groups_left ps ∙ first_and_others (open_levels ps)
  groups_left (opening from_term own ∷ ps) =
      let ls = open_levels ps in
      let owned = all_agree (from false ps) (λ v. bound v (first_level ls)) (from_left false ps) own in
      let rest = groups_left ps ∙ first_and_others ls in
      let others = first_and_others (other_levels ls) in
      let here = list_all (λ v. bound v (first_level ls)) own in
      (λ k. owned k && rest k)
      ∙ (λ k. here && (in_groups (first_level ls) && others k))
      ∙ and_assoc here (in_groups (first_level ls)) (in_groups (first_level (other_levels ls)) && list_all in_groups (other_levels (other_levels ls)))
      ∙ and_assoc (here && in_groups (first_level ls)) (in_groups (first_level (other_levels ls))) (list_all in_groups (other_levels (other_levels ls)))
  groups_left (closing ∷ ps) = groups_left ps

  then_groups : (l m : Level) → in_groups (then_level l m) ≡ (in_groups l && in_groups m)
  then_groups done m = refl
  then_groups (also x l) m = then_groups l m
  then_groups (unless from_term own inner l) m =
      let before = list_all (λ v. bound v inner) own && in_groups inner in
      ap (λ b. before && b) (then_groups l m) ∙ and_assoc before (in_groups l) (in_groups m)

  joined_groups : (ls : List Level) → in_groups (joined_levels ls) ≡ list_all in_groups ls
  joined_groups [] = refl
  joined_groups (l ∷ ls) = then_groups l (joined_levels ls) ∙ ap (λ b. in_groups l && b) (joined_groups ls)

  pub all_left : (q : Query) → (list_all (from true q.pieces) (visible q) && each_group (from false) q.pieces) ≡ are_all_bound bound q
  unfolding top
  all_left q =
      let all = all_agree (from true q.pieces) (λ v. bound v (joined_levels (open_levels q.pieces))) (from_left true q.pieces) (visible q) in
      let groups = groups_left q.pieces ∙ sym (joined_groups (open_levels q.pieces)) in
      λ k. all k && groups k

bound_left : (bond : Bond) (all : List Term) (whole : Bool) (ps : List Piece) (v : ℕ) → binds_from bond all whole ps v ≡ binds bond all v (left whole zero (open_levels ps))
bound_left bond all whole ps v = ap (λ b. is_free bond all v || b) (level_left (item_binds bond v) whole zero ps)

-- by the terms and the pieces of a query, and how many visible variables it has
pub all_bound_left : (bond : Bond) (q : Query) (ts : List Term) (ps : List Piece) (n : ℕ) → ts ≡ terms q → ps ≡ q.pieces → n ≡ length q.variables
    → (list_all (binds_from bond ts true ps) (range_with_len 0 n) && groups_from bond ts ps) ≡ are_all_bound (binds bond (terms q)) q
all_bound_left bond q ts ps n asked pieces count =
    (λ k. list_all (binds_from bond (asked k) true (pieces k)) (range_with_len 0 (count k)) && groups_from bond (asked k) (pieces k))
    ∙ all_left (binds bond (terms q)) (binds_from bond (terms q)) (bound_left bond (terms q)) q
