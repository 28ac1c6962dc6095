-- Marks of what ids mention: which patterns may match, and that all tables keep to them.
use Rattle.std.proofs.Common.{◌≡◌, ℕ, ◌+◌, ◌<◌, ◌≤◌, ◌||◌, Bool, true, false, true≢false, List, length, take, slice_index_or, Option, Some, None, refl, sym, ap, subst, ◌∙◌}
use Rattle.std.specs.Option.{option_map_or}
use Rattle.std.specs.List.{list_any}
use Rattle.std.specs.Cmp.Derive.{both_true}
use Rattle.std.specs.HashMap.{HashMap}
use Rattle.std.proofs.lemmas.Bool.{and_parts}
use Rattle.std.proofs.lemmas.Bool.Decides.{Decides-eqb}
use Rattle.std.proofs.lemmas.List.{take_all}
use Rattle.std.proofs.lemmas.List.Folds.{list_any_more}
use Rattle.ecs_id.specs.Id.{Id, plain, pair, first_of, second_of}
use Rattle.ecs_id.specs.declared.TableKey.{TableKey}
use Rattle.id_pattern.specs.declared.Part.{Part}
use Rattle.id_pattern.specs.declared.Part.TheVariants.{Is, Any}
use Rattle.id_pattern.specs.declared.Pattern.{Pattern}
use Rattle.component_index.specs.Entered.{Entered}
use Rattle.component_index.specs.Listed.{AreListed}
use Rattle.component_index.specs.Mentions.{AreMarked, Keeps, MayBeListed, may_match, may_take}
use Rattle.id_pattern.specs.Patterns.{matches, takes}

-- ---- one id
taken : (marks : List Bool) (part : Part) (i : ℕ) → slice_index_or marks i false ≡ true → takes part i ≡ true → may_take marks part ≡ true
taken marks (Is j) i m h = ap (λ n. slice_index_or marks n false) (sym ((Decides-eqb i j).0 h)) ∙ m
taken marks Any i m h = refl

noted_parts : (marks : List Bool) (first : Part) (second : Option Part) (id : Id) → slice_index_or marks (first_of id) false ≡ true → ((t : ℕ) → second_of id ≡ Some t → slice_index_or marks t false ≡ true)
    → matches (record { first = first; second = second }) id ≡ true → may_match marks (record { first = first; second = second }) ≡ true
noted_parts marks first None (plain c) m s h = both_true (taken marks first c m h) refl
noted_parts marks first None (pair r t) m s h = absurd (true≢false (sym h))
noted_parts marks first (Some second) (plain c) m s h = absurd (true≢false (sym h))
noted_parts marks first (Some second) (pair r t) m s h =
    let tests = and_parts (takes first r) (takes second t) h in
    both_true (taken marks first r m tests.0) (taken marks second t (s t refl) tests.1)

-- once all that it mentions has marks, each pattern that matches an id may match
pub noted : (marks : List Bool) (id : Id) → slice_index_or marks (first_of id) false ≡ true → ((t : ℕ) → second_of id ≡ Some t → slice_index_or marks t false ≡ true)
    → (p : Pattern) → matches p id ≡ true → may_match marks p ≡ true
noted marks id m s p h = noted_parts marks p.first p.second id m s h

-- ---- marks that stay
take_kept : (old new : List Bool) → Keeps old new → (part : Part) → may_take old part ≡ true → may_take new part ≡ true
take_kept old new kept (Is i) h = kept i h
take_kept old new kept Any h = refl

second_kept : (old new : List Bool) → Keeps old new → (second : Option Part) → option_map_or (may_take old) second true ≡ true → option_map_or (may_take new) second true ≡ true
second_kept old new kept None h = refl
second_kept old new kept (Some part) h = take_kept old new kept part h

pub match_kept : (old new : List Bool) → Keeps old new → (p : Pattern) → may_match old p ≡ true → may_match new p ≡ true
match_kept old new kept p h =
    let parts = and_parts (may_take old p.first) (option_map_or (may_take old) p.second true) h in
    both_true (take_kept old new kept p.first parts.0) (second_kept old new kept p.second parts.1)

pub Keeps-steps : (a b c : List Bool) → Keeps a b → Keeps b c → Keeps a c
Keeps-steps a b c f g i h = g i (f i h)

-- marks that are those that were there, and one more
pub Keeps-same : (old new : List Bool) → ((i : ℕ) → slice_index_or new i false ≡ slice_index_or old i false) → Keeps old new
Keeps-same old new same i h = same i ∙ h

-- ---- one more id
pub noted_more : (old new : List Bool) (ids : List Id) (i : ℕ) (d id : Id) → id ≡ slice_index_or ids i d → i < length ids → Keeps old new
    → ((p : Pattern) → list_any (matches p) (take i ids) ≡ true → may_match old p ≡ true) → ((p : Pattern) → matches p id ≡ true → may_match new p ≡ true)
    → (p : Pattern) → list_any (matches p) (take (i + 1) ids) ≡ true → may_match new p ≡ true
noted_more old new ids i d id is within kept before here p h = by (list_any (matches p) (take i ids)) refl
  where
    split : (list_any (matches p) (take i ids) || matches p id) ≡ true
    split = (λ j. list_any (matches p) (take i ids) || matches p (is j)) ∙ sym (list_any_more (matches p) ids i d within) ∙ h

    by : (b : Bool) → list_any (matches p) (take i ids) ≡ b → may_match new p ≡ true
    by true e = match_kept old new kept p (before p e)
    by false e = here p (sym (λ j. e j || matches p id) ∙ split)

pub noted_end : (marks : List Bool) (ids : List Id) (i : ℕ) → length ids ≤ i → ((p : Pattern) → list_any (matches p) (take i ids) ≡ true → may_match marks p ≡ true)
    → (p : Pattern) → list_any (matches p) ids ≡ true → may_match marks p ≡ true
noted_end marks ids i e h = subst (λ ys. (p : Pattern) → list_any (matches p) ys ≡ true → may_match marks p ≡ true) (take_all i ids e) h

-- ---- the lists
pub listed_marked : {S : Type 0} (marks : List Bool) (lists : HashMap Pattern (List TableKey) S) (tables : Entered) → AreListed tables lists → AreMarked marks tables → MayBeListed marks lists
listed_marked marks lists tables listed marked p k h = marked p k (sym (listed p k) ∙ h)
