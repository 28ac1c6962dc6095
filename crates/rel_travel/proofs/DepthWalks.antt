-- The way down to an entity of which nothing is known, and what is known once all its targets are.
use Rattle.std.proofs.Common.{◌≡◌, ◌≢◌, ◌⊎◌, ◌↔◌, ℕ, zero, suc, ◌+◌, ◌<◌, ◌≤◌, List, [], ◌∷◌, ◌++◌, max, length, get_or, map, set, take, Some, None, add-one, refl, sym, ap, ◌∙◌, inl, inr, subst, arith}
use Rattle.std.specs.List.{Contains, range_with_len, sum_by}
use Rattle.std.proofs.Math.Nat.{le-max_left, le-max_right, max-le, max-zero, zero-max}
use Rattle.std.proofs.lemmas.Bool.{cases_eq, cases_lt}
use Rattle.std.proofs.lemmas.List.{append-nil, get_or-set_other, get_or-set_same, take_more}
use Rattle.std.proofs.lemmas.List.Sums.{sum_by-set}
use Rattle.std.proofs.lemmas.List.Elements.{All-contains, Contains-append_right, Contains-push_cases}
use Rattle.std.proofs.lemmas.List.FromFn.{length-range_with_len}
use Rattle.ecs_id.specs.Id.{Id}
use Rattle.ecs_model.specs.Depth.{IsChain, no_step, one_more, IsDepth, depth_within, greatest}
use Rattle.ecs_model.specs.Links.{AreLinks, IsAcyclic, depth, target_under, targets_in, upward}
use Rattle.ecs_model.specs.Reach.{HasChain}
use Rattle.ecs_model.proofs.Depths.{after_step, depth_bounded, depth_is, depths_are_of_longest_chains}
use Rattle.ecs_model.proofs.LivePairs.{upward_below}
use Rattle.ecs_model.proofs.Members.{among_others, others, others_fewer}
use Rattle.ecs_model.proofs.ShortLines.{chain_ends, chain_through, one_step}
use Rattle.rel_travel.specs.Words.{AreNoted, AreNumbers, IsNotedOf, NoneNoted}
use Rattle.rel_travel.specs.Finds.{with_find}
use Rattle.rel_travel.specs.Growing.{IsGrownWhere}
use Rattle.rel_travel.specs.declared.path.Step.{Step}
use Rattle.rel_travel.proofs.Growth.{IsGrownBy-find, IsGrownBy-none, targets_more}

-- 1 for a word that says nothing
abbrev pub unknown : ℕ → ℕ
unknown zero = 1
unknown (suc n) = 0

module _ (next : ℕ → List ℕ) (start : ℕ) where
  -- each step is a target of the one below, and the last one is at the start
  abbrev pub IsWay : List Step → Type 0
  IsWay [] = Unit {0}
  IsWay (f ∷ []) = f.index ≡ start
  IsWay (f ∷ g ∷ fs) = Contains (next g.index) f.index × IsWay (g ∷ fs)

  pub way_chain : (f : Step) (fs : List Step) → IsWay (f ∷ fs) → IsChain next start (length fs) f.index
  way_chain f [] w = subst (λ x. IsChain next start 0 x) (sym w) no_step
  way_chain f (g ∷ fs) w = one_more (way_chain g fs w.1) w.0

  pub way_below : (f : Step) (fs : List Step) → IsWay (f ∷ fs) → IsWay fs
  way_below f [] w = tt
  way_below f (g ∷ fs) w = w.1

  -- the place of its first step is no matter
  pub way_from_place : (f : Step) (place : ℕ) (fs : List Step) → IsWay (f ∷ fs) → IsWay (record f { place = place } ∷ fs)
  way_from_place f place [] w = w
  way_from_place f place (g ∷ fs) w = w

  -- the first step leads there
  abbrev pub LeadsTo : List Step → ℕ → Type 0
  LeadsTo [] t = Unit {0}
  LeadsTo (g ∷ gs) t = HasChain next g.index t

  pub way_leads : (f : Step) (fs : List Step) → IsWay (f ∷ fs) → LeadsTo fs f.index
  way_leads f [] w = tt
  way_leads f (g ∷ fs) w = one_step next g.index f.index w.0

  leads_below : (g : Step) (gs : List Step) (t : ℕ) → IsWay (g ∷ gs) → HasChain next g.index t → LeadsTo gs t
  leads_below g [] t w c = tt
  leads_below g (h ∷ gs) t w c = chain_through next h.index g.index t w.0 c

  -- of none of the steps anything is known
  abbrev pub AreUnknown : List ℕ → List Step → Type 0
  AreUnknown words [] = Unit {0}
  AreUnknown words (f ∷ fs) = (get_or words f.index 0 ≡ 0) × AreUnknown words fs

  module _ (acyclic : (x : ℕ) → ¬ (HasChain next x x)) where
    -- nothing more is known of the others where the word of one to which they lead is set
    pub still_unknown : (words : List ℕ) (t v : ℕ) (fs : List Step) → IsWay fs → LeadsTo fs t → AreUnknown words fs → AreUnknown (set words t v) fs
    still_unknown words t v [] w l u = tt
    still_unknown words t v (g ∷ gs) w l u = (
      get_or-set_other words t g.index v 0 (λ e. acyclic t (subst (λ x. HasChain next x t) e l)) ∙ u.0,
      still_unknown words t v gs (way_below g gs w) (leads_below g gs t w l) u.1,
    )

module _ {A : Type 0} where
  head_here : (x : A) (xs : List A) → Contains (x ∷ xs) x
  head_here x xs = (0, omega arith, refl)

  maps_agree : (f g : A → ℕ) (xs : List A) → ((x : A) → Contains xs x → f x ≡ g x) → map f xs ≡ map g xs
  maps_agree f g [] same = refl
  maps_agree f g (x ∷ xs) same = λ i. same x (head_here x xs) i ∷ maps_agree f g xs (λ y h. same y (Contains-append_right (x ∷ []) xs y h)) i

greatest_push : (f : ℕ → ℕ) (xs : List ℕ) (y : ℕ) → greatest (map f (xs ++ y ∷ [])) ≡ max (greatest (map f xs)) (f y)
greatest_push f [] y = max-zero (f y) ∙ sym (zero-max (f y))
greatest_push f (x ∷ xs) y =
    let rest : greatest (map f (xs ++ y ∷ [])) ≡ max (greatest (map f xs)) (f y) = greatest_push f xs y in
    ap (max (f x)) rest ∙ greater_of_three (f x) (greatest (map f xs)) (f y)
  where
    greater_of_three : (a b c : ℕ) → max a (max b c) ≡ max (max a b) c
    greater_of_three a b c =
        let p : max a (max b c) ≤ max (max a b) c = max-le (omega (arith, le-max_left a b, le-max_left (max a b) c)) (max-le (omega (arith, le-max_right a b, le-max_left (max a b) c)) (le-max_right (max a b) c)) in
        let q : max (max a b) c ≤ max a (max b c) = max-le (max-le (le-max_left a (max b c)) (omega (arith, le-max_left b c, le-max_right a (max b c)))) (omega (arith, le-max_right b c, le-max_right a (max b c))) in
        omega (arith, p, q)

-- one number is the depth
depth_once : {A : Type 0} (next : A → List A) (start : A) (n m : ℕ) → IsDepth next start n → IsDepth next start m → n ≡ m
depth_once next start n m d e =
    let r = IsDepth.reached d in
    let u = IsDepth.reached e in
    let low : n ≤ m = (IsDepth.longest e) n r.0 r.1 in
    let high : m ≤ n = (IsDepth.longest d) m u.0 u.1 in
    omega arith

range_has : (a n i : ℕ) → a ≤ i → i < a + n → Contains (range_with_len a n) i
range_has a zero i low high = absurd (omega arith)
range_has a (suc n) i low high =
    elim (cases_lt a i) [
      | inl more ↦ Contains-append_right (a ∷ []) (range_with_len (a + 1) n) i (range_has (a + 1) n i (omega arith) (omega arith))
      | inr same ↦ let e : a ≡ i = omega arith in subst (λ k. Contains (a ∷ range_with_len (a + 1) n) k) e (0, omega arith, refl)
    ]

module _ {size : ℕ} {entities : List ℕ} {ids : ℕ → List Id} (links : AreLinks size entities ids) (r : ℕ) (acyclic : IsAcyclic ids r) where
  next_of : ℕ → List ℕ
  next_of = upward ids r

  -- no chain from below the size has as many steps as the size
  pub chain_is_less : (start n y : ℕ) → start < size → IsChain (upward ids r) start n y → n < size
  chain_is_less start n y low c =
      let all : List ℕ = range_with_len 0 size in
      let many = length-range_with_len 0 size in
      let m = range_has 0 size start (omega arith) (omega arith) in
      let fewer = others_fewer all m.0 m.1 in
      let d = depth_is (upward ids r) acyclic (length (others all m.0)) (others all m.0) (omega arith) start
      (λ x h. among_others all m.0 start x m.1 m.2 (λ q. acyclic x (subst (λ z. HasChain (upward ids r) z x) q h))
      (chain_ends (upward ids r) all (λ x y i. range_has 0 size y (omega arith) (omega (arith, All-contains (λ y. y < size) (upward ids r x) y (upward_below links r size (omega arith) x) i))) start x h)) in
      let short = (IsDepth.longest d) n y c in
      omega (arith, short, depth_bounded (upward ids r) (length (others all m.0)) start, fewer, many)

  -- one more than the greatest depth of the targets
  pub depth_unfolds : (s : ℕ) → depth ids entities r s ≡ greatest (map (λ t. suc (depth ids entities r t)) (upward ids r s))
  unfolding depth_within
  depth_unfolds s =
      depth_once (upward ids r) s (depth ids entities r s) (depth_within (upward ids r) (suc (length entities)) s) (depths_are_of_longest_chains size entities ids links r acyclic s)
      (after_step (upward ids r) (length entities) s (λ t h. depths_are_of_longest_chains size entities ids links r acyclic t))

  -- where all targets are known
  pub word_is : (words : List ℕ) (s : ℕ) → AreNumbers (depth ids entities r) words → ((t : ℕ) → Contains (upward ids r s) t → get_or words t 0 ≢ 0) → greatest (map (λ t. get_or words t 0) (upward ids r s)) ≡ depth ids entities r s
  word_is words s are all =
      ap greatest (maps_agree (λ t. get_or words t 0) (λ t. suc (depth ids entities r t)) (upward ids r s) (λ t h. let e = are t (all t h) in omega (arith, e))) ∙ sym (depth_unfolds s)

  pub depth_is_less : (s : ℕ) → s < size → depth ids entities r s < size
  depth_is_less s low = let d = IsDepth.reached (depths_are_of_longest_chains size entities ids links r acyclic s) in chain_is_less s (depth ids entities r s) d.0 low d.1

  -- the first step of a way is below the size
  pub way_is_below : (start : ℕ) (f : Step) (fs : List Step) → start < size → IsWay (upward ids r) start (f ∷ fs) → f.index < size
  way_is_below start f [] low w = subst (λ x. x < size) (sym w) low
  way_is_below start f (g ∷ fs) low w = All-contains (λ y. y < size) (upward ids r g.index) f.index (upward_below links r size (omega arith) g.index) w.0

  -- and the steps below it are fewer than the size
  pub way_is_short : (start : ℕ) (f : Step) (fs : List Step) → start < size → IsWay (upward ids r) start (f ∷ fs) → length fs < size
  way_is_short start f fs low w = chain_is_less start (length fs) f.index low (way_chain (upward ids r) start f fs w)

  -- one more word
  pub more_numbers : (words : List ℕ) (s w : ℕ) → s < length words → w ≡ depth ids entities r s + 1 → AreNumbers (depth ids entities r) words → AreNumbers (depth ids entities r) (set words s w)
  more_numbers words s w low e are i some =
      elim (cases_eq i s) [
        | inl same ↦ ap (λ k. get_or (set words s w) k 0) same ∙ get_or-set_same words s w 0 low ∙ e ∙ ap (λ k. depth ids entities r k + 1) (sym same)
        | inr other ↦ get_or-set_other words s i w 0 other ∙ are i (λ z. some (get_or-set_other words s i w 0 other ∙ z))
      ]

-- more is known where a word is set to one that says something
pub noted_more : (words xs : List ℕ) (s w : ℕ) → s < length words → AreNoted words xs → AreNoted (set words s (w + 1)) xs
noted_more words xs s w low all x h =
    elim (cases_eq x s) [
      | inl same ↦ λ z. absurd (omega (arith, z, ap (λ k. get_or (set words s (w + 1)) k 0) same, get_or-set_same words s (w + 1) 0 low))
      | inr other ↦ λ z. all x h (sym (get_or-set_other words s x (w + 1) 0 other) ∙ z)
    ]

module _ (ids : ℕ → List Id) (r : ℕ) where
  -- of each step the targets before its place are known
  abbrev pub AreAsked : List ℕ → List Step → Type 0
  AreAsked words [] = Unit {0}
  AreAsked words (f ∷ fs) = AreNoted words (targets_in (take f.place (ids f.index)) r) × AreAsked words fs

  pub still_asked : (words : List ℕ) (s w : ℕ) (fs : List Step) → s < length words → AreAsked words fs → AreAsked (set words s (w + 1)) fs
  still_asked words s w [] low all = tt
  still_asked words s w (f ∷ fs) low all = (noted_more words (targets_in (take f.place (ids f.index)) r) s w low all.0, still_asked words s w fs low all.1)

-- those that were noted, with one more
pub with_find_cases : (xs : List ℕ) (y z : ℕ) → Contains (with_find xs y) z ↔ (Contains xs z ⊎ Contains (y ∷ []) z)
with_find_cases xs y z = IsGrownWhere.exact (IsGrownBy-find [] xs xs y (IsGrownBy-none xs)) z

-- what is known is of those found, with one more
pub noted_of_more : (words found : List ℕ) (s w : ℕ) → IsNotedOf found words → IsNotedOf (with_find found s) (set words s w)
noted_of_more words found s w of i some =
    elim (cases_eq i s) [
      | inl same ↦ (with_find_cases found s i).1 (inr (subst (λ k. Contains (s ∷ []) k) (sym same) (head_here s [])))
      | inr other ↦ (with_find_cases found s i).1 (inl (of i (λ z. some (get_or-set_other words s i w 0 other ∙ z))))
    ]

pub below_more : (size : ℕ) (found : List ℕ) (s : ℕ) → s < size → ((i : ℕ) → Contains found i → i < size) → (i : ℕ) → Contains (with_find found s) i → i < size
below_more size found s low all i h =
    elim ((with_find_cases found s i).0 h) [
      | inl before ↦ all i before
      | inr this ↦ elim (Contains-push_cases [] s i this) [ inl none ↦ absurd (omega (arith, none.1)) | inr same ↦ subst (λ k. k < size) same low ]
    ]

-- the targets so far, with one more id
module _ (ids : List Id) (r k : ℕ) (i : Id) (low : k < length ids) (is : i ≡ get_or ids k i) where
  targets_with : (y : ℕ) → target_under r i ≡ Some y → targets_in (take (k + 1) ids) r ≡ targets_in (take k ids) r ++ y ∷ []
  targets_with y e = rw (targets_more ids r k i i low is, e) refl

  targets_without : target_under r i ≡ None → targets_in (take (k + 1) ids) r ≡ targets_in (take k ids) r
  targets_without e = rw (targets_more ids r k i i low is, e) (append-nil (targets_in (take k ids) r))

  -- all are known so far
  pub one_known : (P : ℕ → Type 0) (y : ℕ) → target_under r i ≡ Some y → P y → ((t : ℕ) → Contains (targets_in (take k ids) r) t → P t) → (t : ℕ) → Contains (targets_in (take (k + 1) ids) r) t → P t
  one_known P y e p all t h =
      elim (Contains-push_cases (targets_in (take k ids) r) y t (subst (λ ts. Contains ts t) (targets_with y e) h)) [ inl before ↦ all t before | inr q ↦ subst P q p ]

  pub none_known : (P : ℕ → Type 0) → target_under r i ≡ None → ((t : ℕ) → Contains (targets_in (take k ids) r) t → P t) → (t : ℕ) → Contains (targets_in (take (k + 1) ids) r) t → P t
  none_known P e all t h = all t (subst (λ ts. Contains ts t) (targets_without e) h)

  -- the greatest so far
  pub one_greater : (f : ℕ → ℕ) (y most next : ℕ) → target_under r i ≡ Some y → most ≡ greatest (map f (targets_in (take k ids) r)) → next ≡ max most (f y) → next ≡ greatest (map f (targets_in (take (k + 1) ids) r))
  one_greater f y most next e m n =
      n ∙ ap (λ g. max g (f y)) m ∙ sym (greatest_push f (targets_in (take k ids) r) y) ∙ ap (λ ts. greatest (map f ts)) (sym (targets_with y e))

  pub none_greater : (f : ℕ → ℕ) (most : ℕ) → target_under r i ≡ None → most ≡ greatest (map f (targets_in (take k ids) r)) → most ≡ greatest (map f (targets_in (take (k + 1) ids) r))
  none_greater f most e m = m ∙ ap (λ ts. greatest (map f ts)) (sym (targets_without e))

-- one word known more
pub fewer_unknown : (words : List ℕ) (s w : ℕ) → s < length words → get_or words s 0 ≡ 0 → sum_by unknown (set words s (w + 1)) + 1 ≡ sum_by unknown words
fewer_unknown words s w low none =
    let sum = sum_by-set unknown words s (w + 1) 0 low in
    let before : unknown (get_or words s 0) ≡ 1 = ap unknown none in
    let after : unknown (w + 1) ≡ 0 = rw add-one refl in
    omega (arith, sum, before, after)

-- those of whom nothing is known any more, with one more
pub forgotten_more : (words noted : List ℕ) (k : ℕ) → k < length noted → get_or noted k 0 < length words → ((i : ℕ) → Contains (take k noted) i → get_or words i 0 ≡ 0)
    → (i : ℕ) → Contains (take (k + 1) noted) i → get_or (set words (get_or noted k 0) 0) i 0 ≡ 0
forgotten_more words noted k here low none i h =
    elim (cases_eq i (get_or noted k 0)) [
      | inl same ↦ ap (λ j. get_or (set words (get_or noted k 0) 0) j 0) same ∙ get_or-set_same words (get_or noted k 0) 0 0 low
      | inr other ↦ get_or-set_other words (get_or noted k 0) i 0 0 other ∙ elim (Contains-push_cases (take k noted) (get_or noted k 0) i (subst (λ xs. Contains xs i) (take_more noted k 0 here) h)) [
        | inl before ↦ none i before
        | inr this ↦ absurd (other (sym this))
      ]
    ]

pub still_noted : (words noted : List ℕ) (s : ℕ) → s < length words → IsNotedOf noted words → IsNotedOf noted (set words s 0)
still_noted words noted s low of i some =
    elim (cases_eq i s) [
      | inl same ↦ absurd (some (ap (λ j. get_or (set words s 0) j 0) same ∙ get_or-set_same words s 0 0 low))
      | inr other ↦ of i (λ z. some (get_or-set_other words s i 0 0 other ∙ z))
    ]

-- where nothing is known of those of whom alone something was
pub all_forgotten : (words noted : List ℕ) → ((i : ℕ) → Contains noted i → get_or words i 0 ≡ 0) → IsNotedOf noted words → NoneNoted words
all_forgotten words noted none of i = elim (cases_eq (get_or words i 0) 0) [ inl nothing ↦ nothing | inr some ↦ none i (of i some) ]
