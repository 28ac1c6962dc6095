-- What is kept of what a query asks decides what is asked of the query.
use Rattle.std.proofs.Common.{◌≡◌, ℕ, ◌+◌, ◌<◌, ◌≤◌, Bool, true, false, List, [], ◌∷◌, ◌++◌, length, map, refl, sym, take, ap, arith, ◌∙◌}
use Rattle.std.specs.Prelude.{◌==◌, ◌&&◌, ◌||◌, not, flat_map, Option, Some, None, is_none, is_some, if◌then◌else◌}
use Rattle.std.specs.List.{list_all, list_any, range_with_len}
use Rattle.std.proofs.lemmas.Bool.{true≢false}
use Rattle.std.proofs.lemmas.Bool.Decides.{nat_tests}
use Rattle.std.proofs.lemmas.List.{take_all}
use Rattle.std.proofs.lemmas.List.Folds.{list_all-append, list_any-append, list_any_more}
use Rattle.std.proofs.lemmas.List.FromFn.{get_or-range_with_len, length-range_with_len}
use Rattle.id_pattern.specs.Patterns.{matches, takes}
use Rattle.id_pattern.specs.declared.Pattern.{Pattern}
use Rattle.ecs_id.specs.Id.{Id, plain, pair}
use Rattle.ecs_model.specs.Links.{is_held}
use Rattle.ecs_model.specs.steps.Rules.{prefab, disabled}
use Rattle.query_check.specs.Terms.{terms}
use Rattle.watch_concerns.specs.Anchored.{is_variable}
use Rattle.watch_concerns.specs.Concerns.{concerns, is_asked_by_all, is_pair_of, leads_up, may_be, may_match, term_concerns}
use Rattle.watch_concerns.specs.FromLeft.{depth_behind, is_end, passes_from, piece_passes}
use Rattle.watch_concerns.specs.Bonds.{are_all_bound}
use Rattle.watch_concerns.specs.Idle.{asks_for, asks_itself, is_idle_for, item_lacks_of}
use Rattle.watch_concerns.specs.Others.{asks_this_stored, concerns_below, concerns_others, says_how_far, term_concerns_below, term_concerns_others}
use Rattle.watch_concerns.specs.OwnIds.{item_is_met, item_lacks, lacks, lacks_from as lacks_before, meets, meets_from}
use Rattle.watch_concerns.specs.Whom.{concern_of, joined_concerns, terms_concern}
use Rattle.query_model.specs.Local.{asks_first}
use Rattle.query_model.specs.Observers.{is_constant, is_constant_target, is_first}
use Rattle.query_model.specs.declared.query.Ref.{Ref}
use Rattle.query_model.specs.declared.query.Ref.TheVariants.{Is, Var, Any, AnyOnce}
use Rattle.query_model.specs.declared.query.Term.{Term}
use Rattle.query_model.specs.Query.{Item, must, may, either, equal, differ, Piece, item, opening, closing, Query}
use Rattle.watch_asked.specs.Asked.{any_asked, any_counts_as, asked_by, asked_concern, asked_term, asked_terms, asks_by, asks_of, counts_as, groups_idle, have_all, is_idle_from, item_needs, may_be_met, may_meet, needs_from, needs_in_front, pairs_of, part_of, piece_needs, up_asks}
use Rattle.watch_asked.specs.declared.asked.AskedOf.{AskedOf}
use Rattle.watch_asked.specs.declared.asked.AskedTerm.{AskedTerm}
use Rattle.watch_asked.proofs.IdleVariables.{idle_left}

-- ---- truth values

turned : (x y : ℕ) → (x == y) ≡ (y == x)
turned x y = grind (arith, nat_tests)

and_true : (b : Bool) → (b && true) ≡ b
and_true true = refl
and_true false = refl

pub or_false : (b : Bool) → (b || false) ≡ b
or_false true = refl
or_false false = refl

and_false : (b : Bool) → (b && false) ≡ false
and_false true = refl
and_false false = refl

and_assoc : (a b c : Bool) → ((a && b) && c) ≡ (a && b && c)
and_assoc true b c = refl
and_assoc false b c = refl

or_true : (b : Bool) → (b || true) ≡ true
or_true true = refl
or_true false = refl

not_not : (b : Bool) → b ≡ not (not b)
not_not true = refl
not_not false = refl

pub or_assoc : (a b c : Bool) → ((a || b) || c) ≡ (a || (b || c))
or_assoc true b c = refl
or_assoc false b c = refl

neither : (a b : Bool) → (not a && not b) ≡ not (if a then true else b)
neither true b = refl
neither false b = refl

not_both : (a b : Bool) → (not a || not b) ≡ not (a && b)
not_both true b = refl
not_both false b = refl

-- asked, and lacking nothing
asked_and_held : (a b : Bool) → (a && not b) ≡ not (not a || b)
asked_and_held true b = refl
asked_and_held false b = refl

pub not_all : {X : Type 0} (p : X → Bool) (xs : List X) → list_any (λ x. not (p x)) xs ≡ not (list_all p xs)
not_all p [] = refl
not_all p (x ∷ xs) = ap (λ b. not (p x) || b) (not_all p xs) ∙ not_both (p x) (list_all p xs)

-- ---- patterns

takes_may : (r : Ref) (e : ℕ) → takes (part_of r) e ≡ may_be e r
takes_may (Is d) e = turned e d
takes_may (Var v) e = refl
takes_may Any e = refl
takes_may AnyOnce e = refl

pub matched : (first : Ref) (target : Option Ref) (i : Id) → matches (asked_by first target) i ≡ may_match first target i
matched first None (plain c) = takes_may first c
matched first None (pair r t) = refl
matched first (Some target) (plain c) = refl
matched first (Some target) (pair r t) = λ k. takes_may first r k && takes_may target t k

paired : (first : Ref) (i : Id) → matches (pairs_of first) i ≡ is_pair_of first i
paired first (plain c) = refl
paired first (pair r t) = and_true (takes (part_of first) r) ∙ takes_may first r

-- ---- what terms ask for

up_asked : (up : Option ℕ) (i : Id) → any_asked (up_asks up) i ≡ leads_up up i
up_asked None i = refl
up_asked (Some r) i = or_false (matches (pairs_of (Is r)) i) ∙ paired (Is r) i

closed_asked : (b : Bool) (first : Ref) (i : Id) → any_asked (if b then pairs_of first ∷ [] else []) i ≡ (b && is_pair_of first i)
closed_asked true first i = or_false (matches (pairs_of first) i) ∙ paired first i
closed_asked false first i = refl

term_asked : (t : Term) (i : Id) → any_asked (asks_by t) i ≡ term_concerns i t
term_asked t i =
    let follows = list_any-append (λ p. matches p i) (up_asks t.up) (if t.closed then pairs_of t.component ∷ [] else []) ∙ (λ k. up_asked t.up i k || closed_asked t.closed t.component i k) in
    (λ k. matched t.component t.target i k || follows k) ∙ sym (or_assoc (may_match t.component t.target i) (leads_up t.up i) (t.closed && is_pair_of t.component i))

asked_if : (b : Bool) (t : Term) (i : Id) → any_asked (if b then asks_by t else []) i ≡ (b && term_concerns i t)
asked_if true t i = term_asked t i
asked_if false t i = refl

pub all_asked : (v : ℕ) (ts : List Term) (i : Id) → any_asked (flat_map (asks_of v) ts) i ≡ asks_for ts v i
all_asked v [] i = refl
all_asked v (t ∷ ts) i =
    list_any-append (λ p. matches p i) (asks_of v t) (flat_map (asks_of v) ts)
    ∙ (λ k. asked_if (is_variable v t.source) t i k || all_asked v ts i k)

-- ---- what is needed

module _ (v : ℕ) (ids : List Id) where
  item_needed : (b : Bool) (t : Term) → have_all (if b then asked_by t.component t.target ∷ [] else []) ids ≡ not (b && not (list_any (may_match t.component t.target) ids))
  item_needed true t = and_true (list_any (matches (asked_by t.component t.target)) ids) ∙ (λ k. list_any (λ i. matched t.component t.target i k) ids) ∙ not_not (list_any (may_match t.component t.target) ids)
  item_needed false t = refl

  item_told : (x : Item) → have_all (item_needs v x) ids ≡ not (item_lacks_of ids v x)
  item_told (must t) = item_needed (asks_itself v t) t
  item_told (may t) = refl
  item_told (either ts) = refl
  item_told (equal u r) = refl
  item_told (differ u r) = refl

  abbrev lacks_from : Bool → ℕ → List Piece → Bool
  lacks_from whole depth ps = passes_from (item_lacks_of ids v) whole depth ps

  behind_item : (x : Item) (rest : List Pattern) (b : Bool) → have_all rest ids ≡ not b → have_all (item_needs v x ++ rest) ids ≡ not (if item_lacks_of ids v x then true else b)
  behind_item x rest b h =
      list_all-append (λ p. list_any (matches p) ids) (item_needs v x) rest
      ∙ (λ k. item_told x k && h k)
      ∙ neither (item_lacks_of ids v x) b

  one_piece : (here whole : Bool) (p : Piece) (rest : List Pattern) (b : Bool) → have_all rest ids ≡ not b
      → have_all (if here && not whole && is_end p then [] else (if here then piece_needs v p else []) ++ rest) ids
      ≡ not (if here && piece_passes (item_lacks_of ids v) p then true else if here && not whole && is_end p then false else b)
  one_piece false whole p rest b h = h
  one_piece true true (item x) rest b h = behind_item x rest b h
  one_piece true false (item x) rest b h = behind_item x rest b h
  one_piece true true (opening from_term own) rest b h = h
  one_piece true false (opening from_term own) rest b h = h
  one_piece true true closing rest b h = h
  one_piece true false closing rest b h = refl

  pub all_needed : (whole : Bool) (depth : ℕ) (ps : List Piece) → have_all (needs_from v whole depth ps) ids ≡ not (lacks_from whole depth ps)
  all_needed whole depth [] = refl
  all_needed whole depth (p ∷ ps) = one_piece (depth == 0) whole p (needs_from v whole (depth_behind depth p) ps) (lacks_from whole (depth_behind depth p) ps) (all_needed whole (depth_behind depth p) ps)

-- ---- variables

module _ {A : Type 0} (only : ℕ → Bool) (ts : List Term) (whole : Bool) (ps : List Piece) (ids : List Id) (i : Id) (v : ℕ) (all : List (AskedOf A)) where
  -- `$this` isn't judged
  pub this_idle : v ≡ 0 → any_counts_as only all ids i ≡ (any_counts_as only all ids i || not (is_idle_from only ts whole ps ids i v))
  this_idle first =
      let before = any_counts_as only all ids i in
      sym (or_false before)
      ∙ ap (λ b. before || not b) (sym (or_true (not (only v))))
      ∙ ap (λ b. before || not (not (only v) || ((b || not (asks_for ts v i)) || passes_from (item_lacks_of ids v) whole 0 ps))) (sym zero_is)
    where
      zero_is : (v == 0) ≡ true
      zero_is = grind (arith, nat_tests, first)

  -- nor one whose entity isn't asked for anything
  pub unasked_idle : flat_map (asks_of v) ts ≡ [] → any_counts_as only all ids i ≡ (any_counts_as only all ids i || not (is_idle_from only ts whole ps ids i v))
  unasked_idle none =
      let asks : asks_for ts v i ≡ false = sym (all_asked v ts i) ∙ ap (λ xs. any_asked xs i) none in
      let before = any_counts_as only all ids i in
      sym (or_false before)
      ∙ ap (λ b. before || not b) (sym (or_true (not (only v))))
      ∙ ap (λ b. before || not (not (only v) || (b || passes_from (item_lacks_of ids v) whole 0 ps))) (sym (ap (λ b. (v == 0) || not b) asks ∙ or_true (v == 0)))

  pub another_judged : (a : AskedOf A) (after : List (AskedOf A)) → a.variable ≡ v → (v == 0) ≡ false → a.asks.items ≡ flat_map (asks_of v) ts → a.needs.items ≡ needs_from v whole 0 ps → after ≡ all ++ a ∷ []
      → any_counts_as only after ids i ≡ (any_counts_as only all ids i || not (is_idle_from only ts whole ps ids i v))
  another_judged a after is other asks needs behind =
      let asked = ap (λ xs. any_asked xs i) asks ∙ all_asked v ts i in
      let held = ap (λ xs. have_all xs ids) needs ∙ all_needed v ids whole 0 ps in
      let idle = (v == 0 || not (asks_for ts v i)) || passes_from (item_lacks_of ids v) whole 0 ps in
      let busy : (asks_for ts v i && not (passes_from (item_lacks_of ids v) whole 0 ps)) ≡ not idle =
      asked_and_held (asks_for ts v i) (passes_from (item_lacks_of ids v) whole 0 ps) ∙ ap (λ b. not ((b || not (asks_for ts v i)) || passes_from (item_lacks_of ids v) whole 0 ps)) (sym other) in
      let told : counts_as only ids i a ≡ not (is_idle_from only ts whole ps ids i v) =
      (λ k. only (is k) && (asked k && held k)) ∙ ap (λ b. only v && b) busy ∙ asked_and_held (only v) idle in
      ap (λ xs. any_counts_as only xs ids i) behind
      ∙ list_any-append (counts_as only ids i) all (a ∷ [])
      ∙ ap (λ b. any_counts_as only all ids i || b) (or_false (counts_as only ids i a) ∙ told)

-- ---- the whole query

-- with the groups that are left, where the visible variables are judged
pub visible_judged : (only : ℕ → Bool) (q : Query) (ts : List Term) (ps : List Piece) (n : ℕ) (ids : List Id) (i : Id) (judged : Bool) → ts ≡ terms q → ps ≡ q.pieces → n ≡ length q.variables
    → judged ≡ list_any (λ v. not (is_idle_from only ts true ps ids i v)) (range_with_len 0 n)
    → (judged || not (groups_idle only ts ids i ps)) ≡ not (are_all_bound (λ v l. not (only v) || is_idle_for ids i (terms q) v l) q)
visible_judged only q ts ps n ids i judged asked pieces count are =
    let all = range_with_len 0 n in
    let p = is_idle_from only ts true ps ids i in
    ap (λ b. b || not (groups_idle only ts ids i ps)) (are ∙ not_all p all)
    ∙ not_both (list_all p all) (groups_idle only ts ids i ps)
    ∙ ap not (idle_left only q ts ps n ids i asked pieces count)

-- and where the own variables of one more group are
pub group_judged : (before own left : Bool) → ((before || not own) || not left) ≡ (before || not (own && left))
group_judged before own left = or_assoc before (not own) (not left) ∙ ap (λ b. before || b) (not_both own left)

-- one more number
pub counted_more : (p : ℕ → Bool) (n k : ℕ) → k < n → list_any p (take (k + 1) (range_with_len 0 n)) ≡ (list_any p (take k (range_with_len 0 n)) || p k)
counted_more p n k low =
    let itself : 0 + k ≡ k = omega arith in
    list_any_more p (range_with_len 0 n) k 0 (omega (arith, length-range_with_len 0 n))
    ∙ ap (λ x. list_any p (take k (range_with_len 0 n)) || p x) (get_or-range_with_len 0 n k 0 low ∙ itself)

-- and all
pub counted_all : (p : ℕ → Bool) (n k : ℕ) → n ≤ k → list_any p (take k (range_with_len 0 n)) ≡ list_any p (range_with_len 0 n)
counted_all p n k high = ap (list_any p) (take_all k (range_with_len 0 n) (omega (arith, length-range_with_len 0 n)))

-- ---- for whom an id concerns a query

any_in_map : {X Y : Type 0} (p : Y → Bool) (f : X → Y) (xs : List X) → list_any p (map f xs) ≡ list_any (λ x. p (f x)) xs
any_in_map p f [] = refl
any_in_map p f (x ∷ xs) = ap (λ b. p (f x) || b) (any_in_map p f xs)

any_and : {X : Type 0} (b : Bool) (p : X → Bool) (xs : List X) → list_any (λ x. b && p x) xs ≡ (b && list_any p xs)
any_and true p xs = refl
any_and false p [] = refl
any_and false p (x ∷ xs) = any_and false p xs

any_in_terms : (p : AskedTerm → Bool) (q : Term → Bool) → ((t : Term) → list_any p (asked_terms t) ≡ q t) → (ts : List Term) → list_any p (flat_map asked_terms ts) ≡ list_any q ts
any_in_terms p q same [] = refl
any_in_terms p q same (t ∷ ts) = list_any-append p (asked_terms t) (flat_map asked_terms ts) ∙ (λ k. same t k || any_in_terms p q same ts k)

module _ (i : Id) where
  for_anyone : (t : Term) → list_any (λ a. matches a.asked i) (asked_terms t) ≡ term_concerns i t
  for_anyone t = any_in_map (λ a. matches a.asked i) (asked_term t) (asks_by t) ∙ term_asked t i

  for_others : (t : Term) → list_any (λ a. not a.this && matches a.asked i) (asked_terms t) ≡ term_concerns_others i t
  for_others t =
      any_in_map (λ a. not a.this && matches a.asked i) (asked_term t) (asks_by t)
      ∙ any_and (not (asks_this_stored t)) (λ p. matches p i) (asks_by t)
      ∙ ap (λ b. not (asks_this_stored t) && b) (term_asked t i)

  for_those_below : (t : Term) → list_any (λ a. a.below && matches a.asked i) (asked_terms t) ≡ term_concerns_below i t
  for_those_below t =
      any_in_map (λ a. a.below && matches a.asked i) (asked_term t) (asks_by t)
      ∙ any_and (asks_this_stored t && is_some t.up) (λ p. matches p i) (asks_by t)
      ∙ ap (λ b. (asks_this_stored t && is_some t.up) && b) (term_asked t i)
      ∙ and_assoc (asks_this_stored t) (is_some t.up) (term_concerns i t)

  pub concern_told : (ts : List Term) → asked_concern i (flat_map asked_terms ts) ≡ terms_concern i ts
  concern_told ts = λ k. record {
    anyone = any_in_terms (λ a. matches a.asked i) (term_concerns i) for_anyone ts k;
    others = any_in_terms (λ a. not a.this && matches a.asked i) (term_concerns_others i) for_others ts k;
    below = any_in_terms (λ a. a.below && matches a.asked i) (term_concerns_below i) for_those_below ts k;
  }

  pub concern_is : (q : Query) → joined_concerns (record { anyone = is_asked_by_all i; others = says_how_far i; below = false }) (terms_concern i (terms q)) ≡ concern_of q i
  unfolding concerns concerns_others concerns_below
  concern_is q = refl

-- ---- what `$this` itself is asked

module _ (ids : List Id) where
  first_source : (r : Ref) → is_variable 0 r ≡ is_first r
  first_source (Is e) = refl
  first_source (Var v) = refl
  first_source Any = refl
  first_source AnyOnce = refl

  -- `$this` is asked itself by its source, and by what else is direct
  regroup : (a b c d rest : Bool) → ((a && b && c && d) && rest) ≡ ((a && (b && c && d)) && rest)
  regroup false b c d rest = refl
  regroup true false c d rest = refl
  regroup true true false d rest = refl
  regroup true true true d rest = refl

  first_lacks : (x : Item) → item_lacks_of ids 0 x ≡ item_lacks ids x
  first_lacks (must t) =
      let lacking = not (list_any (may_match t.component t.target) ids) in
      regroup (is_variable 0 t.source) t.on_source (is_none t.up) (not t.closed) lacking
      ∙ ap (λ b. (b && (t.on_source && is_none t.up && not t.closed)) && lacking) (first_source t.source)
  first_lacks (may t) = refl
  first_lacks (either ts) = refl
  first_lacks (equal v r) = refl
  first_lacks (differ v r) = refl

  neither_is : (a b : Bool) → (not a && not b) ≡ not (a || b)
  neither_is true b = refl
  neither_is false b = refl

  front_told : (ps : List Piece) → have_all (needs_in_front ps) ids ≡ not (lacks_before ids ps)
  front_told [] = refl
  front_told (item x ∷ ps) =
      list_all-append (λ p. list_any (matches p) ids) (item_needs 0 x) (needs_in_front ps)
      ∙ (λ k. (item_told 0 ids x ∙ ap not (first_lacks x)) k && front_told ps k)
      ∙ neither_is (item_lacks ids x) (lacks_before ids ps)
  front_told (opening from_term own ∷ ps) = refl
  front_told (closing ∷ ps) = refl

  pub lacks_told : (q : Query) → not (have_all (needs_in_front q.pieces) ids) ≡ lacks q ids
  unfolding lacks
  lacks_told q = ap not (front_told q.pieces) ∙ sym (not_not (lacks_before ids q.pieces))

  three_fail : (a b c d : Bool) → (a && b && c) ≡ false → (a && b && c && d) ≡ false
  three_fail true true true d h = absurd (true≢false h)
  three_fail true true false d h = refl
  three_fail true false c d h = refl
  three_fail false b c d h = refl

  last_fails : (a b c d : Bool) → d ≡ false → (a && b && c && d) ≡ false
  last_fails true true true d h = h
  last_fails true true false d h = refl
  last_fails true false c d h = refl
  last_fails false b c d h = refl

  unmet : (x : Item) → may_be_met x ≡ false → item_is_met ids x ≡ false
  unmet (must t) h = three_fail (asks_first t) (is_constant t.component) (is_constant_target t.target) (list_any (may_match t.component t.target) ids) h
  unmet (may t) h = absurd (true≢false h)
  unmet (either ts) h = absurd (true≢false h)
  unmet (equal v r) h = refl
  unmet (differ v r) h = refl

  one_fails : (a b : Bool) (x y : Bool) → (x ≡ false → a ≡ false) → (y ≡ false → b ≡ false) → (x && y) ≡ false → (a && b) ≡ false
  one_fails a b true y f g h = ap (λ c. a && c) (g h) ∙ and_false a
  one_fails a b false y f g h = ap (λ c. c && b) (f refl)

  front_unmet : (ps : List Piece) → may_meet ps ≡ false → meets_from ids false false ps ≡ false
  front_unmet [] h = absurd (true≢false h)
  front_unmet (item x ∷ ps) h = one_fails (item_is_met ids x) (meets_from ids false false ps) (may_be_met x) (may_meet ps) (unmet x) (front_unmet ps) h
  front_unmet (opening from_term own ∷ ps) h = absurd (true≢false h)
  front_unmet (closing ∷ ps) h = absurd (true≢false h)

  pub never_met : (q : Query) → may_meet q.pieces ≡ false → meets q ids ≡ false
  unfolding meets
  never_met q h = last_fails (not (length q.variables == 0)) (not (is_held ids (plain prefab))) (not (is_held ids (plain disabled))) (meets_from ids false false q.pieces) (front_unmet q.pieces h)
