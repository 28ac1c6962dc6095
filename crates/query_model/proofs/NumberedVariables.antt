-- The numbers of variables: each that occurs has one, those of the whole query come first, and a level's own are those of its variables.
use Rattle.std.specs.Prelude.{◌≡◌, ◌⊎◌, ℕ, suc, ◌+◌, ◌<◌, ◌==◌, Bool, true, false, not, ◌&&◌, ◌||◌, List, [], ◌∷◌, ◌++◌, map, filter, fold, length, bytes_eq, if◌then◌else◌}
use Rattle.std.specs.List.{list_any, list_all}
use Rattle.std.proofs.Common.{ap, sym, ◌∙◌, refl, subst, inl, inr, arith, eq-eqb}
use Rattle.std.proofs.lemmas.Bool.{eqb-true}
use Rattle.std.proofs.lemmas.List.{append-nil, append_assoc}
use Rattle.std.proofs.lemmas.List.Folds.{list_any-append}
use Rattle.std.proofs.lemmas.Slice.Eq.{bytes_eq-Decides}
pub use Rattle.std.proofs.lemmas.Bool.{and_from as both, or_left as left_true, or_right as right_true}
use Rattle.query_model.specs.Numbers.{Variable, add_new, is_whole, number_from, numbers_from, same_variable, variables_among}
use Rattle.query_model.specs.Scope.{this}
use Rattle.query_model.specs.Query.{visible_names}
use Rattle.query_model.specs.Scopes.{contains}

pub first_of : (a b : Bool) → (a && b) ≡ true → a ≡ true
first_of true b e = refl
first_of false b e = e

pub second_of : (a b : Bool) → (a && b) ≡ true → b ≡ true
second_of true b e = e
second_of false b e = absurd (cc)

pub split : (a b : Bool) → (a || b) ≡ true → (a ≡ true) ⊎ (b ≡ true)
split true b e = inl refl
split false b e = inr e

other_true : (a b : Bool) → a ≡ false → (a || b) ≡ true → b ≡ true
other_true true b f e = absurd (cc)
other_true false b f e = e

not_true : (a : Bool) → not a ≡ true → a ≡ true → ⊥
not_true true e f = cc
not_true false e f = cc

-- two that are the same
same_name : (v u : Variable) → same_variable v u ≡ true → v.0 ≡ u.0
same_name v u e = (bytes_eq-Decides v.0 u.0).0 (first_of (bytes_eq v.0 u.0) (v.1 == u.1) e)

same_level : (v u : Variable) → same_variable v u ≡ true → v.1 ≡ u.1
same_level v u e = eqb-true v.1 u.1 (second_of (bytes_eq v.0 u.0) (v.1 == u.1) e)

pub one_variable : (v u : Variable) → same_variable v u ≡ true → v ≡ u
one_variable v u e = ap (λ n. (n, v.1)) (same_name v u e) ∙ ap (λ l. (u.0, l)) (same_level v u e)

pub same_itself : (v : Variable) → same_variable v v ≡ true
same_itself v = both (bytes_eq v.0 v.0) (v.1 == v.1) ((bytes_eq-Decides v.0 v.0).1 refl) (eq-eqb v.1 v.1 refl)

abbrev pub is_among : List Variable → Variable → Bool
is_among vs v = list_any (same_variable v) vs

-- variables that are added stay, and those that were there too
kept : (xs base : List Variable) (v : Variable) → is_among base v ≡ true → is_among (fold add_new base xs) v ≡ true
kept [] base v e = e
kept (x ∷ xs) base v e = kept_one (λ now k. kept xs now v k) (is_among base x)
  where
    kept_one : ((now : List Variable) → is_among now v ≡ true → is_among (fold add_new now xs) v ≡ true) → (b : Bool) → is_among (fold add_new (if b then base else base ++ x ∷ []) xs) v ≡ true
    kept_one next true = next base e
    kept_one next false = next (base ++ x ∷ []) (list_any-append (same_variable v) base (x ∷ []) ∙ left_true (is_among base v) _ e)

new_among : (base : List Variable) (x : Variable) (b : Bool) → b ≡ is_among base x → is_among (if b then base else base ++ x ∷ []) x ≡ true
new_among base x true e = sym e
new_among base x false e = list_any-append (same_variable x) base (x ∷ []) ∙ right_true (is_among base x) _ (left_true (same_variable x x) false (same_itself x))

added : (xs base : List Variable) (v : Variable) → is_among xs v ≡ true → is_among (fold add_new base xs) v ≡ true
added [] base v e = absurd (let x : false ≡ true = e in cc)
added (x ∷ xs) base v e =
    elim (split (same_variable v x) (is_among xs v) e) [
      | inl s ↦ kept xs (add_new base x) v (subst (λ (u : Variable). is_among (add_new base x) u ≡ true) (sym (one_variable v x s)) (new_among base x (is_among base x) refl))
      | inr r ↦ added xs (add_new base x) v r
    ]

-- a variable of a kind is among those of the kind
filtered : (kind : Bool) (v : Variable) (xs : List Variable) → is_whole kind v ≡ true → is_among xs v ≡ true → is_among (filter (is_whole kind) xs) v ≡ true
filtered kind v [] w e = absurd (let x : false ≡ true = e in cc)
filtered kind v (x ∷ xs) w e =
    elim (split (same_variable v x) (is_among xs v) e) [
      | inl s ↦ here (is_whole kind x) (ap (is_whole kind) (sym (one_variable v x s)) ∙ w) s
      | inr r ↦ there (is_whole kind x) (filtered kind v xs w r)
    ]
  where
    here : (b : Bool) → b ≡ true → same_variable v x ≡ true → is_among (if b then x ∷ filter (is_whole kind) xs else filter (is_whole kind) xs) v ≡ true
    here true t s = left_true (same_variable v x) _ s
    here false t s = absurd (cc)

    there : (b : Bool) → is_among (filter (is_whole kind) xs) v ≡ true → is_among (if b then x ∷ filter (is_whole kind) xs else filter (is_whole kind) xs) v ≡ true
    there true r = right_true (same_variable v x) _ r
    there false r = r

of_a_kind : (v : Variable) → (is_whole true v ≡ true) ⊎ (is_whole false v ≡ true)
of_a_kind v = by (v.1 == 0)
  where
    by : (b : Bool) → (b ≡ true) ⊎ (not b ≡ true)
    by true = inl refl
    by false = inr refl

-- each variable of a list has a number
numbered_among : (has : Bool) (xs : List Variable) (v : Variable) → is_among xs v ≡ true → is_among (variables_among has xs) v ≡ true
numbered_among has xs v e =
    let base : List Variable = if has then (this, 0) ∷ [] else [] in
    let wholes = fold add_new base (filter (is_whole true) xs) in
    elim (of_a_kind v) [
      | inl w ↦ kept (filter (is_whole false) xs) wholes v (added (filter (is_whole true) xs) base v (filtered true v xs w e))
      | inr w ↦ added (filter (is_whole false) xs) wholes v (filtered false v xs w e)
    ]

all_of : (test : Variable → Bool) (xs : List Variable) → ((v : Variable) → is_among xs v ≡ true → test v ≡ true) → list_all test xs ≡ true
all_of test [] h = refl
all_of test (x ∷ xs) h = both (test x) _ (h x (left_true (same_variable x x) _ (same_itself x))) (all_of test xs (λ v e. h v (right_true (same_variable v x) _ e)))

pub all_numbered : (has : Bool) (xs : List Variable) → list_all (is_among (variables_among has xs)) xs ≡ true
all_numbered has xs = all_of (is_among (variables_among has xs)) xs (numbered_among has xs)

-- what is added passes a test that all pass which may be
record Adds (test : Variable → Bool) (base now : List Variable) : Type 0 where
  more : List Variable
  is : now ≡ base ++ more
  pass : list_all test more ≡ true

adds : (test : Variable → Bool) (xs base : List Variable) → list_all test xs ≡ true → Adds test base (fold add_new base xs)
adds test [] base h = record { more = []; is = sym (append-nil base); pass = refl }
adds test (x ∷ xs) base h = adds_one (λ b. adds test xs b (second_of (test x) _ h)) (is_among base x)
  where
    adds_one : ((b : List Variable) → Adds test b (fold add_new b xs)) → (b : Bool) → Adds test base (fold add_new (if b then base else base ++ x ∷ []) xs)
    adds_one next true = next base
    adds_one next false =
        let a = next (base ++ x ∷ []) in
        record { more = x ∷ a.more; is = a.is ∙ append_assoc base (x ∷ []) a.more; pass = both (test x) _ (first_of (test x) _ h) a.pass }

all_filtered : (kind : Bool) (xs : List Variable) → list_all (is_whole kind) (filter (is_whole kind) xs) ≡ true
all_filtered kind [] = refl
all_filtered kind (x ∷ xs) = by (all_filtered kind xs) (is_whole kind x) refl
  where
    by : list_all (is_whole kind) (filter (is_whole kind) xs) ≡ true → (b : Bool) → is_whole kind x ≡ b → list_all (is_whole kind) (if b then x ∷ filter (is_whole kind) xs else filter (is_whole kind) xs) ≡ true
    by rest true e = both (is_whole kind x) _ e rest
    by rest false e = rest

all_appended : (test : Variable → Bool) (xs ys : List Variable) → list_all test xs ≡ true → list_all test ys ≡ true → list_all test (xs ++ ys) ≡ true
all_appended test [] ys e f = f
all_appended test (x ∷ xs) ys e f = both (test x) _ (first_of (test x) _ e) (all_appended test xs ys (second_of (test x) _ e) f)

-- variables by number: those of the whole query, and then those of groups
pub record Parted (vs : List Variable) : Type 0 where
  pub wholes : List Variable
  pub inner : List Variable
  pub is : vs ≡ wholes ++ inner
  pub all_whole : list_all (is_whole true) wholes ≡ true
  pub all_inner : list_all (is_whole false) inner ≡ true

base_whole : (has : Bool) → list_all (is_whole true) (if has then (this, 0) ∷ [] else []) ≡ true
base_whole true = refl
base_whole false = refl

pub parted : (has : Bool) (xs : List Variable) → Parted (variables_among has xs)
parted has xs =
    let base : List Variable = if has then (this, 0) ∷ [] else [] in
    let w = adds (is_whole true) (filter (is_whole true) xs) base (all_filtered true xs) in
    let g = adds (is_whole false) (filter (is_whole false) xs) (fold add_new base (filter (is_whole true) xs)) (all_filtered false xs) in
    record {
      wholes = base ++ w.more;
      inner = g.more;
      is = g.is ∙ ap (λ l. l ++ g.more) w.is;
      all_whole = all_appended (is_whole true) base w.more (base_whole has) w.pass;
      all_inner = g.pass;
    }

-- the visible ones are those of the whole query
none_visible : (gs : List Variable) → list_all (is_whole false) gs ≡ true → visible_names gs ≡ []
none_visible [] e = refl
none_visible (g ∷ gs) e = by (none_visible gs (second_of (is_whole false g) _ e)) (g.1 == 0) (first_of (is_whole false g) _ e)
  where
    by : visible_names gs ≡ [] → (b : Bool) → not b ≡ true → map (λ (v : Variable). v.0) (if b then g ∷ filter (λ (v : Variable). v.1 == 0) gs else filter (λ (v : Variable). v.1 == 0) gs) ≡ []
    by rest true n = absurd (cc)
    by rest false n = rest

pub count_visible : (ws gs : List Variable) → list_all (is_whole true) ws ≡ true → list_all (is_whole false) gs ≡ true → length (visible_names (ws ++ gs)) ≡ length ws
count_visible [] gs e f = ap length (none_visible gs f)
count_visible (w ∷ ws) gs e f = by (count_visible ws gs (second_of (is_whole true w) _ e) f) (w.1 == 0) (first_of (is_whole true w) _ e)
  where
    by : length (visible_names (ws ++ gs)) ≡ length ws → (b : Bool) → b ≡ true → length (map (λ (v : Variable). v.0) (if b then w ∷ filter (λ (v : Variable). v.1 == 0) (ws ++ gs) else filter (λ (v : Variable). v.1 == 0) (ws ++ gs))) ≡ suc (length ws)
    by rest true n = ap suc rest
    by rest false n = absurd (cc)

none_of : (v : Variable) (gs : List Variable) → v.1 ≡ 0 → list_all (is_whole false) gs ≡ true → is_among gs v ≡ true → ⊥
none_of v [] z e f = cc
none_of v (g ∷ gs) z e f =
    elim (split (same_variable v g) (is_among gs v) f) [
      | inl s ↦ not_true (g.1 == 0) (first_of (is_whole false g) _ e) (eq-eqb g.1 0 (sym (same_level v g s) ∙ z))
      | inr r ↦ none_of v gs z (second_of (is_whole false g) _ e) r
    ]

-- those of the whole query have the first numbers
first_numbers : (n : ℕ) (v : Variable) (ws gs : List Variable) → v.1 ≡ 0 → list_all (is_whole false) gs ≡ true → is_among (ws ++ gs) v ≡ true → number_from n v (ws ++ gs) < n + length ws
first_numbers n v [] gs z e f = absurd (none_of v gs z e f)
first_numbers n v (w ∷ ws) gs z e f = by (λ s. first_numbers (n + 1) v ws gs z e (other_true (same_variable v w) _ s f)) (same_variable v w) refl
  where
    by : (same_variable v w ≡ false → number_from (n + 1) v (ws ++ gs) < n + 1 + length ws) → (b : Bool) → same_variable v w ≡ b → (if b then n else number_from (n + 1) v (ws ++ gs)) < n + suc (length ws)
    by next true s = omega arith
    by next false s = let l = next s in omega arith

pub is_visible : (vs : List Variable) (v : Variable) → Parted vs → v.1 ≡ 0 → is_among vs v ≡ true → number_from 0 v vs < length (visible_names vs)
is_visible vs v p z e =
    let l = first_numbers 0 v p.wholes p.inner z p.all_inner (sym (ap (λ us. is_among us v) p.is) ∙ e) in
    let same : number_from 0 v vs ≡ number_from 0 v (p.wholes ++ p.inner) = ap (number_from 0 v) p.is in
    let count : length (visible_names vs) ≡ length p.wholes = ap (λ us. length (visible_names us)) p.is ∙ count_visible p.wholes p.inner p.all_whole p.all_inner in
    omega arith

-- where `$this` occurs, it is visible
pub this_is_visible : (has : Bool) (xs : List Variable) → has ≡ true → 0 < length (visible_names (variables_among has xs))
this_is_visible true xs e =
    let w = adds (is_whole true) (filter (is_whole true) xs) ((this, 0) ∷ []) (all_filtered true xs) in
    let g = adds (is_whole false) (filter (is_whole false) xs) (fold add_new ((this, 0) ∷ []) (filter (is_whole true) xs)) (all_filtered false xs) in
    let is : variables_among true xs ≡ ((this, 0) ∷ []) ++ w.more ++ g.more = g.is ∙ ap (λ l. l ++ g.more) w.is in
    let count : length (visible_names (variables_among true xs)) ≡ suc (length w.more) = ap (λ us. length (visible_names us)) is ∙ count_visible ((this, 0) ∷ w.more) g.more w.pass g.pass in
    omega arith
this_is_visible false xs e = absurd (cc)

-- a variable's number is one of its level's own
own_step : (n r : ℕ) (rest : List ℕ) (same level : Bool) → (same ≡ true → level ≡ true) → (same ≡ false → contains rest r ≡ true) → contains (if level then n ∷ rest else rest) (if same then n else r) ≡ true
own_step n r rest true true h k = left_true (n == n) _ (eq-eqb n n refl)
own_step n r rest true false h k = absurd (let x = h refl in cc)
own_step n r rest false true h k = right_true (n == r) _ (k refl)
own_step n r rest false false h k = k refl

pub is_own : (n : ℕ) (v : Variable) (us : List Variable) → is_among us v ≡ true → contains (numbers_from n v.1 us) (number_from n v us) ≡ true
is_own n v [] e = absurd (let x : false ≡ true = e in cc)
is_own n v (u ∷ us) e =
    own_step n (number_from (n + 1) v us) (numbers_from (n + 1) v.1 us) (same_variable v u) (u.1 == v.1) (λ s. eq-eqb u.1 v.1 (sym (same_level v u s)))
    (λ s. is_own (n + 1) v us (other_true (same_variable v u) _ s e))
