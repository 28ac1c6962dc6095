-- What a stored query more or less does to the counts of those whom stored queries mention.
use Rattle.std.specs.Prelude.{◌≡◌, ℕ, ◌+◌, ◌-◌, ◌<◌, ◌≤◌, ◌==◌, Bool, true, false, ◌||◌, List, [], ◌∷◌, All, count_by, fold, cond, if◌then◌else◌}
use Rattle.std.specs.List.{list_any, list_all}
use Rattle.std.proofs.Common.{refl, sym, ap, ◌∙◌, arith, true≢false}
use Rattle.std.proofs.lemmas.Bool.Decides.{nat_tests}
use Rattle.std.proofs.lemmas.List.Elements.{All-cons, All-nil, All-head, All-tail}
use Rattle.ecs_id.specs.declared.EntityId.{EntityId}
use Rattle.ecs_model.specs.Map.{count_at}
use Rattle.ecs_model.specs.Query.{known_of}
use Rattle.ecs_model.specs.World.{WorldState, is_alive}
use Rattle.ecs_model.specs.rows.View.{view_of}
use Rattle.ecs_model.specs.stored.Session.{pinned_by, unpinned_by}
use Rattle.ecs_model.specs.steps.Pins.{most_pins, one_less, one_more, unpin, with_pins}
use Rattle.ecs_model.proofs.Maps.{both_true}
use Rattle.ecs_model.proofs.Members.{eq_same}
use Rattle.ecs_model.proofs.Reasons.{neither}
use Rattle.ecs_model.proofs.steps.LivingIds.{refuted}
use Rattle.ecs_model.proofs.steps.PinCounts.{count-with_count}
use Rattle.query_model.specs.declared.query.Mention.{Mention}
use Rattle.query_model.specs.Query.{Query, is_as_checked, is_current}
use Rattle.query_meaning.specs.Standing.{IsCurrentIn}
use Rattle.query_meaning.proofs.MentionedEntities.{from_checked}
use Rattle.watch_concerns.specs.Mentions.{mentions_index, times_in}
use Rattle.watch_concerns.proofs.DistinctMentions.{count_by-cons}

-- ---- mentions

turned : (x y : ℕ) → (x == y) ≡ (y == x)
turned x y = grind (arith, nat_tests)

-- who passes is counted
some_counted : {A : Type 0} (p : A → Bool) (xs : List A) → list_any p xs ≡ true → 1 ≤ count_by p xs
some_counted p [] h = absurd (true≢false (sym h))
some_counted p (x ∷ xs) h = by (p x) refl h (some_counted p xs)
  where
    by : (b : Bool) → p x ≡ b → (b || list_any p xs) ≡ true → (list_any p xs ≡ true → 1 ≤ count_by p xs) → 1 ≤ count_by p (x ∷ xs)
    by true e h rest = omega (arith, count_by-cons p x xs, ap (λ b. cond b 1 0 + count_by p xs) e)
    by false e h rest = omega (arith, count_by-cons p x xs, rest h)

-- the entity at an index that the first mentions is mentioned by none after it, and an index that is mentioned once in all, no more than once after the first
module _ (i : ℕ) (m : Mention) (ms : List Mention) (once : times_in i (m ∷ ms) ≤ 1) where
  rest_once : times_in i ms ≤ 1
  rest_once = omega (arith, once, count_by-cons (λ (x : Mention). (x.entity).index == i) m ms)

  rest_not : ((m.entity).index == i) ≡ true → mentions_index ms i ≡ false
  rest_not e =
      let all = count_by-cons (λ (x : Mention). (x.entity).index == i) m ms ∙ ap (λ b. cond b 1 0 + times_in i ms) e in
      refuted (mentions_index ms i) (λ h. omega (arith, once, all, some_counted (λ (x : Mention). (x.entity).index == i) ms h))

-- ---- counts, where each is changed once

module _ (change : ℕ → ℕ) where
  -- each of those mentioned has its count changed, in turn
  abbrev pub changed_by : WorldState → List Mention → WorldState
  changed_by w ms = fold (λ v m. with_pins v change (m.entity).index) w ms

  not_changed : (ms : List Mention) (w : WorldState) (i : ℕ) → mentions_index ms i ≡ false → count_at (changed_by w ms).pins i ≡ count_at w.pins i
  not_changed [] w i h = refl
  not_changed (m ∷ ms) w i h =
      let none = neither ((m.entity).index == i) (mentions_index ms i) h in
      let n = change (count_at w.pins (m.entity).index) in
      not_changed ms (with_pins w change (m.entity).index) i none.1
      ∙ (count-with_count w.pins (m.entity).index n i ∙ ap (λ b. cond b n (count_at w.pins i)) (turned i (m.entity).index ∙ none.0))

  -- a count is changed once where its entity is mentioned, and stays as it was elsewhere
  changed_once : (ms : List Mention) (w : WorldState) (i : ℕ) → times_in i ms ≤ 1
      → count_at (changed_by w ms).pins i ≡ cond (mentions_index ms i) (change (count_at w.pins i)) (count_at w.pins i)
  changed_once [] w i once = refl
  changed_once (m ∷ ms) w i once = by ((m.entity).index == i) refl (changed_once ms (with_pins w change (m.entity).index) i (rest_once i m ms once))
    where
      j : ℕ
      j = (m.entity).index

      v : WorldState
      v = with_pins w change j

      here : (b : Bool) → (j == i) ≡ b → count_at v.pins i ≡ cond b (change (count_at w.pins j)) (count_at w.pins i)
      here b e = count-with_count w.pins j (change (count_at w.pins j)) i ∙ ap (λ b. cond b (change (count_at w.pins j)) (count_at w.pins i)) (turned i j ∙ e)

      by : (b : Bool) → (j == i) ≡ b
          → count_at (changed_by v ms).pins i ≡ cond (mentions_index ms i) (change (count_at v.pins i)) (count_at v.pins i)
          → count_at (changed_by v ms).pins i ≡ cond (b || mentions_index ms i) (change (count_at w.pins i)) (count_at w.pins i)
      by true e rest = not_changed ms v i (rest_not i m ms once e) ∙ (here true e ∙ ap (λ x. change (count_at w.pins x)) (eq_same j i e))
      by false e rest = rest ∙ ap (λ n. cond (mentions_index ms i) (change n) n) (here false e)

  -- and nothing but counts is changed
  changed_alone : (ms : List Mention) (w : WorldState) → changed_by w ms ≡ record w { pins = (changed_by w ms).pins }
  changed_alone [] w = refl
  changed_alone (m ∷ ms) w = changed_alone ms (with_pins w change (m.entity).index)

-- ---- one more stored query

-- the count of an entity that is mentioned once is one more, unless it is the greatest, and others stay
pub pinned_once : (w : WorldState) (ms : List Mention) (i : ℕ) → times_in i ms ≤ 1
    → count_at (pinned_by w ms).pins i ≡ cond (mentions_index ms i) (one_more (count_at w.pins i)) (count_at w.pins i)
pinned_once w ms i once = changed_once one_more ms w i once

more_of : (n : ℕ) → n < most_pins → one_more n ≡ n + 1
more_of n l = by (n == most_pins) refl
  where
    by : (b : Bool) → (n == most_pins) ≡ b → cond b n (n + 1) ≡ n + 1
    by true e = absurd (omega (arith, l, eq_same n most_pins e))
    by false e = refl

-- below the greatest count each that is mentioned counts one more
pub pinned_counts : (w : WorldState) (ms : List Mention) (i : ℕ) → times_in i ms ≤ 1 → count_at w.pins i < most_pins
    → count_at (pinned_by w ms).pins i ≡ count_at w.pins i + (if mentions_index ms i then 1 else 0)
pinned_counts w ms i once small = pinned_once w ms i once ∙ by (mentions_index ms i)
  where
    by : (b : Bool) → cond b (one_more (count_at w.pins i)) (count_at w.pins i) ≡ count_at w.pins i + (if b then 1 else 0)
    by true = more_of (count_at w.pins i) small
    by false = omega arith

-- nothing else changes
pub pinned_alone : (w : WorldState) (ms : List Mention) → pinned_by w ms ≡ record w { pins = (pinned_by w ms).pins }
pinned_alone w ms = changed_alone one_more ms w

-- ---- one stored query less

-- one less of a live entity changes its count
pub unpin_alive : (w : WorldState) (e : EntityId) → is_alive w e ≡ true → unpin w e ≡ with_pins w one_less e.index
unfolding unpin
unpin_alive w e alive = ap (λ b. if b then with_pins w one_less e.index else w) alive

-- whom these mention lives
abbrev pub AreAlive : WorldState → List Mention → Type 0
AreAlive w ms = All (λ m. is_alive w m.entity ≡ true) ms

pub unpinned_alive : (ms : List Mention) (w : WorldState) → AreAlive w ms → unpinned_by w ms ≡ changed_by one_less w ms
unpinned_alive [] w alive = refl
unpinned_alive (m ∷ ms) w alive =
    ap (λ v. unpinned_by v ms) (unpin_alive w m.entity (All-head (λ x. is_alive w x.entity ≡ true) m ms alive))
    ∙ unpinned_alive ms (with_pins w one_less (m.entity).index) (All-tail (λ x. is_alive w x.entity ≡ true) m ms alive)

-- the count of an entity that is mentioned once is one less, unless it is the greatest, and others stay
pub unpinned_once : (w : WorldState) (ms : List Mention) (i : ℕ) → AreAlive w ms → times_in i ms ≤ 1
    → count_at (unpinned_by w ms).pins i ≡ cond (mentions_index ms i) (one_less (count_at w.pins i)) (count_at w.pins i)
unpinned_once w ms i alive once = ap (λ (v : WorldState). count_at v.pins i) (unpinned_alive ms w alive) ∙ changed_once one_less ms w i once

less_of : (n : ℕ) → 0 < n → n < most_pins → one_less n + 1 ≡ n
less_of n low l = by (n == most_pins) refl
  where
    by : (b : Bool) → (n == most_pins) ≡ b → cond b n (n - 1) + 1 ≡ n
    by true e = absurd (omega (arith, l, eq_same n most_pins e))
    by false e = omega (arith, low)

-- below the greatest count each that is mentioned, and counted, counts one less
pub unpinned_counts : (w : WorldState) (ms : List Mention) (i : ℕ) → AreAlive w ms → times_in i ms ≤ 1 → 0 < count_at w.pins i → count_at w.pins i < most_pins
    → count_at (unpinned_by w ms).pins i + (if mentions_index ms i then 1 else 0) ≡ count_at w.pins i
unpinned_counts w ms i alive once low small = ap (λ n. n + (if mentions_index ms i then 1 else 0)) (unpinned_once w ms i alive once) ∙ by (mentions_index ms i)
  where
    by : (b : Bool) → cond b (one_less (count_at w.pins i)) (count_at w.pins i) + (if b then 1 else 0) ≡ count_at w.pins i
    by true = less_of (count_at w.pins i) low small
    by false = omega arith

-- nothing else changes, whoever lives
unpin_alone : (w : WorldState) (e : EntityId) → unpin w e ≡ record w { pins = (unpin w e).pins }
unfolding unpin
unpin_alone w e = by (is_alive w e)
  where
    by : (b : Bool) → (if b then with_pins w one_less e.index else w) ≡ record w { pins = (if b then with_pins w one_less e.index else w).pins }
    by true = refl
    by false = refl

pub unpinned_alone : (w : WorldState) (ms : List Mention) → unpinned_by w ms ≡ record w { pins = (unpinned_by w ms).pins }
unpinned_alone w [] = refl
unpinned_alone w (m ∷ ms) =
    unpinned_alone (unpin w m.entity) ms
    ∙ ap (λ (v : WorldState). record v { pins = (unpinned_by (unpin w m.entity) ms).pins }) (unpin_alone w m.entity)

-- whom a current query mentions lives
pub current_alive : (w : WorldState) (q : Query) → IsCurrentIn w q → AreAlive w q.mentions
current_alive w q h = each q.mentions h.current
  where
    each : (ms : List Mention) → list_all (is_as_checked (known_of w)) ms ≡ true → AreAlive w ms
    each [] e = All-nil (λ m. is_alive w m.entity ≡ true)
    each (m ∷ ms) e =
        let parts = both_true (is_as_checked (known_of w) m) (list_all (is_as_checked (known_of w)) ms) e in
        All-cons (λ m. is_alive w m.entity ≡ true) m ms (from_checked (known_of w) m parts.0).0 (each ms parts.1)

-- ---- what a query asks stays

-- queries see the same
pub pinned_view : (w : WorldState) (ms : List Mention) → view_of (pinned_by w ms) ≡ view_of w
pinned_view w ms = ap view_of (pinned_alone w ms)

pub unpinned_view : (w : WorldState) (ms : List Mention) → view_of (unpinned_by w ms) ≡ view_of w
unpinned_view w ms = ap view_of (unpinned_alone w ms)

-- and a current query stays current
current_of : (w v : WorldState) (q : Query) → v ≡ record w { pins = v.pins } → IsCurrentIn w q → IsCurrentIn v q
current_of w v q alone h = record { asked = h.asked; current = ap (λ u. is_current (known_of u) q) alone ∙ h.current }

pub pinned_current : (w : WorldState) (ms : List Mention) (q : Query) → IsCurrentIn w q → IsCurrentIn (pinned_by w ms) q
pinned_current w ms q h = current_of w (pinned_by w ms) q (pinned_alone w ms) h

pub unpinned_current : (w : WorldState) (ms : List Mention) (q : Query) → IsCurrentIn w q → IsCurrentIn (unpinned_by w ms) q
unpinned_current w ms q h = current_of w (unpinned_by w ms) q (unpinned_alone w ms) h
