-- What a session has once a stored query less is held.
use Rattle.std.specs.Prelude.{◌≡◌, ◌≢◌, ℕ, suc, ◌+◌, ◌≤◌, cond, not, Bool, true, false, List, [], ◌∷◌, slice_index_or, All, AllPairs, filter, flat_map, map, bytes_eq, Option, None, Some, IfSome, if◌then◌else◌}
use Rattle.std.specs.List.{find}
use Rattle.std.specs.Map.{lookup, remove_entry}
use Rattle.std.specs.declared.string.String.{String}
use Rattle.std.specs.String.{string_bytes}
use Rattle.std.specs.Cmp.Lexicographic.{bytes_decides}
use Rattle.std.proofs.Common.{refl, sym, ap, subst, ◌∙◌, arith}
use Rattle.std.proofs.lemmas.List.Elements.{All-filter, All-head, All-tail}
use Rattle.std.proofs.lemmas.List.Kept.{AllPairs-filter}
use Rattle.std.proofs.lemmas.List.Sums.{count_by-le-length, length-filter}
use Rattle.ecs_model.specs.steps.Outcomes.{Changed}
use Rattle.ecs_model.specs.Map.{count_at}
use Rattle.ecs_model.specs.World.{WorldState}
use Rattle.ecs_model.specs.rows.View.{view_of}
use Rattle.ecs_model.specs.stored.Session.{unpinned_by, without_stored}
use Rattle.ecs_model.specs.steps.Pins.{one_less}
use Rattle.ecs_world.specs.Standing as world
use Rattle.query_cache.specs.Kept.{Kept}
use Rattle.query_model.specs.Query.{Query}
use Rattle.query_meaning.specs.Standing.{IsCurrentIn}
use Rattle.query_meaning.specs.declared.steps.Step.{Step}
use Rattle.watch_concerns.specs.Mentions.{mentions_index, times, times_in}
use Rattle.watch_concerns.specs.Since.{IsAfter}
use Rattle.watch_concerns.proofs.DistinctMentions.{count_by-cons, queries_mention_once}
use Rattle.watch_concerns.proofs.PinChanges.{current_alive, unpinned_counts, unpinned_current, unpinned_once, unpinned_view}
use Rattle.watch_stored.specs.declared.stored.StoredQuery.{StoredQuery}
use Rattle.ecs_observe.specs.Following.{lists_of}
use Rattle.ecs_observe.specs.Parts.{held_of}
use Rattle.watch_stored.specs.Held.{Held, IsHeld, IsNow, WasNow, told_to}
use Rattle.ecs_observe.specs.Standing.{IsSession, session_of, stored_of}
use Rattle.ecs_observe.proofs.NamedQueries.{holds_of_found, is_key, named, seen}
use Rattle.ecs_observe.proofs.NewQueries.{far_from_most, none_waits, queries, still_held, still_now}

abbrev its_list : Held → List ℕ × Option Kept × List Step × ℕ
its_list h = (h.name, h.list, h.steps, h.planned_at)

abbrev is_of_other : List ℕ → List ℕ × Option Kept × List Step × ℕ → Bool
is_of_other n p = not (bytes_eq n p.0)

-- no two have one name
abbrev pub AreApart : List Held → Type 0
AreApart hs = AllPairs (λ a b. a.name ≢ b.name) hs

pub rest_apart : (h : Held) (hs : List Held) → AreApart (h ∷ hs) → AreApart hs
rest_apart h hs apart = λ i j d l m. apart (suc i) (suc j) d (omega arith) (omega arith)

pub first_apart : (h : Held) (hs : List Held) → AreApart (h ∷ hs) → All (λ x. h.name ≢ x.name) hs
first_apart h hs apart = λ k d l. apart 0 (suc k) d (omega arith) (omega arith)

module _ (n : List ℕ) where
  is_other : Held → Bool
  is_other h = not (bytes_eq n h.name)

  -- those of other names
  abbrev pub others : List Held → List Held
  others hs = filter (λ h. not (bytes_eq n h.name)) hs

  pub differs : (m : List ℕ) → n ≢ m → bytes_eq n m ≡ false
  differs m unlike = by (bytes_eq n m) refl
    where
      by : (b : Bool) → bytes_eq n m ≡ b → b ≡ false
      by true e = absurd (unlike ((bytes_decides n m).0 e))
      by false e = refl

  all_others : (hs : List Held) → All (λ x. n ≢ x.name) hs → others hs ≡ hs
  all_others [] h = refl
  all_others (x ∷ hs) h =
      ap (λ b. cond (not b) (x ∷ others hs) (others hs)) (differs x.name (All-head (λ y. n ≢ y.name) x hs h))
      ∙ ap (λ ys. x ∷ ys) (all_others hs (All-tail (λ y. n ≢ y.name) x hs h))

  behind_found : (h : Held) (hs : List Held) → bytes_eq n h.name ≡ true → AreApart (h ∷ hs) → others hs ≡ hs
  behind_found h hs e apart = all_others hs (subst (λ m. All (λ x. m ≢ x.name) hs) (sym ((bytes_decides n h.name).0 e)) (first_apart h hs apart))

  -- the definition's list of those that are left
  pub left_stored : (hs : List Held) → filter (λ y. not (bytes_eq n y.name)) (map stored_of hs) ≡ map stored_of (others hs)
  left_stored [] = refl
  left_stored (h ∷ hs) = by (bytes_eq n h.name) (left_stored hs)
    where
      by : (b : Bool) → filter (λ y. not (bytes_eq n y.name)) (map stored_of hs) ≡ map stored_of (others hs)
          → cond (not b) (stored_of h ∷ filter (λ y. not (bytes_eq n y.name)) (map stored_of hs)) (filter (λ y. not (bytes_eq n y.name)) (map stored_of hs)) ≡ map stored_of (cond (not b) (h ∷ others hs) (others hs))
      by true rest = rest
      by false rest = ap (λ xs. stored_of h ∷ xs) rest

  -- the lists of those that are left
  pub left_lists : (hs : List Held) → map its_list (others hs) ≡ filter (is_of_other n) (map its_list hs)
  left_lists [] = refl
  left_lists (h ∷ hs) = by (bytes_eq n h.name) (left_lists hs)
    where
      by : (b : Bool) → map its_list (others hs) ≡ filter (is_of_other n) (map its_list hs)
          → map its_list (cond (not b) (h ∷ others hs) (others hs)) ≡ cond (not b) (its_list h ∷ filter (is_of_other n) (map its_list hs)) (filter (is_of_other n) (map its_list hs))
      by true rest = rest
      by false rest = ap (λ xs. its_list h ∷ xs) rest

  -- how many mention an index, of those that are left and the one that isn't
  module _ (i : ℕ) (x : Held) where
    abbrev one : Held → ℕ
    one h = cond (mentions_index (h.query).mentions i) 1 0

    times-cons : (h : Held) (hs : List Held) → times i (queries (h ∷ hs)) ≡ one h + times i (queries hs)
    times-cons h hs = count_by-cons (λ (q : Query). mentions_index q.mentions i) h.query (queries hs)

    pub times_left : (hs : List Held) → AreApart hs → find (λ h. bytes_eq n h.name) hs ≡ Some x → times i (queries hs) ≡ one x + times i (queries (others hs))
    times_left [] apart found = let no : None ≡ Some x = found in cc
    times_left (h ∷ hs) apart found = by (bytes_eq n h.name) refl found (times_left hs (rest_apart h hs apart))
      where
        by : (b : Bool) → bytes_eq n h.name ≡ b → cond b (Some h) (find (λ h. bytes_eq n h.name) hs) ≡ Some x
            → (find (λ h. bytes_eq n h.name) hs ≡ Some x → times i (queries hs) ≡ one x + times i (queries (others hs)))
            → times i (queries (h ∷ hs)) ≡ one x + times i (queries (cond (not b) (h ∷ others hs) (others hs)))
        by true e f rest =
            let same : Some h ≡ Some x = f in
            let is : h ≡ x = cc in
            times-cons h hs ∙ ap (λ y. one y + times i (queries hs)) is ∙ ap (λ ys. one x + times i (queries ys)) (sym (behind_found h hs e apart))
        by false e f rest = omega (arith, times-cons h hs, times-cons h (others hs), rest f)

module _ (w v : world.Standing) (hs : List Held) (x : Held) (waiting : Option Changed) (n : ℕ) (kept : IsSession (record { world = w; stored = hs; waiting = waiting; compared = n }))
    (found : find (λ h. bytes_eq x.name h.name) hs ≡ Some x) (held : IsHeld w.state x) (new : v.state ≡ unpinned_by w.state (x.query).mentions) where
  mentioned_once : (i : ℕ) → times_in i (x.query).mentions ≤ 1
  mentioned_once = queries_mention_once x.query (held.current).asked

  counted : (i : ℕ) → count_at (v.state).pins i ≡ times i (queries (others x.name hs))
  counted i = by (mentions_index (x.query).mentions i) refl
    where
      all : count_at (w.state).pins i ≡ cond (mentions_index (x.query).mentions i) 1 0 + times i (queries (others x.name hs))
      all = kept.pinned i ∙ times_left x.name i x hs kept.once found

      by : (b : Bool) → mentions_index (x.query).mentions i ≡ b → count_at (v.state).pins i ≡ times i (queries (others x.name hs))
      by true e =
          let here = all ∙ ap (λ b. cond b 1 0 + times i (queries (others x.name hs))) e in
          let less =
          unpinned_counts w.state (x.query).mentions i (current_alive w.state x.query held.current) (mentioned_once i) (omega (arith, here)) (omega (arith, far_from_most w hs waiting n kept i)) in
          let one = ap (λ b. count_at (unpinned_by w.state (x.query).mentions).pins i + (if b then 1 else 0)) (sym e) ∙ less in
          ap (λ (u : WorldState). count_at u.pins i) new ∙ omega (arith, one, here)
      by false e =
          ap (λ (u : WorldState). count_at u.pins i) new
          ∙ (unpinned_once w.state (x.query).mentions i (current_alive w.state x.query held.current) (mentioned_once i)
          ∙ (ap (λ b. cond b (one_less (count_at (w.state).pins i)) (count_at (w.state).pins i)) e
          ∙ (all ∙ (ap (λ b. cond b 1 0 + times i (queries (others x.name hs))) e ∙ omega arith))))

  current : (q : Query) → IsCurrentIn w.state q → IsCurrentIn v.state q
  current q k = subst (λ u. IsCurrentIn u q) (sym new) (unpinned_current w.state (x.query).mentions q k)

  same_view : view_of v.state ≡ view_of w.state
  same_view = ap view_of new ∙ unpinned_view w.state (x.query).mentions

  pub one_less_held : waiting ≡ None → IsSession (record { world = v; stored = others x.name hs; waiting = waiting; compared = n })
  one_less_held idle = record {
    held = All-filter (λ h. not (bytes_eq x.name h.name)) (IsHeld v.state) hs (λ k d l. still_held w.state v.state current same_view (slice_index_or hs k d) (kept.held k d l));
    pinned = counted;
    few = omega (arith, kept.few, length-filter (λ h. not (bytes_eq x.name h.name)) hs, count_by-le-length (λ h. not (bytes_eq x.name h.name)) hs);
    once = AllPairs-filter (λ a b. a.name ≢ b.name) (λ h. not (bytes_eq x.name h.name)) hs kept.once;
    now = λ _. All-filter (λ h. not (bytes_eq x.name h.name)) (IsNow v.state) hs (λ k d l. still_now w.state v.state current same_view (slice_index_or hs k d) (kept.now idle k d l));
    after = subst (λ o. IfSome o (IsAfter v.state)) (sym idle) tt;
    before = subst (λ o. IfSome o (λ changed. All (WasNow v.state changed) (others x.name hs))) (sym idle) tt;
  }

-- ---- in the map

module _ {A : Type 0} (n : List ℕ) where
  -- what the map has under the name is the first that has it
  pub first_named : (es : List (String A × StoredQuery A)) (s : StoredQuery A) → lookup (is_key n) es ≡ Some s → find (λ h. bytes_eq n h.name) (map held_of es) ≡ Some (named n s)
  first_named [] s h = let no : None ≡ Some s = h in cc
  first_named (e ∷ es) s h = by (is_key n e.0) refl h (first_named es s)
    where
      by : (b : Bool) → is_key n e.0 ≡ b → cond b (Some e.1) (lookup (is_key n) es) ≡ Some s
          → (lookup (is_key n) es ≡ Some s → find (λ h. bytes_eq n h.name) (map held_of es) ≡ Some (named n s))
          → cond (is_key n e.0) (Some (held_of e)) (find (λ h. bytes_eq n h.name) (map held_of es)) ≡ Some (named n s)
      by true t h rest =
          let same : Some e.1 ≡ Some s = h in
          let one : e.1 ≡ s = cc in
          let text = (bytes_decides n (string_bytes e.0)).0 t in
          ap (λ b. cond b (Some (held_of e)) (find (λ h. bytes_eq n h.name) (map held_of es))) t
          ∙ (λ i. Some (record { name = sym text i; kind = (one i).kind; query = ((one i).plan).query; these = ((one i).these).items; list = (one i).list; steps = ((one i).plan).steps; planned_at = (one i).planned_at }))
      by false t h rest = ap (λ b. cond b (Some (held_of e)) (find (λ h. bytes_eq n h.name) (map held_of es))) t ∙ rest h

  -- and without it those of other names are left
  pub left_held : (es : List (String A × StoredQuery A)) → AreApart (map held_of es) → map held_of (remove_entry (is_key n) es) ≡ others n (map held_of es)
  left_held [] apart = refl
  left_held (e ∷ es) apart = by (is_key n e.0) refl (left_held es (rest_apart (held_of e) (map held_of es) apart))
    where
      by : (b : Bool) → is_key n e.0 ≡ b → map held_of (remove_entry (is_key n) es) ≡ others n (map held_of es)
          → map held_of (cond b es (e ∷ remove_entry (is_key n) es)) ≡ cond (not b) (held_of e ∷ others n (map held_of es)) (others n (map held_of es))
      by true t rest = sym (behind_found n (held_of e) (map held_of es) t apart)
      by false t rest = ap (λ xs. held_of e ∷ xs) rest

  module _ (w v : world.Standing) (es fs : List (String A × StoredQuery A)) (waiting : Option Changed) (m : ℕ) (kept : IsSession (seen w es waiting m)) (d : StoredQuery A)
      (there : lookup (is_key n) es ≡ Some d) (new : v.state ≡ unpinned_by w.state ((d.plan).query).mentions) (entries : fs ≡ remove_entry (is_key n) es) (idle : waiting ≡ None) where
    others_held : map held_of fs ≡ others n (map held_of es)
    others_held = ap (map held_of) entries ∙ left_held es kept.once

    pub one_less_seen : IsSession (seen v fs waiting m)
    one_less_seen =
        subst (λ hs. IsSession (record { world = v; stored = hs; waiting = waiting; compared = m })) (sym others_held)
        (one_less_held w v (map held_of es) (named n d) waiting m kept (first_named es d there) (holds_of_found n (IsHeld w.state) es d kept.held there) new idle)

    pub lists_left : lists_of (seen v fs waiting m) ≡ filter (is_of_other n) (lists_of (seen w es waiting m))
    lists_left = ap (map its_list) others_held ∙ left_lists n (map held_of es)

    -- that of the definitions
    pub without_seen : session_of (seen v fs waiting m) ≡ without_stored (session_of (seen w es waiting m)) (stored_of (named n d))
    unfolding session_of
    without_seen = λ i. record {
      world = new i;
      stored = (ap (map stored_of) others_held ∙ sym (left_stored n (map held_of es))) i;
      waiting = none_waits waiting idle (λ changed. flat_map (told_to v.state changed) (map held_of fs)) (λ changed. flat_map (told_to w.state changed) (map held_of es)) i;
    }
