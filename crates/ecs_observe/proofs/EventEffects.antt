-- What delivering events leaves of a session.
use Rattle.std.specs.Prelude.{◌≡◌, ℕ, ◌+◌, ◌≤◌, Bool, true, false, not, ◌&&◌, List, [], ◌∷◌, ◌++◌, All, AllPairs, map, flat_map, length, slice_get, take, Option, None, Some, option_map, IfSome, if◌then◌else◌}
use Rattle.std.specs.declared.string.String.{String}
use Rattle.std.specs.Option.{option_map_or}
use Rattle.std.specs.List.{count_by, list_any}
use Rattle.std.specs.List.Sorted.{IsStrictlyIncreasing}
use Rattle.std.specs.String.{string_bytes}
use Rattle.std.proofs.Common.{refl, ap, get_or, sym, subst, ◌∙◌, ◌≢◌, suc, zero, arith, add-one, append_assoc, append-nil}
use Rattle.std.proofs.lemmas.List.{length-map, take_all}
use Rattle.std.proofs.lemmas.List.Elements.{All-map}
use Rattle.std.proofs.lemmas.List.Kept.{AllPairs-cons}
use Rattle.std.proofs.lemmas.Option.{get_or_from_slice_get, slice_get-map, slice_get_within}
use Rattle.query_cache.specs.Kept.{Kept as Lists}
use Rattle.query_model.specs.Local.{is_local}
use Rattle.query_meaning.specs.declared.steps.Step.{Step}
use Rattle.ecs_model.specs.declared.watches.StoredKind.TheVariants.{Monitor}
use Rattle.ecs_model.specs.steps.Outcomes.{Changed}
use Rattle.ecs_model.specs.World.{WorldState}
use Rattle.ecs_model.specs.rows.View.{view_of}
use Rattle.ecs_model.specs.stored.Session.{after_events, events}
use Rattle.ecs_model.specs.stored.Watches.{Event, matching}
use Rattle.ecs_model.specs.steps.WellFormed.{IsWellFormed}
use Rattle.watch_concerns.specs.Mentions.{times}
use Rattle.watch_concerns.specs.Since.{IsAfter}
use Rattle.ecs_observe.specs.Following.{lists_of}
use Rattle.ecs_observe.specs.Parts.{ArePlaced, held_of, with_all_kept, with_kept_at}
use Rattle.watch_stored.specs.Parts.{held_as, kept_rows}
use Rattle.watch_stored.specs.Held.{Held, IsHeld, IsNow, WasNow, is_compared, is_monitor, is_searched, is_taken_whole, rows_put, told_to}
use Rattle.ecs_observe.specs.Standing.{IsSession, Standing, has_searched, searched_in, session_of, stored_of, taken_in, with_rows, with_these}
use Rattle.watch_stored.specs.declared.moves.RowsAfter.{RowsAfter}
use Rattle.watch_stored.specs.declared.stored.StoredQuery.{StoredQuery}
use Rattle.watch_stored.proofs.AnswerableQueries.{matching_ascends}
use Rattle.ecs_observe.proofs.StayingRows.{told_now, with_rows_told}

-- ---- one more stored query
module _ {A X : Type 0} (f : X → List A) where
  flat_more : (xs : List X) (i : ℕ) (x : X) → slice_get xs i ≡ Some x → flat_map f (take (suc i) xs) ≡ flat_map f (take i xs) ++ f x
  flat_more [] i x h = cc
  flat_more (y ∷ ys) zero x h = let same : y ≡ x = cc in append-nil (f y) ∙ ap f same
  flat_more (y ∷ ys) (suc i) x h = ap (λ zs. f y ++ zs) (flat_more ys i x h) ∙ sym (append_assoc (f y) (flat_map f (take i ys)) (f x))

  -- what was gathered of the first i, and of the next
  pub gathered_more : (start done more : List A) (xs : List X) (i : ℕ) (x : X) → slice_get xs i ≡ Some x
      → done ≡ start ++ flat_map f (take i xs) → more ≡ done ++ f x → more ≡ start ++ flat_map f (take (i + 1) xs)
  gathered_more start done more xs i x h so e =
      let step : flat_map f (take (i + 1) xs) ≡ flat_map f (take i xs) ++ f x = rw add-one (flat_more xs i x h) in
      e ∙ (ap (λ d. d ++ f x) so ∙ (append_assoc start (flat_map f (take i xs)) (f x) ∙ ap (λ zs. start ++ zs) (sym step)))

module _ {X Y : Type 0} (f : X → Y) where
  map_more : (xs : List X) (i : ℕ) (x : X) → slice_get xs i ≡ Some x → map f (take (suc i) xs) ≡ map f (take i xs) ++ f x ∷ []
  map_more [] i x h = cc
  map_more (y ∷ ys) zero x h = let same : y ≡ x = cc in ap (λ z. f z ∷ []) same
  map_more (y ∷ ys) (suc i) x h = ap (λ zs. f y ∷ zs) (map_more ys i x h)

module _ {A : Type 0} where
  -- a stored query in a map is among what is held
  pub held_at : (es : List (String A × StoredQuery A)) (i : ℕ) (name : String A) (q : StoredQuery A) → slice_get es i ≡ Some (name, q) → slice_get (map held_of es) i ≡ Some (held_as (string_bytes name) q)
  held_at es i name q h = slice_get-map held_of es i ∙ ap (option_map held_of) h

  -- and has what all have
  pub all_at : (P : Held → Type 0) (es : List (String A × StoredQuery A)) (i : ℕ) (name : String A) (q : StoredQuery A) → slice_get es i ≡ Some (name, q) → All P (map held_of es) → P (held_as (string_bytes name) q)
  all_at P es i name q h all =
      let there = held_at es i name q h in
      let one = held_as (string_bytes name) q in
      subst P (get_or_from_slice_get (map held_of es) i one one there) (all i one (slice_get_within (map held_of es) i one there))

-- ---- the rows of the events are kept
module _ {A : Type 0} where
  pub placed_more : (ps : List (ℕ × RowsAfter A)) (n : ℕ) (rows : RowsAfter A) (es : List (String A × StoredQuery A)) → with_all_kept (ps ++ (n, rows) ∷ []) es ≡ with_all_kept ps (with_kept_at n rows es)
  placed_more [] n rows es = refl
  placed_more (p ∷ ps) n rows es = ap (with_kept_at p.0 p.1) (placed_more ps n rows es)

  -- those before the place stay
  before_stay : (n : ℕ) (rows : RowsAfter A) (es : List (String A × StoredQuery A)) → take n (with_kept_at n rows es) ≡ take n es
  before_stay zero rows [] = refl
  before_stay zero rows (e ∷ es) = refl
  before_stay (suc n) rows [] = refl
  before_stay (suc n) rows (e ∷ es) = ap (λ xs. e ∷ xs) (before_stay n rows es)

  -- stored queries that agree with others on one more, agree with them there and before
  agree_there : (i : ℕ) (gs es : List (String A × StoredQuery A)) (e : String A × StoredQuery A) → take (suc i) gs ≡ take (suc i) es → slice_get es i ≡ Some e → slice_get gs i ≡ Some e
  agree_there zero [] [] e same there = there
  agree_there zero [] (x ∷ es) e same there = cc
  agree_there zero (g ∷ gs) [] e same there = cc
  agree_there zero (g ∷ gs) (x ∷ es) e same there = cc
  agree_there (suc i) [] [] e same there = there
  agree_there (suc i) [] (x ∷ es) e same there = cc
  agree_there (suc i) (g ∷ gs) [] e same there = cc
  agree_there (suc i) (g ∷ gs) (x ∷ es) e same there = let rest : take (suc i) gs ≡ take (suc i) es = cc in agree_there i gs es e rest there

  agree_before : (i : ℕ) (gs es : List (String A × StoredQuery A)) → take (suc i) gs ≡ take (suc i) es → take i gs ≡ take i es
  agree_before zero gs es same = refl
  agree_before (suc i) [] [] same = refl
  agree_before (suc i) [] (x ∷ es) same = cc
  agree_before (suc i) (g ∷ gs) [] same = cc
  agree_before (suc i) (g ∷ gs) (x ∷ es) same =
      let first : g ≡ x = cc in
      let rest : take (suc i) gs ≡ take (suc i) es = cc in
      (λ j. first j ∷ agree_before i gs es rest j)

-- these as the entities of the rows of the one at a place, if there is one
abbrev with_these_at : ℕ → List ℕ → List Held → List Held
with_these_at n these [] = []
with_these_at zero these (h ∷ hs) = record h { these = these } ∷ hs
with_these_at (suc n) these (h ∷ hs) = h ∷ with_these_at n these hs

module _ {A : Type 0} where
  kept_there : (n : ℕ) (rows : RowsAfter A) (es : List (String A × StoredQuery A)) (e : String A × StoredQuery A) → slice_get es n ≡ Some e
      → map held_of (with_kept_at n rows es) ≡ with_these_at n (kept_rows rows (e.1).these).items (map held_of es)
  kept_there n rows [] e there = refl
  kept_there zero rows (x ∷ es) e there =
      let same : x ≡ e = cc in
      ap (λ (y : String A × StoredQuery A). record (held_of x) { these = (kept_rows rows (y.1).these).items } ∷ map held_of es) same
  kept_there (suc n) rows (x ∷ es) e there = ap (λ hs. held_of x ∷ hs) (kept_there n rows es e there)

rows_more : (rs : List (Option (List ℕ))) (these : List ℕ) (hs : List Held) → with_rows (rs ++ Some these ∷ []) hs ≡ with_rows rs (with_these_at (length rs) these hs)
rows_more [] these [] = refl
rows_more [] these (h ∷ hs) = refl
rows_more (r ∷ rs) these [] = refl
rows_more (r ∷ rs) these (h ∷ hs) = ap (λ xs. with_these r h ∷ xs) (rows_more rs these hs)

rows_none : (rs : List (Option (List ℕ))) (hs : List Held) → with_rows (rs ++ None ∷ []) hs ≡ with_rows rs hs
rows_none [] [] = refl
rows_none [] (h ∷ hs) = refl
rows_none (r ∷ rs) [] = refl
rows_none (r ∷ rs) (h ∷ hs) = ap (λ xs. with_these r h ∷ xs) (rows_none rs hs)

taken_length : (f : Held → Option (List ℕ)) (hs : List Held) (i : ℕ) (h : Held) → slice_get hs i ≡ Some h → i ≡ length (map f (take i hs))
taken_length f [] i h there = cc
taken_length f (x ∷ hs) zero h there = refl
taken_length f (x ∷ hs) (suc i) h there = ap suc (taken_length f hs i h there)

-- one more stored query, at whose place something is put or not
module _ {A : Type 0} (f : Held → Option (List ℕ)) (es : List (String A × StoredQuery A)) where
  abbrev hs : List Held
  hs = map held_of es

  -- what is put of the first m is what is to be put of these, whatever stands after them
  abbrev pub ArePlacedUpTo : ℕ → List (ℕ × RowsAfter A) → Type 0
  ArePlacedUpTo m placed = (gs : List (String A × StoredQuery A)) → take m gs ≡ take m es → map held_of (with_all_kept placed gs) ≡ with_rows (map f (take m hs)) (map held_of gs)

  pub none_yet : (placed : List (ℕ × RowsAfter A)) → placed ≡ [] → ArePlacedUpTo 0 placed
  none_yet placed none = λ gs same. ap (λ ps. map held_of (with_all_kept ps gs)) none

  pub all_placed : (m : ℕ) (placed : List (ℕ × RowsAfter A)) → length hs ≤ m → ArePlacedUpTo m placed → ArePlaced f placed es
  all_placed m placed all so = so es refl ∙ ap (λ xs. with_rows (map f xs) hs) (take_all m hs all)

  module _ (i : ℕ) (placed more : List (ℕ × RowsAfter A)) (so : ArePlacedUpTo i placed) where
    rows_next : (h : Held) (o : Option (List ℕ)) → slice_get hs i ≡ Some h → f h ≡ o → map f (take (suc i) hs) ≡ map f (take i hs) ++ o ∷ []
    rows_next h o there is = map_more f hs i h there ∙ ap (λ r. map f (take i hs) ++ r ∷ []) is

    next : ArePlacedUpTo (suc i) more → ArePlacedUpTo (i + 1) more
    next one = subst (λ n. ArePlacedUpTo n more) (one_more i) one
      where
        one_more : (i : ℕ) → suc i ≡ i + 1
        one_more i = omega arith

    pub one_placed : (e : String A × StoredQuery A) (rows : RowsAfter A) → slice_get es i ≡ Some e → f (held_of e) ≡ Some (kept_rows rows (e.1).these).items → more ≡ placed ++ (i, rows) ∷ [] → ArePlacedUpTo (i + 1) more
    one_placed e rows there is put = next (λ gs same.
        let these : List ℕ = (kept_rows rows (e.1).these).items in
        let held : slice_get hs i ≡ Some (held_of e) = slice_get-map held_of es i ∙ ap (option_map held_of) there in
        ap (λ ps. map held_of (with_all_kept ps gs)) put
        ∙ ap (map held_of) (placed_more placed i rows gs)
        ∙ so (with_kept_at i rows gs) (before_stay i rows gs ∙ agree_before i gs es same)
        ∙ ap (with_rows (map f (take i hs))) (kept_there i rows gs e (agree_there i gs es e same there))
        ∙ ap (λ n. with_rows (map f (take i hs)) (with_these_at n these (map held_of gs))) (taken_length f hs i (held_of e) held)
        ∙ sym (rows_more (map f (take i hs)) these (map held_of gs))
        ∙ ap (λ rs. with_rows rs (map held_of gs)) (sym (rows_next (held_of e) (Some these) held is)))

    none_placed : (h : Held) → slice_get hs i ≡ Some h → f h ≡ None → more ≡ placed → ArePlacedUpTo (i + 1) more
    none_placed h there is put = next (λ gs same.
        ap (λ ps. map held_of (with_all_kept ps gs)) put
        ∙ so gs (agree_before i gs es same)
        ∙ sym (rows_none (map f (take i hs)) (map held_of gs))
        ∙ ap (λ rs. with_rows rs (map held_of gs)) (sym (rows_next h None there is)))

  pub none_put_there : (i : ℕ) (placed : List (ℕ × RowsAfter A)) (h : Held) → ArePlacedUpTo i placed → slice_get hs i ≡ Some h → f h ≡ None → ArePlacedUpTo (i + 1) placed
  none_put_there i placed h so there none = none_placed i placed placed so h there none refl

-- ---- the session
same_stored : (w : WorldState) (hs : List Held) → map stored_of (map (told_now w) hs) ≡ map stored_of hs
same_stored w [] = refl
same_stored w (h ∷ hs) = ap (λ xs. stored_of h ∷ xs) (same_stored w hs)

same_queries : (w : WorldState) (hs : List Held) → map (λ h. h.query) (map (told_now w) hs) ≡ map (λ h. h.query) hs
same_queries w [] = refl
same_queries w (h ∷ hs) = ap (λ xs. h.query ∷ xs) (same_queries w hs)

abbrev its_list : Held → List ℕ × Option Lists × List Step × ℕ
its_list h = (h.name, h.list, h.steps, h.planned_at)

same_lists : (w : WorldState) (hs : List Held) → map its_list (map (told_now w) hs) ≡ map its_list hs
same_lists w [] = refl
same_lists w (h ∷ hs) = ap (λ xs. its_list h ∷ xs) (same_lists w hs)

-- that no two have one name
apart_now : (w : WorldState) (hs : List Held) → AllPairs (λ a b. a.name ≢ b.name) hs → AllPairs (λ a b. a.name ≢ b.name) (map (told_now w) hs)
apart_now w [] apart = λ i j d low high. absurd (omega arith)
apart_now w (h ∷ hs) apart =
    AllPairs-cons (λ (a b : Held). a.name ≢ b.name) (told_now w h) (map (told_now w) hs)
    (All-map (λ (b : Held). h.name ≢ b.name) (told_now w) hs (λ k d l. apart 0 (suc k) d (omega arith) (omega arith)))
    (apart_now w hs (λ i j d low high. apart (suc i) (suc j) d (omega arith) (omega arith)))

abbrev pub told_session : Standing → ℕ → Standing
told_session s n = record { world = s.world; stored = map (told_now (s.world).state) s.stored; waiting = None; compared = n }

-- what every stored query has, it still has
module _ (w : WorldState) (kept : IsWellFormed w) (h : Held) where
  now_held : IsHeld w h → IsHeld w (told_now w h)
  now_held held = record { current = held.current; fit = held.fit; ascends = λ m. by (is_compared h) m }
    where
      by : (b : Bool) → h.kind ≡ Monitor → IsStrictlyIncreasing (if b then matching (view_of w) h.query else h.these)
      by true m = matching_ascends w h.query kept
      by false m = held.ascends m

  is_now : IsNow w (told_now w h)
  is_now m far =
      let compared : is_compared h ≡ true = ap (λ k. is_monitor k && not (is_local h.query)) m ∙ ap not far in
      ap (λ b. if b then matching (view_of w) h.query else h.these) compared

module _ (s : Standing) (session : IsSession s) (kept : IsWellFormed (s.world).state) where
  pub told_is_session : (n : ℕ) → IsSession (told_session s n)
  told_is_session n =
      let w = (s.world).state in
      record {
        held = All-map (IsHeld w) (told_now w) s.stored (λ k d l. now_held w kept _ (session.held k d l));
        pinned = λ i. session.pinned i ∙ ap (times i) (sym (same_queries w s.stored));
        few = let same : length (map (told_now w) s.stored) ≡ length s.stored = length-map s.stored (told_now w) in omega (arith, same, session.few);
        once = apart_now w s.stored session.once;
        now = λ e. All-map (IsNow w) (told_now w) s.stored (λ k d l. is_now w kept (get_or s.stored k d));
        after = tt;
        before = tt;
      }

-- none wait any more
pub told_is_after : (s : Standing) (n : ℕ) → session_of (told_session s n) ≡ after_events (session_of s)
unfolding session_of
told_is_after s n = λ j. record { world = (s.world).state; stored = same_stored (s.world).state s.stored j; waiting = None }

-- what is delivered is what waits
pub told_is_waiting : (s : Standing) (changed : Changed) → s.waiting ≡ Some changed → flat_map (told_to (s.world).state changed) s.stored ≡ events (session_of s)
unfolding session_of
told_is_waiting s changed e =
    sym (ap (λ o. option_map_or (λ es. es) (option_map (λ done. flat_map (told_to (s.world).state done) s.stored) o) []) e)

-- where nothing waits, nothing is delivered
pub none_told : (s : Standing) → s.waiting ≡ None → [] ≡ events (session_of s)
unfolding session_of
none_told s e = sym (ap (λ o. option_map_or (λ es. es) (option_map (λ done. flat_map (told_to (s.world).state done) s.stored) o) []) e)

pub none_after : (s : Standing) → s.waiting ≡ None → session_of s ≡ after_events (session_of s)
unfolding session_of
none_after s e =
    let waiting : option_map (λ done. flat_map (told_to (s.world).state done) s.stored) s.waiting ≡ None
    = ap (option_map (λ done. flat_map (told_to (s.world).state done) s.stored)) e in
    λ j. record { world = (s.world).state; stored = map stored_of s.stored; waiting = waiting j }

-- ---- the same of a session as a call takes it
-- what is held after the rows were put in their places
pub put_told : (s : Standing) → IsSession s → IsWellFormed (s.world).state → (changed : Changed) → s.waiting ≡ Some changed → (left : List Held)
    → left ≡ with_rows (map (rows_put (s.world).state changed) s.stored) s.stored → left ≡ map (told_now (s.world).state) s.stored
put_told s session kept changed waiting left put =
    let w = (s.world).state in
    let after : IsAfter w changed = subst (λ o. IfSome o (IsAfter w)) waiting session.after in
    let was : All (WasNow w changed) s.stored = subst (λ o. IfSome o (λ done. All (WasNow w done) s.stored)) waiting session.before in
    put ∙ with_rows_told w changed kept after s.stored was

module _ (s now : Standing) (view_is : s ≡ now) where
  module _ (left : List Held) (put : left ≡ map (told_now (s.world).state) s.stored) (n : ℕ) where
    abbrev retold : Standing
    retold = record { world = s.world; stored = left; waiting = None; compared = n }

    is_retold : retold ≡ told_session s n
    is_retold = λ j. record { world = s.world; stored = put j; waiting = None; compared = n }

    pub retold_session : IsSession s → IsWellFormed (s.world).state → IsSession (record { world = s.world; stored = left; waiting = None; compared = n })
    retold_session session kept = subst IsSession (sym is_retold) (told_is_session s session kept n)

    pub retold_after : session_of (record { world = s.world; stored = left; waiting = None; compared = n }) ≡ after_events (session_of now)
    retold_after = ap session_of is_retold ∙ (told_is_after s n ∙ ap (λ x. after_events (session_of x)) view_is)

    -- the lists of kept queries stay
    pub retold_lists : lists_of (record { world = s.world; stored = left; waiting = None; compared = n }) ≡ lists_of now
    retold_lists = ap (map its_list) put ∙ (same_lists (s.world).state s.stored ∙ ap lists_of view_is)

  pub told_waits : (changed : Changed) (start all : List Event) → s.waiting ≡ Some changed → start ≡ [] → all ≡ start ++ flat_map (told_to (s.world).state changed) s.stored → all ≡ events (session_of now)
  told_waits changed start all waiting none gathered =
      gathered ∙ (ap (λ es. es ++ flat_map (told_to (s.world).state changed) s.stored) none ∙ (told_is_waiting s changed waiting ∙ ap (λ x. events (session_of x)) view_is))

  pub none_waits_told : (all : List Event) → s.waiting ≡ None → all ≡ [] → all ≡ events (session_of now)
  none_waits_told all waiting none = none ∙ (none_told s waiting ∙ ap (λ x. events (session_of x)) view_is)

  pub none_waits_after : s.waiting ≡ None → session_of now ≡ after_events (session_of now)
  none_waits_after waiting = subst (λ x. session_of x ≡ after_events (session_of x)) view_is (none_after s waiting)

  -- where none of the stored queries is searched for what waits, none is
  pub none_for : (changed : Changed) → s.waiting ≡ Some changed → has_searched now ≡ false → list_any (is_searched changed) s.stored ≡ false
  none_for changed waiting none =
      sym (ap (λ o. option_map_or (λ done. list_any (is_searched done) s.stored) o false) waiting) ∙ (ap has_searched view_is ∙ none)

  -- so many are
  pub searched_for : (changed : Changed) → s.waiting ≡ Some changed → count_by (is_searched changed) s.stored ≡ searched_in now
  searched_for changed waiting = sym (ap (λ o. option_map_or (λ done. count_by (is_searched done) s.stored) o 0) waiting) ∙ ap searched_in view_is

  -- and so many are evaluated
  pub taken_for : (changed : Changed) → s.waiting ≡ Some changed → count_by (is_taken_whole changed) s.stored ≡ taken_in now
  taken_for changed waiting = sym (ap (λ o. option_map_or (λ done. count_by (is_taken_whole done) s.stored) o 0) waiting) ∙ ap taken_in view_is

  pub none_taken_for : s.waiting ≡ None → taken_in now ≡ 0
  none_taken_for waiting = sym (ap taken_in view_is) ∙ ap (λ o. option_map_or (λ done. count_by (is_taken_whole done) s.stored) o 0) waiting
