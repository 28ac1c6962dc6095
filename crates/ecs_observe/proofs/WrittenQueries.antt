-- A session of which one stored query is written: the entities of its rows, or the list of its tables.
use Rattle.std.specs.Prelude.{◌≡◌, ℕ, zero, suc, ◌<◌, List, [], ◌∷◌, length, map, bytes_eq, slice_index_or, slice_set, true, false, Option, Some, IfOk, IfSome, option_and_then, option_map, Result, Ok, Err, OnOk}
use Rattle.std.specs.List.{find}
use Rattle.std.specs.Option.{option_map_or}
use Rattle.std.specs.Cmp.Lexicographic.{bytes_decides}
use Rattle.std.specs.Map.{lookup}
use Rattle.std.specs.declared.string.String.{String}
use Rattle.std.specs.String.{string_bytes}
use Rattle.std.proofs.Common.{refl, sym, ap, subst, ◌∙◌, arith, get_or, inl, inr}
use Rattle.std.proofs.lemmas.List.{get_or-map}
use Rattle.query_cache.specs.Kept.{Kept}
use Rattle.query_meaning.specs.declared.steps.Step.{Step}
use Rattle.table_store.specs.Store.{Store}
use Rattle.watch_index.specs.NameOrder.{IsPlaceOf, name_in}
use Rattle.watch_index.specs.WatchOrder.{Boxed}
use Rattle.ecs_model.specs.steps.Outcomes.{Changed}
use Rattle.ecs_model.specs.stored.Session.{kept_query}
use Rattle.ecs_world.specs.Standing as world
use Rattle.query_plan.specs.Plans.{Plan}
use Rattle.plan_steps.specs.Nobody.{begins_with_this}
use Rattle.ecs_observe.specs.Following.{FindsInList, FindsInListAt, Follows, FollowsAt, FollowsIfSome, IsFittingAt, IsMadeAnew, IsUpToDate, IsUpToDateAt, PlansAt, ReadsList, RefusesKept, StaysOrIsPlanned, SyncsList, begins_in_list, dated_plan_at, dated_plan_of, list_at, plan_at, plan_of, with_list, with_list_at}
use Rattle.watch_stored.specs.Lists.{HasList}
use Rattle.ecs_observe.specs.Lists.{HaveLists}
use Rattle.ecs_observe.specs.Parts.{held_of, with_kept_at}
use Rattle.watch_stored.specs.Parts.{with_kept}
use Rattle.watch_stored.specs.Held.{Held, IsFitting}
use Rattle.ecs_observe.specs.Standing.{IsSession, Standing, session_of}
use Rattle.ecs_observe.specs.Stored.{entries_in, entries_of, made_of}
use Rattle.ecs_observe.specs.declared.errors.SessionError.{SessionError}
use Rattle.ecs_observe.specs.declared.errors.SessionError.TheVariants.{Refused, Memory}
use Rattle.watch_stored.specs.declared.moves.RowsAfter.{RowsAfter}
use Rattle.ecs_observe.specs.declared.queries.StoredQueries.{StoredQueries}
use Rattle.watch_stored.specs.declared.stored.StoredQuery.{StoredQuery}
use Rattle.ecs_observe.proofs.Entries.{as_many, entry_written, lists_written, look_stored, stored_in}
use Rattle.ecs_observe.proofs.NamedQueries.{is_key, named, seen}
use Rattle.ecs_observe.proofs.KeptQueries.{kept_found, other_kind}
use Rattle.ecs_observe.proofs.KeptLists.{kept_kind}
use Rattle.ecs_observe.proofs.DroppedQueries.{AreApart, first_named}
use Rattle.ecs_observe.proofs.ChangedLists.{as_it_was, found_then, one_listed, place_named, same_session, still_session}

abbrev pub query_in : {A : Type 0} → Boxed (StoredQuery A) A → StoredQuery A
query_in b = b.value.value.value

-- what stands at a place stands there whatever the default is
pub here_as : {X : Type 0} (xs : List X) (i : ℕ) (x : X) → i < length xs → x ≡ get_or xs i x → (d : X) → get_or xs i d ≡ x
here_as xs i x low is d = any_default xs i d x low ∙ sym is
  where
    any_default : {X : Type 0} (xs : List X) (i : ℕ) (d e : X) → i < length xs → get_or xs i d ≡ get_or xs i e
    any_default [] i d e low = absurd (omega (arith, low))
    any_default (x ∷ xs) zero d e low = refl
    any_default (x ∷ xs) (suc i) d e low = any_default xs i d e (omega (arith, low))

module _ {A : Type 0} (bs : List (Boxed (StoredQuery A) A)) (i : ℕ) (x : Boxed (StoredQuery A) A) (low : i < length bs) (here : (d : Boxed (StoredQuery A) A) → slice_index_or bs i d ≡ x) where
  pub list_there : (s : Store) → HaveLists s (entries_in bs) → HasList s (query_in x)
  list_there s all =
      subst (λ (e : String A × StoredQuery A). HasList s e.1)
      (get_or-map (λ (b : Boxed (StoredQuery A) A). (b.value.name, query_in b)) bs i x (name_in x, query_in x) low ∙ ap (λ (b : Boxed (StoredQuery A) A). (b.value.name, query_in b)) (here x))
      (all i (name_in x, query_in x) (omega (arith, low, as_many bs)))

  pub kept_entries : (y : Boxed (StoredQuery A) A) (rows : RowsAfter A) → name_in y ≡ name_in x → query_in y ≡ with_kept rows (query_in x) → entries_in (slice_set bs i y) ≡ with_kept_at i rows (entries_in bs)
  kept_entries y rows name query =
      entry_written name_in query_in bs i y rows low (λ d. name ∙ ap (λ (b : Boxed (StoredQuery A) A). name_in b) (sym (here d)))
      (λ d. query ∙ ap (λ (b : Boxed (StoredQuery A) A). with_kept rows (query_in b)) (sym (here d)))

-- y is written over x, which is the one of a name
module _ {A : Type 0} (n : List ℕ) (w : world.Standing) (s t : StoredQueries A) (waiting : Option Changed) (compared : ℕ) (i : ℕ) (x y : Boxed (StoredQuery A) A)
    (place : IsPlaceOf n (made_of s) (Some i)) (here : (d : Boxed (StoredQuery A) A) → slice_index_or (made_of s) i d ≡ x) (made : made_of t ≡ slice_set (made_of s) i y)
    (name : name_in y ≡ name_in x) (kind : (query_in y).kind ≡ (query_in x).kind) (query : ((query_in y).plan).query ≡ ((query_in x).plan).query) (these : (query_in y).these ≡ (query_in x).these)
    (session : IsSession (seen w (entries_of s) waiting compared)) where
  abbrev old : Standing
  old = seen w (entries_of s) waiting compared

  abbrev list : Option Kept
  list = (query_in y).list

  abbrev steps : List Step
  steps = ((query_in y).plan).steps

  abbrev serial : ℕ
  serial = (query_in y).planned_at

  its_name : (d : Boxed (StoredQuery A) A) → n ≡ string_bytes (name_in (get_or (made_of s) i d))
  its_name d = (bytes_decides n _).0 (place_named n (made_of s) i place.0 session.once place.2 d)

  one_held : (d : Boxed (StoredQuery A) A) → held_of (name_in y, query_in y) ≡ record (held_of (name_in (get_or (made_of s) i d), query_in (get_or (made_of s) i d))) { list = list; steps = steps; planned_at = serial }
  one_held d =
      (λ j. record { name = string_bytes (name j); kind = kind j; query = query j; these = (these j).items; list = list; steps = steps; planned_at = serial })
      ∙ ap (λ (b : Boxed (StoredQuery A) A). record (held_of (name_in b, query_in b)) { list = list; steps = steps; planned_at = serial }) (sym (here d))

  in_boxes : (bs : List (Boxed (StoredQuery A) A)) → map held_of (entries_in bs) ≡ map (λ b. held_of (name_in b, query_in b)) bs
  in_boxes [] = refl
  in_boxes (b ∷ bs) = ap (λ hs. held_of (name_in b, query_in b) ∷ hs) (in_boxes bs)

  held_then : map held_of (entries_of t) ≡ map (with_list n list steps serial) (map held_of (entries_of s))
  held_then =
      ap (λ bs. map held_of (map (λ (b : Boxed (StoredQuery A) A). (b.value.name, b.value.value.value)) bs)) made
      ∙ (in_boxes (slice_set (made_of s) i y)
      ∙ (one_listed n list steps serial (λ b. held_of (name_in b, query_in b)) (made_of s) i y place.0 (subst AreApart (in_boxes (made_of s)) session.once) its_name one_held
      ∙ ap (map (with_list n list steps serial)) (sym (in_boxes (made_of s)))))

  -- the session is seen with its list
  pub seen_with_list : seen w (entries_of t) waiting compared ≡ with_list_at n list steps serial old
  seen_with_list = ap (λ hs. record { world = w; stored = hs; waiting = waiting; compared = compared }) held_then

  pub rewritten_session : IsSession (seen w (entries_of t) waiting compared)
  rewritten_session = subst IsSession (sym seen_with_list) (still_session n list steps serial old session)

  pub still_lists : HasList w.tables (query_in y) → HaveLists w.tables (entries_of s) → HaveLists w.tables (entries_of t)
  still_lists one all =
      subst (λ bs. HaveLists w.tables (map (λ (b : Boxed (StoredQuery A) A). (b.value.name, b.value.value.value)) bs)) (sym made) (lists_written name_in query_in w.tables (made_of s) i y one all)

  -- what was there under the name
  pub there_was : lookup (is_key n) (entries_of s) ≡ Some (query_in x)
  there_was = look_stored n (made_of s) ∙ ap (option_map stored_in) (place.1 x) ∙ ap (λ (b : Boxed (StoredQuery A) A). Some (query_in b)) (here x)

  module _ (now : Standing) (view : old ≡ now) where
    -- the session of the definitions stays
    pub same_then : session_of (seen w (entries_of t) waiting compared) ≡ session_of now
    same_then = ap session_of seen_with_list ∙ (same_session n list steps serial old ∙ ap session_of view)

    list_was : list_at now n ≡ (query_in x).list
    list_was = ap (λ u. list_at u n) (sym view) ∙ ap (option_and_then (λ (h : Held). h.list)) (first_named n (entries_of s) (query_in x) there_was)

    pub follows_then : FollowsIfSome w.tables (query_in x) (query_in y) → FollowsAt n now (seen w (entries_of t) waiting compared)
    follows_then (inl same) = inl (seen_with_list ∙ (ap (λ (q : StoredQuery A). with_list_at n q.list (q.plan).steps q.planned_at old) same ∙ (sym unlisted ∙ view)))
      where
        unlisted : old ≡ with_list_at n (query_in x).list ((query_in x).plan).steps (query_in x).planned_at old
        unlisted = as_it_was n old (named n (query_in x)) (first_named n (entries_of s) (query_in x) there_was) session.once
    follows_then (inr h) = inr (record {
      before = h.0;
      list = h.1;
      steps = steps;
      serial = serial;
      was = list_was ∙ h.2;
      left = seen_with_list ∙ (λ j. with_list_at n (h.3 j) steps serial (view j));
      follows = subst (λ (u : Standing). Follows (u.world).tables h.0 h.1) view h.4;
    })

    found_now : find (λ h. bytes_eq n h.name) (map held_of (entries_of t)) ≡ Some (record (named n (query_in x)) { list = list; steps = steps; planned_at = serial })
    found_now = ap (find (λ h. bytes_eq n h.name)) held_then ∙ found_then n list steps serial old (named n (query_in x)) (first_named n (entries_of s) (query_in x) there_was) refl

    -- its plan, before and after
    plan_was : plan_at now n ≡ Some (query_in x).plan
    plan_was = ap (λ u. plan_at u n) (sym view) ∙ ap (option_map plan_of) (first_named n (entries_of s) (query_in x) there_was)

    plan_is : plan_at (seen w (entries_of t) waiting compared) n ≡ Some (query_in y).plan
    plan_is = ap (option_map plan_of) found_now ∙ (λ j. Some (record { query = sym query j; steps = steps }))

    abbrev plan_before : Plan × ℕ
    plan_before = ((query_in x).plan, (query_in x).planned_at)

    abbrev plan_after : Plan × ℕ
    plan_after = ((query_in y).plan, (query_in y).planned_at)

    dated_was : dated_plan_at now n ≡ Some plan_before
    dated_was = ap (λ u. dated_plan_at u n) (sym view) ∙ ap (option_map dated_plan_of) (first_named n (entries_of s) (query_in x) there_was)

    dated_is : dated_plan_at (seen w (entries_of t) waiting compared) n ≡ Some plan_after
    dated_is = ap (option_map dated_plan_of) found_now ∙ (λ j. Some (record { query = sym query j; steps = steps }, serial))

    pub same_plan : plan_after ≡ plan_before → dated_plan_at (seen w (entries_of t) waiting compared) n ≡ dated_plan_at now n
    same_plan same = dated_is ∙ (ap Some same ∙ sym dated_was)

    pub planned_then : StaysOrIsPlanned w plan_before plan_after → PlansAt n now (seen w (entries_of t) waiting compared)
    planned_then (inl same) = inl (same_plan same)
    planned_then (inr h) =
        inr (plan_before, plan_after, dated_was, dated_is, subst (λ (u : Standing). IsMadeAnew u.world plan_before plan_after) view h)

    pub fitting_then : {T E : Type 0} (r : Result T E) → OnOk r (IsFitting serial w.tables.last) → OnOk r (IsFittingAt n (seen w (entries_of t) waiting compared))
    fitting_then (Ok r) h = (plan_after, dated_is, h)
    fitting_then (Err e) h = tt

    -- one that was asked for its rows
    pub reads_then : {T E : Type 0} (r : Result T E) → HasList w.tables (query_in y) → OnOk r (ReadsList w.tables (query_in y))
        → OnOk r (begins_in_list (seen w (entries_of t) waiting compared) n ≡ true → IsUpToDateAt (seen w (entries_of t) waiting compared) n)
    reads_then (Ok r) has h = λ begins.
        let up = h (sym (ap (λ o. option_map_or (λ (p : Plan). begins_with_this p.query p.steps) o false) plan_is) ∙ begins) in record {
          query = ((query_in x).plan).query;
          list = up.0;
          kept = ap (λ u. kept_query u n) (same_then ∙ ap session_of (sym view))
              ∙ kept_found old w (entries_of s) waiting compared n refl (query_in x) there_was (sym kind ∙ kept_kind w.tables (query_in y) has up.0 up.1);
          there = ap (option_and_then (λ (h : Held). h.list)) found_now ∙ up.1;
          current = subst (λ q. IsUpToDate q w.tables up.0) query up.2;
        }
    reads_then (Err e) has h = tt

    -- and how these were found
    pub finds_then : {E : Type 0} (r : Result (Option ℕ) E) → IfOk r (FindsInList w (query_in y).plan list) → IfOk r (FindsInListAt n (seen w (entries_of t) waiting compared))
    finds_then (Ok probes) h =
        subst (λ o. IfSome o (λ p. FindsInList w p (list_at (seen w (entries_of t) waiting compared) n) probes)) (sym plan_is)
        (subst (λ l. FindsInList w (query_in y).plan l probes) (sym (ap (option_and_then (λ (h : Held). h.list)) found_now)) h)
    finds_then (Err e) h = tt

    -- one that was brought up to date
    pub synced_then : {T : Type 0} (r : Result T SessionError) → SyncsList r (query_in x).kind ((query_in x).plan).query w.tables list → OnOk r (IsUpToDateAt (seen w (entries_of t) waiting compared) n)
    synced_then (Ok r) h = record {
      query = ((query_in x).plan).query;
      list = h.1.0;
      kept = ap (λ u. kept_query u n) (same_then ∙ ap session_of (sym view)) ∙ kept_found old w (entries_of s) waiting compared n refl (query_in x) there_was h.0;
      there = ap (option_and_then (λ (h : Held). h.list)) found_now ∙ h.1.1;
      current = h.1.2;
    }
    synced_then (Err e) h = tt

    pub refused_then : {T : Type 0} (r : Result T SessionError) → SyncsList r (query_in x).kind ((query_in x).plan).query w.tables list → RefusesKept r (session_of now) n
    refused_then (Ok r) h = (((query_in x).plan).query, kept_found now w (entries_of s) waiting compared n (sym view) (query_in x) there_was h.0)
    refused_then (Err (Refused reason)) h = other_kind now w (entries_of s) waiting compared n (sym view) (query_in x) there_was h.0 ∙ ap Err (sym h.1)
    refused_then (Err Memory) h = (((query_in x).plan).query, kept_found now w (entries_of s) waiting compared n (sym view) (query_in x) there_was h)
