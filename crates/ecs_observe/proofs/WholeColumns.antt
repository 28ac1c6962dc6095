-- What the values of a table leave of a session: one `set` after another is accepted, and none is notified.
use Rattle.std.specs.Prelude.{◌≡◌, ℕ, Bool, true, false, ◌||◌, All, List, [], ◌∷◌, ◌++◌, flat_map, map, take, drop, Option, Some, None, is_some, option_map, Ok, if◌then◌else◌}
use Rattle.std.specs.List.{list_any}
use Rattle.std.proofs.Common.{refl, ap, sym, subst, true≢false, ◌∙◌}
use Rattle.std.proofs.lemmas.Bool.{or_parts as neither}
use Rattle.std.proofs.lemmas.List.Elements.{All-cons, All-head, All-nil, All-tail}
use Rattle.ecs_id.specs.declared.EntityId.{EntityId}
use Rattle.ecs_id.specs.declared.TableKey.{TableKey}
use Rattle.ecs_id.specs.Id.{Id}
use Rattle.ecs_model.specs.Bytes.{size_of, values_in}
use Rattle.ecs_model.specs.declared.watches.StoredKind.{StoredKind}
use Rattle.ecs_model.specs.declared.watches.StoredKind.TheVariants.{Kept, Monitor, OnAdd, OnRemove, OnSet}
use Rattle.ecs_model.specs.steps.Outcomes.{Changed}
use Rattle.ecs_model.specs.Schema.{Schema}
use Rattle.ecs_model.specs.stored.Session.{after_events, events}
use Rattle.ecs_model.specs.stored.Watches.{is_told}
use Rattle.ecs_model.specs.steps.Step.{Command, SetValue}
use Rattle.ecs_model.specs.steps.WellFormed.{IsWellFormed}
use Rattle.ecs_model.specs.World.{WorldState}
use Rattle.ecs_model.proofs.steps.AcceptedCommands.{step_keeps}
use Rattle.query_model.specs.Query.{Query}
use Rattle.ecs_world.specs.Columns.{AreSet, IsColumnSet, column_fault}
use Rattle.ecs_world.specs.Standing as store
use Rattle.ecs_world.specs.State.{no_change}
use Rattle.watch_concerns.specs.Since.{IsAfter}
use Rattle.watch_events.specs.Hits.{may_tell_set}
use Rattle.watch_index.specs.WatchOrder.{Boxed}
use Rattle.watch_stored.specs.declared.stored.StoredQuery.{StoredQuery}
use Rattle.watch_stored.specs.Held.{Held, IsNow, WasNow, told_to}
use Rattle.watch_touched.specs.Concerned.{is_concerned}
use Rattle.watch_touched.proofs.UnconcernedCommands.{unconcerned_queries_match_on}
use Rattle.ecs_observe.specs.Answers.{awaited, carried_out}
use Rattle.ecs_observe.specs.Columns.{AreSetIn, IsColumnSetIn, set_column_error}
use Rattle.ecs_observe.specs.Parts.{held_of}
use Rattle.ecs_observe.specs.Standing.{IsSession, Standing, session_of}
use Rattle.ecs_observe.specs.Stored.{entries_in, hears_set}
use Rattle.ecs_observe.specs.declared.errors.SetColumnError.{SetColumnError}
use Rattle.ecs_observe.specs.declared.errors.SetColumnError.TheVariants.{EventsPending, Watched, OfWorld}
use Rattle.ecs_observe.proofs.CommandAnswers.{accepted_answer, accepted_session, left_by, none_waits, refused_session, refused_state}
use Rattle.ecs_observe.proofs.UnconcernedQueries.{may_be_told, untold}

-- what one `set` of a held id changes
abbrev written_at : ℕ → Id → Changed
written_at e i = record no_change { written = (e, i) ∷ [] }

-- whether a stored query may be notified of it
abbrev pub hears : Id → Held → Bool
hears i h = may_tell_set i h.kind h.query

-- ---- no stored query is notified of it
module _ (i : Id) (e : ℕ) where
  spared : (k : StoredKind) (q : Query) → may_tell_set i k q ≡ false → may_be_told (written_at e i) k q ≡ false
  spared Kept q none = refl
  spared Monitor q none = refl
  spared OnAdd q none = refl
  spared OnRemove q none = refl
  spared OnSet q none = ap (λ b. b || false) none

  -- nor does it concern the query of a monitor
  unconcerned : (q : Query) → is_concerned q (written_at e i) ≡ false
  unfolding is_concerned
  unconcerned q = refl

  module _ (w : WorldState) (kept : IsWellFormed w) (after : IsAfter w (written_at e i)) where
    all_silent : (hs : List Held) → All (WasNow w (written_at e i)) hs → list_any (hears i) hs ≡ false → flat_map (told_to w (written_at e i)) hs ≡ []
    all_silent [] was none = refl
    all_silent (h ∷ hs) was none =
        let parts = neither (hears i h) (list_any (hears i) hs) none in
        let first = untold w (written_at e i) h kept after (All-head (WasNow w (written_at e i)) h hs was) (spared h.kind h.query parts.0) in
        let rest = all_silent hs (All-tail (WasNow w (written_at e i)) h hs was) parts.1 in
        λ j. first j ++ rest j

    all_still : (hs : List Held) → All (WasNow w (written_at e i)) hs → All (IsNow w) hs
    all_still [] was = All-nil (IsNow w)
    all_still (h ∷ hs) was =
        All-cons (IsNow w) h hs
        (λ monitor other. All-head (WasNow w (written_at e i)) h hs was monitor other ∙ unconcerned_queries_match_on w (written_at e i) h.query kept after (unconcerned h.query))
        (all_still hs (All-tail (WasNow w (written_at e i)) h hs was))

  -- ---- what waits after it is empty, and the session is one once that was delivered
  module _ (s : Standing) (v : store.Standing) (kept : IsWellFormed v.state) (none : list_any (hears i) s.stored ≡ false) where
    none_told : (o : Option Changed) → ((changed : Changed) → o ≡ Some changed → changed ≡ written_at e i) → IsSession (left_by s v o) → events (session_of (left_by s v o)) ≡ []
    unfolding session_of
    none_told None is there = refl
    none_told (Some changed) is there =
        let same = is changed refl in
        let after : IsAfter v.state (written_at e i) = subst (IsAfter v.state) same there.after in
        let was : All (WasNow v.state (written_at e i)) s.stored = subst (λ c. All (WasNow v.state c) s.stored) same there.before in
        ap (λ c. flat_map (told_to v.state c) s.stored) same ∙ all_silent v.state kept after s.stored was none

    settled : (o : Option Changed) → ((changed : Changed) → o ≡ Some changed → changed ≡ written_at e i) → IsSession (left_by s v o) → IsSession (left_by s v None)
    settled None is there = there
    settled (Some changed) is there =
        let same = is changed refl in
        let after : IsAfter v.state (written_at e i) = subst (IsAfter v.state) same there.after in
        let was : All (WasNow v.state (written_at e i)) s.stored = subst (λ c. All (WasNow v.state c) s.stored) same there.before in
        record { held = there.held; pinned = there.pinned; few = there.few; once = there.once; now = λ waits. all_still v.state kept after s.stored was; after = tt; before = tt }

delivered : (s : Standing) (v : store.Standing) (o : Option Changed) → after_events (session_of (left_by s v o)) ≡ session_of (left_by s v None)
unfolding session_of
delivered s v o = refl

awaited_is : (stored : List Held) (c changed : Changed) → awaited stored c ≡ Some changed → changed ≡ c
awaited_is stored c changed = by (list_any (λ h. is_told h.kind) stored)
  where
    by : (b : Bool) → (if b then Some c else None) ≡ Some changed → changed ≡ c
    by true is = let same : c ≡ changed = cc in sym same
    by false is = cc

-- ---- one entity after another
module _ (i : Id) (fs : Schema) where
  pub all_set : (es : List EntityId) (bytes : List ℕ) (s : Standing) (v : store.Standing)
      → IsSession s → is_some s.waiting ≡ false → list_any (hears i) s.stored ≡ false → IsWellFormed (s.world).state → AreSet i fs es bytes (s.world).state v.state
      → IsSession (left_by s v None) × AreSetIn i fs es bytes (session_of s) (session_of (left_by s v None))
  all_set [] bytes s v session free quiet kept same =
      let none : s.waiting ≡ None = none_waits s session free in
      (subst (λ o. IsSession (left_by s v o)) none (refused_session s session free v same), subst (λ o. session_of (left_by s v o) ≡ session_of s) none (refused_state s session free v same))
  all_set (e ∷ es) bytes s v session free quiet kept set =
      let c : Command = SetValue e i (values_in fs (take (size_of fs) bytes)) in
      let changed : Changed = written_at e.index i in
      let u : store.Standing = record { state = set.0; tables = (s.world).tables } in
      let waits = awaited s.stored changed in
      let is = awaited_is s.stored changed in
      let well = step_keeps (s.world).state set.0 c changed kept tt set.1 in
      let there : IsSession (left_by s u waits) = accepted_session s session free u c changed kept set.1 in
      let done : carried_out (session_of s) c ≡ Ok (session_of (left_by s u waits), None) = accepted_answer s session free u c changed kept set.1 in
      let after = settled i e.index s u well quiet waits is there in
      let rest = all_set es (drop (size_of fs) bytes) (left_by s u None) v after refl quiet well set.2 in
      let later = subst (λ x. AreSetIn i fs es (drop (size_of fs) bytes) x (session_of (left_by s v None))) (sym (delivered s u waits)) rest.1 in
      (rest.0, (session_of (left_by s u waits), done, none_told i e.index s u well quiet waits is there, later))

-- ---- the error that is judged first
module _ (s : Standing) (k : TableKey) (i : Id) (n : ℕ) where
  abbrev after_waiting : Option SetColumnError
  after_waiting = if list_any (hears i) s.stored then Some Watched else option_map OfWorld (column_fault s.world k i n)

  module _ (free : is_some s.waiting ≡ false) where
    pub tells_watched : list_any (hears i) s.stored ≡ true → set_column_error s k i n ≡ Some Watched
    tells_watched h =
        ap (λ b. if b then Some EventsPending else after_waiting) free
        ∙ ap (λ b. if b then Some Watched else option_map OfWorld (column_fault s.world k i n)) h

    pub tells_of_world : list_any (hears i) s.stored ≡ false → set_column_error s k i n ≡ option_map OfWorld (column_fault s.world k i n)
    tells_of_world h =
        ap (λ b. if b then Some EventsPending else after_waiting) free
        ∙ ap (λ b. if b then Some Watched else option_map OfWorld (column_fault s.world k i n)) h

-- ---- the same of a session as a call takes it
module _ (s now : Standing) (view_is : s ≡ now) (waits : is_some now.waiting ≡ false) where
  free_in : is_some s.waiting ≡ false
  free_in = ap (λ (x : Standing). is_some x.waiting) view_is ∙ waits

  module _ (session : IsSession s) (kept : IsWellFormed (s.world).state) (v : store.Standing) (k : TableKey) (i : Id) (bytes : List ℕ)
      (quiet : list_any (hears i) s.stored ≡ false) (set : IsColumnSet s.world k i bytes v.state) where
    all : IsSession (left_by s v None) × AreSetIn i set.1 (set.0).entities bytes (session_of s) (session_of (left_by s v None))
    all = all_set i set.1 (set.0).entities bytes s v session free_in quiet kept set.4

    none : None ≡ s.waiting
    none = sym (none_waits s session free_in)

    pub column_left : IsSession (left_by s v s.waiting) × IsColumnSetIn now k i bytes (session_of (left_by s v s.waiting))
    column_left = (
      subst (λ o. IsSession (left_by s v o)) none all.0,
      subst (λ x. IsColumnSetIn x k i bytes (session_of (left_by s v s.waiting))) view_is
          (set.0, set.1, set.2, set.3, subst (λ o. AreSetIn i set.1 (set.0).entities bytes (session_of s) (session_of (left_by s v o))) none all.1),
    )

-- ---- the stored queries as they stand in their order
quiet_kind : (i : Id) (k : StoredKind) (q : Query) → is_told k ≡ false → may_tell_set i k q ≡ false
quiet_kind i Kept q h = refl
quiet_kind i Monitor q h = refl
quiet_kind i OnAdd q h = refl
quiet_kind i OnRemove q h = refl
quiet_kind i OnSet q h = absurd (true≢false h)

module _ {A : Type 0} (i : Id) where
  pub any_held : (bs : List (Boxed (StoredQuery A) A)) → list_any (hears i) (map held_of (entries_in bs)) ≡ list_any (hears_set i) bs
  any_held [] = refl
  any_held (b ∷ bs) = ap (λ x. hears_set i b || x) (any_held bs)

  -- where none is notified of commands, none is of this
  pub quiet_all : (bs : List (Boxed (StoredQuery A) A)) → list_any (λ q. is_told q.kind) (map (λ e. e.1) (entries_in bs)) ≡ false → list_any (hears_set i) bs ≡ false
  quiet_all [] told = refl
  quiet_all (b ∷ bs) told =
      let q = b.value.value.value in
      let parts = neither (is_told q.kind) (list_any (λ x. is_told x.kind) (map (λ e. e.1) (entries_in bs))) told in
      let first = quiet_kind i q.kind (q.plan).query parts.0 in
      let rest = quiet_all bs parts.1 in
      λ j. first j || rest j
