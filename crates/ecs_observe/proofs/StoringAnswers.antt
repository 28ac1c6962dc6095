-- What the session of the definitions answers to a new stored query, and to the end of one.
use Rattle.std.specs.Prelude.{◌≡◌, ◌≢◌, ℕ, ◌<◌, Bool, true, false, List, [], ◌∷◌, ◌++◌, All, map, flat_map, length, bytes_eq, nat_le, Option, None, Some, is_some, Result, Ok, Err, if◌then◌else◌}
use Rattle.std.specs.List.{find}
use Rattle.std.specs.Option.{option_map_or}
use Rattle.std.specs.Cmp.Lexicographic.{bytes_decides}
use Rattle.std.proofs.Common.{refl, sym, ap, subst, ◌∙◌, arith, true≢false}
use Rattle.std.proofs.lemmas.Bool.Decides.{nat_tests}
use Rattle.std.proofs.lemmas.List.{map-append}
use Rattle.std.proofs.lemmas.List.Elements.{All-cons, All-nil}
use Rattle.query_model.specs.declared.faults.Fault.{Fault}
use Rattle.query_model.specs.Local.{is_local}
use Rattle.query_model.specs.Query.{Query}
use Rattle.ecs_model.specs.declared.faults.SessionRefusal.{SessionRefusal}
use Rattle.ecs_model.specs.declared.faults.SessionRefusal.TheVariants.{EventsPending, Faulty, UnknownQuery}
use Rattle.ecs_model.specs.declared.watches.StoredKind.{StoredKind}
use Rattle.ecs_model.specs.declared.watches.StoredKind.TheVariants.{Monitor}
use Rattle.ecs_model.specs.World.{WorldState}
use Rattle.ecs_model.specs.rows.View.{view_of}
use Rattle.query_meaning.specs.Standing.{IsCurrentIn}
use Rattle.query_meaning.proofs.MentionedEntities.{asked_queries_are_current}
use Rattle.std.specs.List.Sorted.{IsStrictlyIncreasing}
pub use Rattle.ecs_archetypes.proofs.ArchetypeCalls.{none_where as none_there}
use Rattle.ecs_observe.specs.Answers.{AnswersApply}
use Rattle.ecs_observe.specs.declared.errors.SessionError.{SessionError}
use Rattle.ecs_observe.specs.declared.errors.SessionError.TheVariants.{Refused, Memory}
use Rattle.ecs_model.specs.Query.{query_of}
use Rattle.ecs_model.specs.Refusal.{first_reason}
use Rattle.ecs_model.specs.stored.Session.{SessionState, Answer, Drop, Store, apply, free_order, most_stored, pinned_by, store_reasons, stored_at, watched_if_read, with_stored, without_stored}
use Rattle.ecs_model.specs.stored.Watches.{Stored, matching, watched}
use Rattle.watch_stored.specs.Held.{AreThese, Held, IsHeld, IsNow, told_to}
use Rattle.ecs_observe.specs.Standing.{Standing, session_of, stored_of}
use Rattle.ecs_observe.specs.Storing.{AnswersWatched, store_refusal, with_held}
use Rattle.ecs_observe.proofs.NamedQueries.{as_many, first_of, refusal_is, stored_is, waits, world_is}
use Rattle.ecs_observe.proofs.NewQueries.{none_waits}

-- ---- a new stored query

module _ (s : SessionState) (kind : StoredKind) (n text : List ℕ) where
  store_by : apply s (Store kind n text) ≡ option_map_or Err (store_refusal s n) (with_stored s kind n (watched_if_read kind (query_of s.world text)))
  unfolding apply free_order
  store_by = by (is_some s.waiting) (first_reason (store_reasons s n)) (with_stored s kind n (watched_if_read kind (query_of s.world text)))
    where
      by : (b : Bool) (o : Option SessionRefusal) (a : Answer) → (if b then Err EventsPending else option_map_or Err o a) ≡ option_map_or Err (if b then Some EventsPending else o) a
      by true o a = refl
      by false o a = refl

  pub store_refused : (r : SessionRefusal) → store_refusal s n ≡ Some r → apply s (Store kind n text) ≡ Err r
  store_refused r h = store_by ∙ ap (λ o. option_map_or Err o (with_stored s kind n (watched_if_read kind (query_of s.world text)))) h

  accepted_by : (r : Result Query Fault) → store_refusal s n ≡ None → watched_if_read kind (query_of s.world text) ≡ r → apply s (Store kind n text) ≡ with_stored s kind n r
  accepted_by r free h = store_by ∙ (ap (λ o. option_map_or Err o (with_stored s kind n (watched_if_read kind (query_of s.world text)))) free ∙ ap (with_stored s kind n) h)

  pub store_faulty : (f : Fault) → store_refusal s n ≡ None → watched_if_read kind (query_of s.world text) ≡ Err f → apply s (Store kind n text) ≡ Err (Faulty f)
  store_faulty f free h = accepted_by (Err f) free h

-- what a new stored query has where nothing is against it but for its text
module _ (self : Standing) (n : List ℕ) (free : store_refusal (session_of self) n ≡ None) where
  none_against : (a b c d : Bool) → first_of (session_of self) n a b c d ≡ None → (a ≡ false) × (c ≡ false) × (d ≡ false)
  none_against true b c d h = cc
  none_against false false c d h = cc
  none_against false true true d h = cc
  none_against false true false true h = cc
  none_against false true false false h = (refl, refl, refl)

  tests : (is_some (session_of self).waiting ≡ false) × (is_some (stored_at (session_of self) n) ≡ false) × (nat_le most_stored (length (session_of self).stored) ≡ false)
  tests = none_against _ _ _ _ (sym (refusal_is (session_of self) n) ∙ free)

  pub is_idle : self.waiting ≡ None
  is_idle = none_there self.waiting (sym (waits self) ∙ tests.0)

  pub has_room : length self.stored < most_stored
  has_room =
      let few : nat_le most_stored (length self.stored) ≡ false = ap (nat_le most_stored) (sym (as_many self)) ∙ tests.2 in grind (arith, nat_tests)

  none_named : (hs : List Held) → is_some (find (λ x. bytes_eq n x.name) (map stored_of hs)) ≡ false → All (λ h. h.name ≢ n) hs
  none_named [] h = All-nil (λ h. h.name ≢ n)
  none_named (x ∷ hs) h = by (bytes_eq n x.name) refl h (none_named hs)
    where
      by : (b : Bool) → bytes_eq n x.name ≡ b → is_some (if b then Some (stored_of x) else find (λ x. bytes_eq n x.name) (map stored_of hs)) ≡ false
          → (is_some (find (λ x. bytes_eq n x.name) (map stored_of hs)) ≡ false → All (λ h. h.name ≢ n) hs) → All (λ h. h.name ≢ n) (x ∷ hs)
      by true e h rest = absurd (true≢false h)
      by false e h rest = All-cons (λ h. h.name ≢ n) x hs (λ same. true≢false (sym ((bytes_decides n x.name).1 (sym same)) ∙ e)) (rest h)

  pub is_new : All (λ h. h.name ≢ n) self.stored
  is_new = none_named self.stored (ap (λ xs. is_some (find (λ x. bytes_eq n x.name) xs)) (sym (stored_is self)) ∙ tests.1)

  -- and then it is stored
  module _ (kind : StoredKind) (text : List ℕ) (h : Held) (named : h.name ≡ n) (is_kind : h.kind ≡ kind) (asks : query_of (self.world).state text ≡ Ok h.query) (fit : watched kind h.query ≡ Ok h.query) where
    held_session : record (session_of self) { world = pinned_by (session_of self).world (h.query).mentions; stored = (session_of self).stored ++ record { name = n; kind = kind; query = h.query } ∷ [] } ≡ session_of (with_held self h)
    unfolding session_of
    held_session = λ i. record {
      world = pinned_by (self.world).state (h.query).mentions;
      stored = (ap (λ x. map stored_of self.stored ++ x ∷ []) (λ j. record { name = sym named j; kind = sym is_kind j; query = h.query }) ∙ sym (map-append stored_of self.stored (h ∷ []))) i;
      waiting = none_waits self.waiting is_idle (λ changed. flat_map (told_to (self.world).state changed) self.stored) (λ changed. flat_map (told_to (pinned_by (self.world).state (h.query).mentions) changed) (self.stored ++ h ∷ [])) i;
    }

    pub store_done : apply (session_of self) (Store kind n text) ≡ Ok (session_of (with_held self h), None)
    store_done =
        accepted_by (session_of self) kind n text (Ok h.query) free (ap (watched_if_read kind) (ap (λ w. query_of w text) (world_is self) ∙ asks) ∙ fit)
        ∙ ap (λ s. Ok (s, None)) held_session

-- ---- the end of a stored query

module _ (s : SessionState) (n : List ℕ) where
  pub drop_pending : is_some s.waiting ≡ true → apply s (Drop n) ≡ Err EventsPending
  unfolding apply
  drop_pending h = ap (λ b. if b then Err EventsPending else free_order s (Drop n)) h

  drop_by : is_some s.waiting ≡ false → (o : Option Stored) → stored_at s n ≡ o → apply s (Drop n) ≡ option_map_or (λ x. Ok (without_stored s x, None)) o (Err UnknownQuery)
  unfolding apply free_order
  drop_by h o e =
      ap (λ b. if b then Err EventsPending else free_order s (Drop n)) h
      ∙ ap (λ x. option_map_or (λ x. Ok (without_stored s x, None)) x (Err UnknownQuery)) e

  pub drop_unknown : is_some s.waiting ≡ false → stored_at s n ≡ None → apply s (Drop n) ≡ Err UnknownQuery
  drop_unknown h e = drop_by h None e

  pub drop_done : (x : Stored) (t : SessionState) → is_some s.waiting ≡ false → stored_at s n ≡ Some x → t ≡ without_stored s x → apply s (Drop n) ≡ Ok (t, None)
  drop_done x t h e same = drop_by h (Some x) e ∙ ap (λ s. Ok (s, None)) (sym same)

-- ---- what is held of a query that was read

module _ (w : WorldState) (kind : StoredKind) (text : List ℕ) (q : Query) (h : Held) (is_kind : h.kind ≡ kind) (is_query : h.query ≡ q) (asks : query_of w text ≡ Ok q) (fit : watched kind q ≡ Ok q) where
  pub still_fits : watched kind h.query ≡ Ok h.query
  still_fits = ap (watched kind) is_query ∙ (fit ∙ ap Ok (sym is_query))

  pub new_held : (kind ≡ Monitor → IsStrictlyIncreasing h.these) → IsHeld w h
  new_held ascends = record {
    current = subst (IsCurrentIn w) (sym is_query) (asked_queries_are_current w text q asks);
    fit = ap (λ k. watched k h.query) is_kind ∙ still_fits;
    ascends = λ m. ascends (sym is_kind ∙ m);
  }

  pub new_now : AreThese w kind q h.these → IsNow w h
  new_now these = λ m l. these (sym is_kind ∙ m) (ap is_local (sym is_query) ∙ l) ∙ ap (matching (view_of w)) (sym is_query)

-- a query that can't be stored as one of the kind is refused with its fault
pub told_fault : (self : Standing) (kind : StoredKind) (n text : List ℕ) (e : SessionError) → store_refusal (session_of self) n ≡ None → AnswersWatched (self.world).state kind text (Err e)
    → AnswersApply (Err e) (apply (session_of self) (Store kind n text)) self self
told_fault self kind n text (Refused reason) free h = (store_faulty (session_of self) kind n text h.0 free (ap (λ w. watched_if_read kind (query_of w text)) (world_is self) ∙ h.2) ∙ ap Err (sym h.1), refl)
told_fault self kind n text Memory free h = refl
