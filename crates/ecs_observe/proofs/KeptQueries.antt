-- The kept query of a name, as a session holds it.
use Rattle.std.specs.Prelude.{◌≡◌, ◌≢◌, ⊤, ℕ, All, Bool, true, false, cond, List, [], ◌∷◌, length, map, max, bytes_eq, Option, None, Some, Result, Ok, Err}
use Rattle.std.specs.List.{find}
use Rattle.std.specs.Option.{option_map_or}
use Rattle.std.specs.Map.{lookup}
use Rattle.std.specs.declared.string.String.{String}
use Rattle.std.proofs.Common.{refl, sym, ap, subst, ◌∙◌}
use Rattle.std.proofs.lemmas.List.Elements.{All-head, All-tail}
use Rattle.query_meaning.specs.Standing.{IsCurrentIn}
use Rattle.query_model.specs.Query.{Query}
use Rattle.ecs_model.specs.declared.faults.SessionRefusal.TheVariants.{UnknownQuery}
use Rattle.ecs_model.specs.declared.watches.StoredKind.{StoredKind}
use Rattle.ecs_model.specs.declared.watches.StoredKind.TheVariants.{Kept, Monitor, OnAdd, OnRemove, OnSet}
use Rattle.ecs_model.specs.steps.Outcomes.{Changed}
use Rattle.ecs_model.specs.stored.Session.{if_kept, kept_query, stored_at}
use Rattle.ecs_model.specs.stored.Watches.{Stored}
use Rattle.ecs_model.specs.World.{WorldState}
use Rattle.ecs_model.specs.rows.Text.{rows_text}
use Rattle.ecs_world.specs.Standing as world
use Rattle.world_query.specs.Lines.{lines_of_rows}
use Rattle.world_query.specs.Sent.{HoldsOneLine, IsSent, StopsSending}
use Rattle.world_query.specs.declared.sending.SendError.TheVariants as send
use Rattle.ecs_observe.specs.Answers.{SendsKept, SendsRows}
use Rattle.ecs_observe.specs.declared.errors.SendRowsError.{SendRowsError}
use Rattle.ecs_observe.specs.declared.errors.SendRowsError.TheVariants as rows
use Rattle.watch_stored.specs.declared.stored.StoredQuery.{StoredQuery}
use Rattle.ecs_observe.specs.Parts.{held_of}
use Rattle.watch_stored.specs.Held.{Held, IsHeld}
use Rattle.ecs_observe.specs.Standing.{IsSession, Standing, session_of, stored_of}
use Rattle.ecs_observe.proofs.NamedQueries.{holds_of_found, is_key, named, none_found, seen, some_found, stored_is, world_is}

module _ (w : WorldState) (n : List ℕ) (q : Query) where
  of_kind : (k : StoredKind) (p : Query) → IsCurrentIn w p → if_kept k p ≡ Ok q → IsCurrentIn w q
  of_kind Kept p current e =
      let same : Ok p ≡ Ok q = e in
      let one : p ≡ q = cc in
      subst (IsCurrentIn w) one current
  of_kind Monitor p current e = let no : Err UnknownQuery ≡ Ok q = e in cc
  of_kind OnAdd p current e = let no : Err UnknownQuery ≡ Ok q = e in cc
  of_kind OnRemove p current e = let no : Err UnknownQuery ≡ Ok q = e in cc
  of_kind OnSet p current e = let no : Err UnknownQuery ≡ Ok q = e in cc

  find_current : (hs : List Held) → All (IsHeld w) hs → option_map_or (λ x. if_kept x.kind x.query) (find (λ x. bytes_eq n x.name) (map stored_of hs)) (Err UnknownQuery) ≡ Ok q → IsCurrentIn w q
  find_current [] all e = let no : Err UnknownQuery ≡ Ok q = e in cc
  find_current (h ∷ hs) all e = by (bytes_eq n h.name) e (find_current hs (All-tail (IsHeld w) h hs all))
    where
      by : (b : Bool) → option_map_or (λ x. if_kept x.kind x.query) (cond b (Some (stored_of h)) (find (λ x. bytes_eq n x.name) (map stored_of hs))) (Err UnknownQuery) ≡ Ok q
          → (option_map_or (λ x. if_kept x.kind x.query) (find (λ x. bytes_eq n x.name) (map stored_of hs)) (Err UnknownQuery) ≡ Ok q → IsCurrentIn w q) → IsCurrentIn w q
      by true e rest = of_kind h.kind h.query (All-head (IsHeld w) h hs all).current e
      by false e rest = rest e

-- the kept query of a name is current
pub kept_current : (s : Standing) → IsSession s → (n : List ℕ) (q : Query) → kept_query (session_of s) n ≡ Ok q → IsCurrentIn (s.world).state q
unfolding session_of
kept_current s session n q kept = find_current (s.world).state n q s.stored session.held kept

module _ {A : Type 0} (self : Standing) (w : world.Standing) (es : List (String A × StoredQuery A)) (waiting : Option Changed) (compared : ℕ) (n : List ℕ) (view : self ≡ seen w es waiting compared) where
  pub stored_there : stored_at (session_of self) n ≡ find (λ x. bytes_eq n x.name) (map stored_of (map held_of es))
  stored_there = ap (find (λ x. bytes_eq n x.name)) (stored_is self ∙ ap (λ (s : Standing). map stored_of s.stored) view)

  kept_by : (o : Option Stored) → stored_at (session_of self) n ≡ o → kept_query (session_of self) n ≡ option_map_or (λ x. if_kept x.kind x.query) o (Err UnknownQuery)
  kept_by o e = ap (λ x. option_map_or (λ x. if_kept x.kind x.query) x (Err UnknownQuery)) e

  pub none_kept : lookup (is_key n) es ≡ None → kept_query (session_of self) n ≡ Err UnknownQuery
  none_kept h = kept_by None (stored_there ∙ none_found n es h)

  module _ (s : StoredQuery A) (there : lookup (is_key n) es ≡ Some s) where
    pub kept_is : kept_query (session_of self) n ≡ if_kept s.kind (s.plan).query
    kept_is = kept_by (Some (stored_of (named n s))) (stored_there ∙ some_found n es s there)

    pub kept_found : s.kind ≡ Kept → kept_query (session_of self) n ≡ Ok (s.plan).query
    kept_found k = kept_is ∙ ap (λ k. if_kept k (s.plan).query) k

    pub other_kind : s.kind ≢ Kept → kept_query (session_of self) n ≡ Err UnknownQuery
    other_kind k = kept_is ∙ by s.kind k
      where
        by : (k : StoredKind) → k ≢ Kept → if_kept k (s.plan).query ≡ Err UnknownQuery
        by Kept other = absurd (other refl)
        by Monitor other = refl
        by OnAdd other = refl
        by OnRemove other = refl
        by OnSet other = refl

    -- it is current
    pub current_found : IsSession (seen w es waiting compared) → IsCurrentIn (self.world).state (s.plan).query
    current_found h = subst (λ (t : Standing). IsCurrentIn (t.world).state (s.plan).query) (sym view) (holds_of_found n (IsHeld w.state) es s h.held there).current

    seen_world : w.state ≡ (session_of self).world
    seen_world = sym (ap (λ (t : Standing). (t.world).state) view) ∙ sym (world_is self)

    -- and it is asked for its rows
    pub sends_answered : {T : Type 0} (most : ℕ) (r : Result T SendRowsError) (o p : Option (List ℕ)) (before after : List ℕ) → SendsRows most r s w.state o p before after
        → SendsKept most r (session_of self) n o p before after
    sends_answered most (Ok x) o p before after done = ((s.plan).query, kept_found done.0, subst (λ v. IsSent o p before after (rows_text v (s.plan).query)) seen_world done.1)
    sends_answered most (Err (rows.Refused reason)) o p before after refused = (other_kind refused.0 ∙ ap Err (sym refused.1), refused.2, refused.3)
    sends_answered most (Err (rows.Unsent send.Memory)) o p before after stopped =
        ((s.plan).query, kept_found stopped.0, subst (λ v. StopsSending ⊤ o p before after (rows_text v (s.plan).query)) seen_world stopped.1)
    sends_answered most (Err (rows.Unsent send.Write)) o p before after stopped = (
      (s.plan).query,
      kept_found stopped.0,
      subst (λ v. StopsSending ⊥ o p before after (rows_text v (s.plan).query)) seen_world stopped.1,
      subst (λ v. HoldsOneLine (max most (length before)) (lines_of_rows v (s.plan).query) after) seen_world stopped.2,
    )
