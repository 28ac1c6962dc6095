-- What a command by names and handles is for a session.
use Rattle.std.specs.Prelude.{◌≡◌, ℕ, true, false, List, Option, is_some, Result, Ok, Err, if◌then◌else◌}
use Rattle.std.specs.Result.{result_map_both}
use Rattle.std.proofs.Common.{ap, subst, sym, ◌∙◌}
use Rattle.ecs_id.specs.declared.EntityId.{EntityId}
use Rattle.ecs_id.specs.Id.{Id}
use Rattle.ecs_model.specs.declared.faults.Refusal.{Refusal}
use Rattle.ecs_model.specs.declared.faults.SessionRefusal.TheVariants.{EventsPending, OfWorld}
use Rattle.ecs_model.specs.Orders.{DeleteOne, EntityRef, IdRef, WorldOrder, command_of, entity_found}
use Rattle.ecs_model.specs.stored.Session.{Answer, InWorld, SessionState, apply, free_order, in_world}
use Rattle.ecs_model.specs.steps.Step.{Command, Delete}
use Rattle.ecs_model.specs.declared.watches.StoredKind.{StoredKind}
use Rattle.ecs_observe.specs.Answers.{AnswersApply, carried_out, none_born}
use Rattle.ecs_observe.specs.Commands.{FindsBoth, FindsIn, FindsOne, answered}
use Rattle.ecs_observe.specs.Following.{ListsOneLess, ListsOneMore}
use Rattle.ecs_observe.specs.Standing.{Standing}
use Rattle.ecs_observe.specs.Storing.{CountsStored}
use Rattle.ecs_observe.specs.declared.applying.Answer as applied
use Rattle.ecs_observe.specs.declared.errors.SessionError.{SessionError}

module _ (s : SessionState) (order : WorldOrder) where
  -- one that means a command of the world
  pub as_obeyed : (c : Command) → command_of s.world order ≡ Ok c → carried_out s c ≡ apply s (InWorld order)
  unfolding apply free_order
  as_obeyed c e = ap (λ r. if is_some s.waiting then Err EventsPending else in_world s r) (sym e)

  -- one whose references are refused
  pub as_refused : (reason : Refusal) → is_some s.waiting ≡ false → command_of s.world order ≡ Err reason → apply s (InWorld order) ≡ Err (OfWorld reason)
  unfolding apply free_order
  as_refused reason none e = ap (λ b. if b then Err EventsPending else in_world s (command_of s.world order)) none ∙ ap (in_world s) e

  -- one while events wait
  pub as_pending : is_some s.waiting ≡ true → apply s (InWorld order) ≡ Err EventsPending
  unfolding apply
  as_pending e = ap (λ b. if b then Err EventsPending else free_order s (InWorld order)) e

module _ (s : SessionState) (r : EntityRef) where
  pub pending_both : (i : IdRef) → is_some s.waiting ≡ true → FindsIn s r i (Err EventsPending)
  pending_both i waits f order means = as_pending s order waits

  pub refused_both : (i : IdRef) (reason : Refusal) → is_some s.waiting ≡ false → FindsBoth s.world r i (Err reason) → FindsIn s r i (Err (OfWorld reason))
  refused_both i reason none finds f order means = as_refused s order reason none (means ∙ finds f)

  pub both_found : (i : IdRef) (both : EntityId × Id) → FindsBoth s.world r i (Ok both) → FindsIn s r i (Ok both)
  both_found i both finds f order means = as_obeyed s order (f both.0 both.1) (means ∙ finds f)

  deletes : (found : Result EntityId Refusal) → found ≡ entity_found s.world r → command_of s.world (DeleteOne r) ≡ result_map_both Delete (λ reason. reason) found
  unfolding command_of
  deletes found e = ap (result_map_both Delete (λ reason. reason)) (sym e)

  pub pending_one : is_some s.waiting ≡ true → FindsOne s r (Err EventsPending)
  pending_one waits = as_pending s (DeleteOne r) waits

  pub refused_one : (reason : Refusal) → is_some s.waiting ≡ false → Err reason ≡ entity_found s.world r → FindsOne s r (Err (OfWorld reason))
  refused_one reason none found = as_refused s (DeleteOne r) reason none (deletes (Err reason) found)

  pub one_found : (e : EntityId) → Ok e ≡ entity_found s.world r → FindsOne s r (Ok e)
  one_found e found = as_obeyed s (DeleteOne r) (Delete e) (deletes (Ok e) found)

-- ---- the answer of a call, as a command answers it

-- a call told as another one that meets an equal answer
pub as_told : (told was : Result (Option EntityId) SessionError) (old new : Standing) (a b : Answer) → told ≡ was → b ≡ a → AnswersApply was b old new → AnswersApply told a old new
as_told told was old new a b same is h = subst (λ r. AnswersApply r a old new) (sym same) (subst (λ x. AnswersApply was x old new) is h)

-- it is accepted where the call is
module _ {T : Type 0} (done : Result T SessionError) (told : Result applied.Answer SessionError) (same : answered told ≡ none_born done) where
  pub more_told : (n : List ℕ) (old new : Standing) → ListsOneMore done n old new → ListsOneMore told n old new
  more_told n old new h = by done told same h
    where
      by : (d : Result T SessionError) (t : Result applied.Answer SessionError) → answered t ≡ none_born d → ListsOneMore d n old new → ListsOneMore t n old new
      by (Ok x) (Ok y) e h = h
      by (Ok x) (Err y) e h = cc
      by (Err x) (Ok y) e h = cc
      by (Err x) (Err y) e h = h

  pub less_told : (n : List ℕ) (old new : Standing) → ListsOneLess done n old new → ListsOneLess told n old new
  less_told n old new h = by done told same h
    where
      by : (d : Result T SessionError) (t : Result applied.Answer SessionError) → answered t ≡ none_born d → ListsOneLess d n old new → ListsOneLess t n old new
      by (Ok x) (Ok y) e h = h
      by (Ok x) (Err y) e h = cc
      by (Err x) (Ok y) e h = cc
      by (Err x) (Err y) e h = h

  pub counts_told : (kind : StoredKind) (text : List ℕ) (old new : Standing) → CountsStored done kind text old new → CountsStored told kind text old new
  counts_told kind text old new h = by done told same h
    where
      by : (d : Result T SessionError) (t : Result applied.Answer SessionError) → answered t ≡ none_born d → CountsStored d kind text old new → CountsStored t kind text old new
      by (Ok x) (Ok y) e h = h
      by (Ok x) (Err y) e h = cc
      by (Err x) (Ok y) e h = cc
      by (Err x) (Err y) e h = h
