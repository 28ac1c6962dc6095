-- Each whom a list mentions is counted once more.
use Rattle.std.specs.Prelude.{◌≡◌, ℕ, ◌+◌, ◌<◌, true, false, Bool, List, take, get_or, length, Result, Ok, Err, if◌then◌else◌}
use Rattle.std.proofs.Common.{sym, ap, ◌∙◌}
use Rattle.std.proofs.lemmas.List.Sums.{fold_more}
use Rattle.ecs_id.specs.declared.EntityId.{EntityId}
use Rattle.ecs_model.specs.declared.faults.Refusal.{Refusal}
use Rattle.ecs_model.specs.declared.faults.Refusal.TheVariants.{Dead}
use Rattle.ecs_model.specs.World.{WorldState, is_alive}
use Rattle.ecs_model.specs.stored.Session.{pinned_by}
use Rattle.ecs_model.specs.steps.Pins.{one_more, pin, with_pins}
use Rattle.ecs_world.specs.Standing.{AnswersPin}
use Rattle.query_model.specs.declared.query.Mention.{Mention}
use Rattle.watch_concerns.proofs.PinChanges.{AreAlive, pinned_alone}

-- a call of whoever lives counts one more
is_pinned : {T : Type 0} (r : Result T Refusal) (w v : WorldState) (e : EntityId) → AnswersPin r (pin w e) w v → is_alive w e ≡ true → v ≡ with_pins w one_more e.index
unfolding pin
is_pinned (Ok x) w v e h alive = by (is_alive w e) alive h
  where
    by : (b : Bool) → b ≡ true → (if b then Ok (with_pins w one_more e.index) else Err Dead) ≡ Ok v → v ≡ with_pins w one_more e.index
    by true lives h = cc
    by false lives h = cc
is_pinned (Err x) w v e h alive = by (is_alive w e) alive h.0
  where
    by : (b : Bool) → b ≡ true → (if b then Ok (with_pins w one_more e.index) else Err Dead) ≡ Err x → v ≡ with_pins w one_more e.index
    by true lives h = cc
    by false lives h = cc

pub one_more_pinned : {T : Type 0} (r : Result T Refusal) (start w v : WorldState) (ms : List Mention) (k : ℕ) (m : Mention) → AreAlive start ms → k < length ms
    → w ≡ pinned_by start (take k ms) → AnswersPin r (pin w (get_or ms k m).entity) w v → v ≡ pinned_by start (take (k + 1) ms)
one_more_pinned r start w v ms k m alive within so h =
    let still : is_alive w (get_or ms k m).entity ≡ true = ap (λ (u : WorldState). is_alive u (get_or ms k m).entity) (so ∙ pinned_alone start (take k ms)) ∙ alive k m within in
    is_pinned r w v (get_or ms k m).entity h still
    ∙ (ap (λ u. with_pins u one_more ((get_or ms k m).entity).index) so ∙ sym (fold_more (λ (v : WorldState) (x : Mention). with_pins v one_more (x.entity).index) start ms k m within))
