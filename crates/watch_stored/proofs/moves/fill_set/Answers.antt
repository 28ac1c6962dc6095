use Rattle.std.specs.Prelude.{◌≡◌, ◌<◌, ◌&&◌, ◌||◌, All, List, ℕ, not}
use Rattle.std.specs.List.Sorted.{IsStrictlyIncreasing}
use Rattle.std.proofs.Common.{subst, ◌∙◌}
use Rattle.entity_set.specs.Members.{Entities}
use Rattle.entity_set.proofs.SetExchanges.{exchanged_members, exchanged_rises}
use Rattle.watch_stored.specs.Moves.{is_among}
use Rattle.watch_stored.specs.Parts.{kept_set}
use Rattle.watch_stored.proofs.KeptRows.{kept_none}
use Rattle.watch_stored.proofs.moves.fill_set.Goals as goal

pub returns-then-has_room-clause-ascends : goal.returns-then-has_room-clause-ascends
returns-then-has_room-clause-ascends g c =
    let rows = c.args.rows.now in
    let these = c.args.these.now in
    subst (λ (es : Entities). IsStrictlyIncreasing es.items) (kept_none rows.these rows.left.items rows.entered.items these c.requires.none) (exchanged_rises rows.left.items rows.entered.items these)

pub returns-then-has_room-clause-members : goal.returns-then-has_room-clause-members
returns-then-has_room-clause-members g c = λ e.
    let rows = c.args.rows.now in
    let these = c.args.these.now in
    let fit = subst (λ (es : List ℕ). All (λ e. e < these.room) es) c.as_slice.ensures (c.has_room.ensures.all.0 c.if-has_room.true) in
    subst (λ (es : Entities). is_among es.items e ≡ ((is_among these.items e && not (is_among rows.left.items e)) || is_among rows.entered.items e))
    (kept_none rows.these rows.left.items rows.entered.items these c.requires.none) (exchanged_members rows.left.items rows.entered.items these c.has_room.ensures.own fit e)

pub returns-clause-ascends : goal.returns-clause-ascends
unfolding kept_set
returns-clause-ascends g c = c.in_ok-moved.ensures.ascends

pub returns-clause-members : goal.returns-clause-members
unfolding kept_set
returns-clause-members g c = λ e.
    c.in_ok-moved.ensures.members e ∙ (λ i. (is_among c.args.these.now.items e && not (is_among (c.as_slice-2.ensures i) e)) || is_among (c.as_slice-3.ensures i) e)
