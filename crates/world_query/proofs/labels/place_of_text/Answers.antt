-- A text stands where it was found, and where it was looked up.
use Rattle.std.proofs.Common.{◌≡◌, true, ap, arith, below_more, get_or, ◌∙◌}
use Rattle.std.proofs.lemmas.List.{get_or_default}
use Rattle.std.proofs.lemmas.List.Elements.{All-set}
use Rattle.world_query.specs.Lines.{IsKept}
use Rattle.world_query.specs.declared.labels.EntityText.{EntityText}
use Rattle.world_query.proofs.KeptTexts.{asked_anew, asked_known, found_at, kept_whole, looked_up_at}
use Rattle.world_query.proofs.labels.place_of_text.Goals as goal

pub returns-then-is_of-clause-place : goal.returns-then-is_of-clause-place
returns-then-is_of-clause-place g c =
    found_at c.args.world.now.state c.args.texts.now c.args.entity c.args.place c.index-texts-place.result c.requires.texts c.requires.place (c.is_of.ensures.0 c.if-is_of.true) (omega arith)

pub returns-then-is_of-2-clause-place : goal.returns-then-is_of-2-clause-place
returns-then-is_of-2-clause-place g c =
    found_at c.args.world.now.state c.args.texts.now c.args.entity c.loop-before.before c.index-texts-before.result c.requires.texts (omega arith) (c.is_of-in-loop-before.ensures.0 c.if-is_of-2.true) (omega arith)

pub returns-clause-texts : goal.returns-clause-texts
returns-clause-texts g c =
    let w = c.args.world.now.state in
    let new = c.change_to.new.self in
    All-set (IsKept w) c.args.texts.now c.args.place new (kept_whole w new c.in_ok-change_to.ensures.text) c.requires.texts

pub returns-clause-place : goal.returns-clause-place
returns-clause-place g c =
    looked_up_at c.args.world.now.state c.args.texts.now c.args.entity c.args.place c.change_to.new.self c.requires.place c.in_ok-change_to.ensures.index c.in_ok-change_to.ensures.text

pub returns-then-is_of-clause-once : goal.returns-then-is_of-clause-once
returns-then-is_of-clause-once g c = asked_known c.args.texts.now c.args.entity c.args.place

pub returns-then-is_of-2-clause-once : goal.returns-then-is_of-2-clause-once
returns-then-is_of-2-clause-once g c = asked_known c.args.texts.now c.args.entity c.args.place

pub loop-before-preserved : goal.loop-before-preserved
loop-before-preserved g c =
    below_more (λ n. (t : EntityText g.row.B.Denot) → (get_or c.args.texts.now n t).index ≡ c.args.entity → ⊥) c.loop-before.before c.loop-before.invariant
    (λ t of.
    let told : c.is_of-in-loop-before.result ≡ true = c.is_of-in-loop-before.ensures.1 (ap (λ x. x.index) (get_or_default c.args.texts.now c.loop-before.before c.index-texts-before.result t (omega arith)) ∙ of) in
    cc (told, c.if-is_of-2.false))

pub returns-clause-once : goal.returns-clause-once
returns-clause-once g c =
    asked_anew c.args.texts.now c.args.entity c.args.place c.index-texts-place.result c.change_to.new.self c.requires.place
    (λ k lt. c.loop-before.invariant k (omega arith))
    (λ of.
    let told : c.is_of.result ≡ true = c.is_of.ensures.1 of in
    cc (told, c.if-is_of.false))
