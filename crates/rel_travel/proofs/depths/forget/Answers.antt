use Rattle.std.proofs.Common.{◌≡◌, ◌<◌, get_or, length, subst, sym, take, arith}
use Rattle.std.specs.List.{Contains}
use Rattle.std.proofs.lemmas.List.{take_all}
use Rattle.std.proofs.lemmas.List.Elements.{Contains-get_or}
use Rattle.rel_travel.proofs.DepthWalks.{all_forgotten, forgotten_more, still_noted}
use Rattle.rel_travel.proofs.depths.forget.Goals as goal

pub loop-index-init : goal.loop-index-init
loop-index-init c = record { taken = λ i h. absurd (omega (arith, h.1)); noted = c.requires.noted }

pub bounds-words-index : goal.bounds-words-index
bounds-words-index c =
    let noted = c.args.noted.now in
    let k = c.loop-index.index-index in
    let low = c.requires.within (get_or noted k 0) (Contains-get_or noted k 0 c.loop-index-test.true) in
    omega (arith, low, c.loop-index.auto.words)

pub loop-index-preserved : goal.loop-index-preserved
loop-index-preserved c =
    let noted = c.args.noted.now in
    let k = c.loop-index.index-index in
    let words = c.loop-index.words in
    let there = c.requires.within (get_or noted k 0) (Contains-get_or noted k 0 c.loop-index-test.true) in
    let low : get_or noted k 0 < length words = omega (arith, there, c.loop-index.auto.words) in
    record {
      taken = forgotten_more words noted k c.loop-index-test.true low c.loop-index.invariant.taken;
      noted = still_noted words noted (get_or noted k 0) low c.loop-index.invariant.noted;
    }

pub returns : goal.returns
returns c =
    let noted = c.args.noted.now in
    let whole : take c.loop-index.index-index noted ≡ noted = take_all c.loop-index.index-index noted (omega arith) in
    all_forgotten c.loop-index.words noted (λ i h. c.loop-index.invariant.taken i (subst (λ xs. Contains xs i) (sym whole) h)) c.loop-index.invariant.noted
