use Rattle.std.proofs.Common.{◌∙◌, arith, refl, sym, true≢false}
use Rattle.rel_travel.proofs.SearchRounds.{found_reached, lacking_not_reached}
use Rattle.rel_travel.proofs.spread.Spread.tells.Goals as goal

-- it is found
pub returns-then-is_found : goal.returns-then-is_found
returns-then-is_found g c = λ next sought.
    let s = c.args.self.now in
    let for = c.asks_for.ensures.sought next c.if-not-asks_for.false sought in
    (λ h. found_reached next c.args.start c.args.index s.is_alone s.found.items s.done for (sym c.is_found.ensures ∙ c.if-is_found.true), λ r. refl)

-- all was followed
pub returns-then-len-self : goal.returns-then-len-self
returns-then-len-self g c = λ next sought.
    let s = c.args.self.now in
    let for = c.asks_for.ensures.sought next c.if-not-asks_for.false sought in
    let lacks = lacking_not_reached next c.args.start c.args.index s.is_alone s.found.items s.done for (omega (arith, c.len.ensures.count)) (sym c.is_found.ensures ∙ c.if-is_found.false) in
    (λ h. absurd (true≢false (sym h)), λ r. absurd (lacks r))
