use Rattle.std.proofs.Common.{◌≡◌, ◌<◌, ◌∙◌, false, length, rules, arith, refl, sym, true≢false}
use Rattle.rel_travel.proofs.Growth.{is_among_tells}
use Rattle.rel_travel.proofs.WorkLists.{IsFollowed-all, IsFollowed-more}
use Rattle.rel_travel.proofs.work_list.go_on_until.Goals as goal

pub loop-found-preserved : goal.loop-found-preserved
loop-found-preserved g c =
    let items = c.loop-found.found.items in
    let l : c.loop-found.done < length items = omega (arith, c.len.ensures.count) in
    let grows = c.loop-found.invariant.grows in
    record {
      size = search rules;
      grows = omega (arith, grows);
      followed = λ start f.
          IsFollowed-more (g.R.Rule.next c.args.rule.now) start items c.follow.new.found.items c.loop-found.done 0 l (c.loop-found.invariant.followed start f) (rw (← c.at.ensures) c.follow.ensures.grown);
    }

-- it is found
pub returns-clause-reached : goal.returns-clause-reached
returns-clause-reached g c = λ start f.
    let tells = is_among_tells c.loop-found.found.items c.args.index in
    let followed = c.loop-found.invariant.followed start f in
    (λ h. followed.sound c.args.index (tells.0 (sym c.is_found.ensures ∙ c.loop-found-test.false)), λ r. refl)

-- all was followed
pub returns-then-len-done-clause-reached : goal.returns-then-len-done-clause-reached
returns-then-len-done-clause-reached g c = λ start f.
    let items = c.loop-found.found.items in
    let tells = is_among_tells items c.args.index in
    let least = IsFollowed-all (g.R.Rule.next c.args.rule.now) start items c.loop-found.done (omega (arith, c.len.ensures.count)) (c.loop-found.invariant.followed start f) in
    let lacks : c.is_found.result ≡ false = search rules in
    (λ h. absurd (true≢false (sym h)), λ r. absurd (true≢false (sym (tells.1 ((least c.args.index).1 r)) ∙ sym c.is_found.ensures ∙ lacks)))
