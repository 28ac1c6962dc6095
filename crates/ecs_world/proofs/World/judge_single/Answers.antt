use Rattle.std.proofs.Common.{None, Some, sym, ◌∙◌}
use Rattle.std.proofs.lemmas.Result.{err_from_is_err_and}
use Rattle.ecs_world.proofs.RefusalReasons.{growth_told, mention_dead, not_dead, set_built_in, set_dead, set_grown, set_valued}
use Rattle.ecs_world.proofs.SimpleFacts.{built_in_alone}
use Rattle.ecs_world.proofs.World.judge_single.Goals as goal

pub returns-then-not-mentions_live-clause-refused : goal.returns-then-not-mentions_live-clause-refused
returns-then-not-mentions_live-clause-refused g c =
    let w = c.args.self.now.state in
    let e = c.args.entity in
    let i = c.args.id in
    let vs = c.args.values.now in
    sym (set_dead w e i vs (mention_dead w e i (sym c.mentions_live.ensures ∙ c.if-not-mentions_live.true)))

pub returns-then-is_fixed-clause-refused : goal.returns-then-is_fixed-clause-refused
returns-then-is_fixed-clause-refused g c =
    let w = c.args.self.now.state in
    let e = c.args.entity in
    let i = c.args.id in
    let vs = c.args.values.now in
    let fixed = built_in_alone w e.index i c.requires.alone ∙ sym c.is_fixed.ensures ∙ c.if-is_fixed.true in
    let alive = not_dead w e i c.requires.alive (sym c.mentions_live.ensures ∙ c.if-not-mentions_live.false) in
    sym (set_built_in w e i vs alive fixed)

pub returns-in_err-size-clause-refused : goal.returns-in_err-size-clause-refused
returns-in_err-size-clause-refused g c =
    let w = c.args.self.now.state in
    let e = c.args.entity in
    let i = c.args.id in
    let vs = c.args.values.now in
    let own = built_in_alone w e.index i c.requires.alone ∙ sym c.is_fixed.ensures ∙ c.if-is_fixed.false in
    let alive = not_dead w e i c.requires.alive (sym c.mentions_live.ensures ∙ c.if-not-mentions_live.false) in
    let p = err_from_is_err_and c.from_residual.result c.from_residual.ensures.1 in
    rw (p.1, p.2) (sym (set_valued w e i vs (Some c.in_err-size.field-0.0) alive
    own (λ none. cc) (sym c.in_err-size.ensures.refused)))

pub returns-in-None-clause-judged : goal.returns-in-None-clause-judged
returns-in-None-clause-judged g c =
    let w = c.args.self.now.state in
    let e = c.args.entity in
    let i = c.args.id in
    let vs = c.args.values.now in
    let own = built_in_alone w e.index i c.requires.alone ∙ sym c.is_fixed.ensures ∙ c.if-is_fixed.false in
    let alive = not_dead w e i c.requires.alive (sym c.mentions_live.ensures ∙ c.if-not-mentions_live.false) in
    sym (set_grown w e i vs None alive own (sym c.in_ok-size.ensures.judged)
    (c.in-None.ensures ∙ growth_told w e i c.args.found.now c.requires.alone c.keeps.ensures c.requires.alive c.requires.held c.requires.count alive own))

pub returns-in-Some-clause-refused : goal.returns-in-Some-clause-refused
returns-in-Some-clause-refused g c =
    let w = c.args.self.now.state in
    let e = c.args.entity in
    let i = c.args.id in
    let vs = c.args.values.now in
    let own = built_in_alone w e.index i c.requires.alone ∙ sym c.is_fixed.ensures ∙ c.if-is_fixed.false in
    let alive = not_dead w e i c.requires.alive (sym c.mentions_live.ensures ∙ c.if-not-mentions_live.false) in
    sym (set_grown w e i vs (Some c.in-Some.refusal) alive own (sym c.in_ok-size.ensures.judged)
    (c.in-Some.ensures ∙ growth_told w e i c.args.found.now c.requires.alone c.keeps.ensures c.requires.alive c.requires.held c.requires.count alive own))
