use Rattle.std.specs.Prelude.{◌==◌, false, flat_map, true, if◌then◌else◌}
use Rattle.std.proofs.Common.{◌≡◌, ◌<◌, ◌≤◌, [], List, ℕ, ap, arith, get_or, length, subst, sym, ◌∙◌}
use Rattle.std.proofs.lemmas.Bool.{eqb-true}
use Rattle.std.proofs.lemmas.Result.{IfOk-weaker}
use Rattle.id_pattern.specs.Patterns.{matches}
use Rattle.ecs_id.specs.Id.{Id}
use Rattle.ecs_model.proofs.steps.LivingIds.{refuted}
use Rattle.ecs_model.specs.World.{Key}
use Rattle.watch_asked.specs.declared.steps.LinkStep.{LinkStep}
use Rattle.watch_touched.specs.Leaning.{Adds, leaning, target_of}
use Rattle.watch_touched.specs.Steps.{behind_gone, behind_target, found_behind, gone_target, targets_back}
use Rattle.watch_touched.specs.Searches.{leads, this_behind}
use Rattle.watch_touched.proofs.GrownLists.{already, fails_as_pair, given, no_target}
use Rattle.watch_touched.proofs.RoleWalks.{at_this, behind_back, behind_found, behind_step, only_this, step_elsewhere, step_here, steps_rise, walked, whole}
use Rattle.watch_touched.proofs.StepsBack.{behind_one, gone_elsewhere, gone_from_it, nobody, none_behind}
use Rattle.watch_touched.proofs.roles.Walk.+behind.Goals as goal

-- ---- behind one

pub push_behind-returns-then-variable-eq0 : goal.push_behind-returns-then-variable-eq0
push_behind-returns-then-variable-eq0 g t c done n low =
    let q = c.args.self.now.query.now in
    let w = c.args.self.now.world.now.state in
    let start = c.args.moving.now.items in
    let after = c.push_if_matching.new.found.items in
    subst (λ v. Adds (found_behind q w c.args.self.now.changes.now n v c.args.entity) start after) (sym c.if-variable-eq0.true)
    (subst (λ (xs : List ℕ). Adds xs start after) (sym (only_this q w c.args.self.now.changes.now n c.args.entity)) c.in_ok-push_if_matching.ensures)

pub push_behind-each-init : goal.push_behind-each-init
push_behind-each-init g t c n low = already [] c.args.moving.now.items (λ e m. absurd (omega (arith, m.1)))

pub push_behind-each-preserved-then-not-leads_to : goal.push_behind-each-preserved-then-not-leads_to
push_behind-each-preserved-then-not-leads_to g t c n low =
    let q = c.args.self.now.query.now in
    let w = c.args.self.now.world.now.state in
    let changed = c.args.self.now.changes.now in
    let others = (c.args.self.now.asked.now.others).items in
    let all = (c.args.self.now.asked.now.steps).items in
    let v = c.args.variable in
    let y = c.args.entity in
    let s : LinkStep = c.step-item.result in
    let found = c.each.moving.items in
    let next = behind_step q w changed others n v y in
    let inside : c.each.step-index < length all = omega (arith, c.each-test.true, ap length c.steps-step-items.ensures) in
    let is = c.step-item.is ∙ ap (λ xs. get_or xs c.each.step-index s) c.steps-step-items.ensures in
    given next all c.each.step-index inside s c.args.moving.now.items found found (c.each.invariant n low)
    (subst (λ (x : LinkStep). Adds (next x) found found) is (step_elsewhere q w changed others n v y s found (sym c.leads_to.ensures ∙ c.if-not-leads_to.true)))

pub push_behind-each-preserved : goal.push_behind-each-preserved
push_behind-each-preserved g t c n low =
    let q = c.args.self.now.query.now in
    let w = c.args.self.now.world.now.state in
    let changed = c.args.self.now.changes.now in
    let asked = c.args.self.now.asked.now in
    let others = (asked.others).items in
    let all = (asked.steps).items in
    let v = c.args.variable in
    let y = c.args.entity in
    let s : LinkStep = c.step-item.result in
    let found = c.each.moving.items in
    let after = c.push_by_step.new.moving.items in
    let next = behind_step q w changed others n v y in
    let inside : c.each.step-index < length all = omega (arith, c.each-test.true, ap length c.steps-step-items.ensures) in
    let is = c.step-item.is ∙ ap (λ xs. get_or xs c.each.step-index s) c.steps-step-items.ensures in
    let here : (s.to == v) ≡ true = sym c.leads_to.ensures ∙ c.if-not-leads_to.false in
    let to : s.to ≡ v = eqb-true s.to v here in
    let rises : s.from < s.to = steps_rise q asked c.requires.asked s (c.each.step-index, inside, sym is) in
    let lower : s.from ≤ n = omega (arith, rises, to, low) in
    given next all c.each.step-index inside s c.args.moving.now.items found after (c.each.invariant n low)
    (subst (λ (x : LinkStep). Adds (next x) found after) is (step_here q w changed others n v y s found after here (c.in_ok-push_by_step.ensures c.if-not-branch.false n lower)))

pub push_behind-push_by_step-requires : goal.push_behind-push_by_step-requires
push_behind-push_by_step-requires g t c κs within =
    let asked = c.args.self.now.asked.now in
    let all = (asked.steps).items in
    let s : LinkStep = c.step-item.result in
    let inside : c.each.step-index < length all = omega (arith, c.each-test.true, ap length c.steps-step-items.ensures) in
    let is = c.step-item.is ∙ ap (λ xs. get_or xs c.each.step-index s) c.steps-step-items.ensures in
    let to : s.to ≡ c.args.variable = eqb-true s.to c.args.variable (sym c.leads_to.ensures ∙ c.if-not-leads_to.false) in
    let rises : s.from < s.to = steps_rise c.args.self.now.query.now asked c.requires.asked s (c.each.step-index, inside, sym is) in
    (omega (arith, rises, to), (within.0, (within.1, c.requires.asked)))

pub push_behind-returns : goal.push_behind-returns
push_behind-returns g t c done n low =
    let q = c.args.self.now.query.now in
    let w = c.args.self.now.world.now.state in
    let changed = c.args.self.now.changes.now in
    let asked = c.args.self.now.asked.now in
    let all = (asked.steps).items in
    let v = c.args.variable in
    let y = c.args.entity in
    let start = c.args.moving.now.items in
    let found = c.each.moving.items in
    let over : length all ≤ c.each.step-index = omega (arith, c.each-test.false, ap length c.steps-step-items.ensures) in
    let other : (v == 0) ≡ false = refuted (v == 0) (λ h. let first : v ≡ 0 = eqb-true v 0 h in absurd (omega (arith, first, c.if-variable-eq0.false))) in
    walked q w changed asked c.requires.asked n v y start found other low
    (λ m under. whole (behind_step q w changed (asked.others).items m v y) all c.each.step-index start found over (c.each.invariant m under))

-- ---- by one step

pub push_by_step-push_behind_holders-requires : goal.push_by_step-push_behind_holders-requires
push_by_step-push_behind_holders-requires g t c κs within = (omega arith, (within.0, (within.1, c.requires.asked)))

pub push_by_step-returns-then-is_outward : goal.push_by_step-returns-then-is_outward
push_by_step-returns-then-is_outward g t c =
    let q = c.args.self.now.query.now in
    let w = c.args.self.now.world.now.state in
    let changed = c.args.self.now.changes.now in
    let s = c.args.back.step.now in
    let y = c.args.back.entity in
    let holders = leaning (leads c.args.self.now s) w y in
    IfOk-weaker c.push_behind_holders.result _ _
    (λ b adds done n low.
    subst (λ b. Adds (flat_map (found_behind q w changed n s.from) (if b then holders else targets_back q w changed.went s y)) c.args.moving.now.items c.push_behind_holders.new.moving.items)
    (sym c.if-is_outward.true ∙ c.is_outward.ensures) (adds done n low))
    c.push_behind_holders.ensures

pub push_by_step-push_behind_targets-requires : goal.push_by_step-push_behind_targets-requires
push_by_step-push_behind_targets-requires g t c κs within = (omega arith, (within.0, (within.1, c.requires.asked)))

pub push_by_step-push_behind_gone-requires : goal.push_by_step-push_behind_gone-requires
push_by_step-push_behind_gone-requires g t c κs within = (omega arith, (within.0, (within.1, c.requires.asked)))

pub push_by_step-returns : goal.push_by_step-returns
push_by_step-returns g t c =
    let q = c.args.self.now.query.now in
    let w = c.args.self.now.world.now.state in
    let changed = c.args.self.now.changes.now in
    let s = c.args.back.step.now in
    let y = c.args.back.entity in
    let start = c.args.moving.now.items in
    let between = c.push_behind_targets.new.moving.items in
    let after = c.push_behind_gone.new.moving.items in
    let holders = leaning (leads c.args.self.now s) w y in
    IfOk-weaker c.push_behind_gone.result _ _
    (λ b adds done n low.
    let held = subst (λ (ids : List Id). Adds (flat_map (behind_target q w changed n s) ids) start between) c.ids_at-ids.ensures (c.in_ok-push_behind_targets.ensures c.if-not-branch.false n low) in
    subst (λ b. Adds (flat_map (found_behind q w changed n s.from) (if b then holders else targets_back q w changed.went s y)) start after) (sym c.if-is_outward.false ∙ c.is_outward.ensures)
    (behind_back q w changed n y s start between after held (adds done n low)))
    c.push_behind_gone.ensures

-- ---- behind those who hold a pair with it

pub push_behind_holders-returns-then-variable-eq0 : goal.push_behind_holders-returns-then-variable-eq0
push_behind_holders-returns-then-variable-eq0 g t c =
    let q = c.args.self.now.query.now in
    let w = c.args.self.now.world.now.state in
    let changed = c.args.self.now.changes.now in
    let s = c.args.back.step.now in
    let holders = leaning (leads c.args.self.now s) w c.args.back.entity in
    IfOk-weaker c.push_holders.result _ _
    (λ b adds done n low. at_this q w changed n s.from holders c.args.moving.now.items c.push_holders.new.found.items (sym c.from-variable.ensures ∙ c.if-variable-eq0.true) (adds done))
    c.push_holders.ensures

pub push_behind_holders-push_behind_all-requires : goal.push_behind_holders-push_behind_all-requires
push_behind_holders-push_behind_all-requires g t c κs within = (omega (arith, c.from-variable.ensures), (within.0, (within.1, c.requires.asked)))

pub push_behind_holders-returns : goal.push_behind_holders-returns
push_behind_holders-returns g t c =
    let q = c.args.self.now.query.now in
    let w = c.args.self.now.world.now.state in
    let changed = c.args.self.now.changes.now in
    let s = c.args.back.step.now in
    let u : ℕ = c.from-variable.result in
    let between = c.push_holders-2.new.found.items in
    let start = c.args.moving.now.items in
    let after = c.push_behind_all.new.moving.items in
    let holders = leaning (leads c.args.self.now s) w c.args.back.entity in
    let back = c.in_ok-push_holders.ensures c.if-not-branch.false in
    IfOk-weaker c.push_behind_all.result _ _
    (λ b adds done n low.
    let under : u ≤ n = omega (arith, c.from-variable.ensures, low) in
    let all = subst (λ (es : List ℕ). Adds (flat_map (found_behind q w changed n u) es) start after) c.as_slice-entities.ensures (adds done n under) in
    subst (λ v. Adds (flat_map (found_behind q w changed n v) holders) start after) c.from-variable.ensures
    (behind_found (found_behind q w changed n u) holders c.new-between.result.items between start after back all))
    c.push_behind_all.ensures

-- ---- behind the targets of pairs that it holds

pub push_behind_targets-loop-id-init : goal.push_behind_targets-loop-id-init
push_behind_targets-loop-id-init g t c n low = already [] c.args.moving.now.items (λ e m. absurd (omega (arith, m.1)))

pub push_behind_targets-push_behind_target-requires : goal.push_behind_targets-push_behind_target-requires
push_behind_targets-push_behind_target-requires g t c κs within = (omega arith, (within.0, (within.1, c.requires.asked)))

pub push_behind_targets-loop-id-preserved : goal.push_behind_targets-loop-id-preserved
push_behind_targets-loop-id-preserved g t c n low =
    let next = behind_target c.args.self.now.query.now c.args.self.now.world.now.state c.args.self.now.changes.now n c.args.step.now in
    let found = c.loop-id.moving.items in
    let after = c.push_behind_target.new.moving.items in
    given next c.args.ids.now c.loop-id.id-index c.loop-id-test.true c.id-item.result c.args.moving.now.items found after (c.loop-id.invariant n low)
    (subst (λ i. Adds (next i) found after) c.id-item.is (c.in_ok-push_behind_target.ensures c.if-not-branch.false n low))

pub push_behind_targets-returns : goal.push_behind_targets-returns
push_behind_targets-returns g t c done n low =
    whole (behind_target c.args.self.now.query.now c.args.self.now.world.now.state c.args.self.now.changes.now n c.args.step.now) c.args.ids.now c.loop-id.id-index c.args.moving.now.items c.loop-id.moving.items
    c.loop-id-test.false (c.loop-id.invariant n low)

-- ---- behind those of pairs that went from it

pub push_behind_gone-facts-init : goal.push_behind_gone-facts-init
push_behind_gone-facts-init g t c n low = already [] c.args.moving.now.items (λ e m. absurd (omega (arith, m.1)))

pub push_behind_gone-facts-preserved-then-entity : goal.push_behind_gone-facts-preserved-then-entity
push_behind_gone-facts-preserved-then-entity g t c n low =
    let q = c.args.self.now.query.now in
    let w = c.args.self.now.world.now.state in
    let changed = c.args.self.now.changes.now in
    let s = c.args.back.step.now in
    let k : Key = c.fact-item.result in
    let next = behind_gone q w changed n s c.args.back.entity in
    let found = c.facts.moving.items in
    given next c.went-went.result.now c.facts.fact-index c.facts-test.true k c.args.moving.now.items found found (c.facts.invariant n low)
    (subst (λ (x : Key). Adds (next x) found found) c.fact-item.is
    (none_behind (found_behind q w changed n s.from) (gone_target s c.args.back.entity k) found
    (gone_elsewhere s c.args.back.entity k (λ same. absurd (omega (arith, c.if-entity.true, c.entity.ensures, same))))))

pub push_behind_gone-push_behind_target-requires : goal.push_behind_gone-push_behind_target-requires
push_behind_gone-push_behind_target-requires g t c κs within = (omega arith, (within.0, (within.1, c.requires.asked)))

pub push_behind_gone-facts-preserved : goal.push_behind_gone-facts-preserved
push_behind_gone-facts-preserved g t c n low =
    let q = c.args.self.now.query.now in
    let w = c.args.self.now.world.now.state in
    let changed = c.args.self.now.changes.now in
    let s = c.args.back.step.now in
    let y = c.args.back.entity in
    let k : Key = c.fact-item.result in
    let next = behind_gone q w changed n s y in
    let found = c.facts.moving.items in
    let after = c.push_behind_target.new.moving.items in
    let adds = subst (λ i. Adds (behind_target q w changed n s i) found after) c.id.ensures (c.in_ok-push_behind_target.ensures c.if-not-branch.false n low) in
    let same : k.0 ≡ y = omega (arith, c.entity.ensures, c.if-entity.false) in
    given next c.went-went.result.now c.facts.fact-index c.facts-test.true k c.args.moving.now.items found after (c.facts.invariant n low)
    (subst (λ (x : Key). Adds (next x) found after) c.fact-item.is
    (subst (λ (xs : List ℕ). Adds (flat_map (found_behind q w changed n s.from) xs) found after) (sym (gone_from_it s y k same)) adds))

pub push_behind_gone-returns : goal.push_behind_gone-returns
push_behind_gone-returns g t c done n low =
    let next = behind_gone c.args.self.now.query.now c.args.self.now.world.now.state c.args.self.now.changes.now n c.args.back.step.now c.args.back.entity in
    let ks : List Key = c.went-went.result.now in
    let start = c.args.moving.now.items in
    let found = c.facts.moving.items in
    subst (λ (xs : List Key). Adds (flat_map next xs) start found) c.went-went.ensures (whole next ks c.facts.fact-index start found c.facts-test.false (c.facts.invariant n low))

-- ---- behind the target of one pair

pub push_behind_target-returns-in_default : goal.push_behind_target-returns-in_default
push_behind_target-returns-in_default g t c done n low =
    let p = matches c.args.step.now.asked in
    none_behind (this_behind c.args.self.now n c.args.step.now.from) (target_of p c.args.id) c.args.moving.now.items
    (nobody (target_of p c.args.id) (no_target p c.args.id [] (sym c.second.ensures.value ∙ c.in_default.is)))

pub push_behind_target-returns-then-not-matches : goal.push_behind_target-returns-then-not-matches
push_behind_target-returns-then-not-matches g t c done n low =
    let p = matches c.args.step.now.asked in
    none_behind (this_behind c.args.self.now n c.args.step.now.from) (target_of p c.args.id) c.args.moving.now.items
    (nobody (target_of p c.args.id) (fails_as_pair p c.args.id [] (sym c.matches.ensures ∙ c.if-not-matches.true)))

pub push_behind_target-push_behind-requires : goal.push_behind_target-push_behind-requires
push_behind_target-push_behind-requires g t c κs within = (omega (arith, c.from.ensures), (within.0, (within.1, c.requires.asked)))

pub push_behind_target-returns : goal.push_behind_target-returns
push_behind_target-returns g t c =
    let q = c.args.self.now.query.now in
    let w = c.args.self.now.world.now.state in
    let changed = c.args.self.now.changes.now in
    let s = c.args.step.now in
    let x = c.in-Some.target in
    let start = c.args.moving.now.items in
    let after = c.push_behind.new.moving.items in
    IfOk-weaker c.push_behind.result _ _
    (λ b adds done n low.
    let found = subst (λ v. Adds (found_behind q w changed n v x) start after) c.from.ensures (adds done n (omega (arith, c.from.ensures, low))) in
    behind_one (found_behind q w changed n s.from) (matches s.asked) c.args.id x start after (sym c.second.ensures.value ∙ c.in-Some.is) (sym c.matches.ensures ∙ c.if-not-matches.false) found)
    c.push_behind.ensures

-- ---- behind each of some

pub push_behind_all-loop-entity-init : goal.push_behind_all-loop-entity-init
push_behind_all-loop-entity-init g t c n low = already [] c.args.moving.now.items (λ e m. absurd (omega (arith, m.1)))

pub push_behind_all-push_behind-requires : goal.push_behind_all-push_behind-requires
push_behind_all-push_behind-requires g t c κs within = (omega arith, (within.0, (within.1, c.requires.asked)))

pub push_behind_all-loop-entity-preserved : goal.push_behind_all-loop-entity-preserved
push_behind_all-loop-entity-preserved g t c n low =
    let next = this_behind c.args.self.now n c.args.variable in
    given next c.args.entities.now c.loop-entity.entity-index c.loop-entity-test.true _ c.args.moving.now.items c.loop-entity.moving.items c.push_behind.new.moving.items
    (c.loop-entity.invariant n low) (c.in_ok-push_behind.ensures c.if-not-branch.false n low)

pub push_behind_all-returns : goal.push_behind_all-returns
push_behind_all-returns g t c done n low =
    whole (this_behind c.args.self.now n c.args.variable) c.args.entities.now c.loop-entity.entity-index c.args.moving.now.items c.loop-entity.moving.items
    c.loop-entity-test.false (c.loop-entity.invariant n low)
