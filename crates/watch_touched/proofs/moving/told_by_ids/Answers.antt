use Rattle.std.specs.Option.{option_copied}
use Rattle.std.proofs.Common.{ap, sym, ◌≡◌, ◌∙◌, false, true}
use Rattle.ecs_model.specs.World.{ids_of}
use Rattle.watch_concerns.specs.OwnIds.{lacks, meets}
use Rattle.watch_touched.proofs.AskedEntities.{dead_are_out, lacking_are_out, lives_here, meeting_are_in, shown_dead, shown_lives, told_dead, told_lacking, told_met}
use Rattle.watch_touched.proofs.moving.told_by_ids.Goals as goal

pub returns-in_default-clause-by_ids : goal.returns-in_default-clause-by_ids
returns-in_default-clause-by_ids g c =
    let q = c.args.query.now in
    let w = c.args.world.now.state in
    told_dead w q c.args.entity (shown_dead w q c.args.entity (sym (ap option_copied c.in_default.is) ∙ c.ids_now.ensures))

pub returns-in_default-clause-told : goal.returns-in_default-clause-told
returns-in_default-clause-told g c =
    let q = c.args.query.now in
    let w = c.args.world.now.state in
    dead_are_out w q c.args.entity (shown_dead w q c.args.entity (sym (ap option_copied c.in_default.is) ∙ c.ids_now.ensures))

pub returns-then-lacks-clause-by_ids : goal.returns-then-lacks-clause-by_ids
returns-then-lacks-clause-by_ids g c =
    let q = c.args.query.now in
    let w = c.args.world.now.state in
    let shown = shown_lives w q c.args.entity c.in-Some.ids.now (sym (ap option_copied c.in-Some.is) ∙ c.ids_now.ensures) in
    let lacking : lacks q (ids_of w c.args.entity) ≡ true = ap (lacks q) (sym shown.1) ∙ sym c.lacks.ensures ∙ c.if-lacks.true in
    told_lacking w q c.args.entity shown.0 lacking

pub returns-then-lacks-clause-told : goal.returns-then-lacks-clause-told
returns-then-lacks-clause-told g c =
    let q = c.args.query.now in
    let w = c.args.world.now.state in
    let shown = shown_lives w q c.args.entity c.in-Some.ids.now (sym (ap option_copied c.in-Some.is) ∙ c.ids_now.ensures) in
    let lacking : lacks q (ids_of w c.args.entity) ≡ true = ap (lacks q) (sym shown.1) ∙ sym c.lacks.ensures ∙ c.if-lacks.true in
    lacking_are_out w q c.args.entity lacking

pub returns-then-meets-clause-by_ids : goal.returns-then-meets-clause-by_ids
returns-then-meets-clause-by_ids g c =
    let q = c.args.query.now in
    let w = c.args.world.now.state in
    let shown = shown_lives w q c.args.entity c.in-Some.ids.now (sym (ap option_copied c.in-Some.is) ∙ c.ids_now.ensures) in
    let has : lacks q (ids_of w c.args.entity) ≡ false = ap (lacks q) (sym shown.1) ∙ sym c.lacks.ensures ∙ c.if-lacks.false in
    let met : meets q (ids_of w c.args.entity) ≡ true = ap (meets q) (sym shown.1) ∙ sym c.meets.ensures ∙ c.if-meets.true in
    told_met w q c.args.entity true shown.0 has met

pub returns-then-meets-clause-told : goal.returns-then-meets-clause-told
returns-then-meets-clause-told g c =
    let q = c.args.query.now in
    let w = c.args.world.now.state in
    let shown = shown_lives w q c.args.entity c.in-Some.ids.now (sym (ap option_copied c.in-Some.is) ∙ c.ids_now.ensures) in
    let met : meets q (ids_of w c.args.entity) ≡ true = ap (meets q) (sym shown.1) ∙ sym c.meets.ensures ∙ c.if-meets.true in
    meeting_are_in w q c.args.entity c.requires.sound shown.0 met

pub returns-clause-by_ids : goal.returns-clause-by_ids
returns-clause-by_ids g c =
    let q = c.args.query.now in
    let w = c.args.world.now.state in
    let shown = shown_lives w q c.args.entity c.in-Some.ids.now (sym (ap option_copied c.in-Some.is) ∙ c.ids_now.ensures) in
    let has : lacks q (ids_of w c.args.entity) ≡ false = ap (lacks q) (sym shown.1) ∙ sym c.lacks.ensures ∙ c.if-lacks.false in
    let unmet : meets q (ids_of w c.args.entity) ≡ false = ap (meets q) (sym shown.1) ∙ sym c.meets.ensures ∙ c.if-meets.false in
    told_met w q c.args.entity false shown.0 has unmet

pub returns-clause-untold : goal.returns-clause-untold
returns-clause-untold g c =
    let q = c.args.query.now in
    let w = c.args.world.now.state in
    let shown = shown_lives w q c.args.entity c.in-Some.ids.now (sym (ap option_copied c.in-Some.is) ∙ c.ids_now.ensures) in
    lives_here w q c.args.entity shown.0
