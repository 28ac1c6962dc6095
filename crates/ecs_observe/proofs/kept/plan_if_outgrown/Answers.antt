-- A list stays that of its query when it is brought up to date.
use Rattle.std.specs.Prelude.{length}
use Rattle.std.proofs.Common.{◌≡◌, ◌∙◌, arith, inl, inr, refl, subst, sym}
use Rattle.query_model.specs.Query.{Query}
use Rattle.query_plan.specs.Plans.{Plan}
use Rattle.world_facts.specs.Kept.{AreTablesOf}
use Rattle.world_query.specs.Planned.{IsPlannedForKept}
use Rattle.watch_stored.specs.Held.{IsFitting, IsOutgrown}
use Rattle.ecs_observe.specs.Following.{IsPlannedNow}
use Rattle.ecs_observe.proofs.TableSyncs.{follows_itself, follows_sync}
use Rattle.ecs_observe.proofs.kept.plan_if_outgrown.Goals as goal

pub sync-requires : goal.sync-requires
sync-requires g c = c.requires.list.fits

pub returns-then-not-is_outgrown-clause-follows : goal.returns-then-not-is_outgrown-clause-follows
returns-then-not-is_outgrown-clause-follows g c = follows_itself c.args.world.now.tables c.args.list.now

pub returns-then-not-is_outgrown-clause-synced : goal.returns-then-not-is_outgrown-clause-synced
returns-then-not-is_outgrown-clause-synced g c = inl refl

pub returns-in_err-sync-clause-follows : goal.returns-in_err-sync-clause-follows
returns-in_err-sync-clause-follows g c = follows_sync c.args.world.now.tables c.args.list.now c.sync.new.list c.sync.result (record { fits = c.requires.list.fits; patterns = c.sync.ensures.patterns; exact = c.sync.ensures.exact; synced = c.sync.ensures.synced; refused = c.sync.ensures.refused; judges = c.sync.ensures.judged; again = c.sync.ensures.again })

pub returns-in_default-clause-follows : goal.returns-in_default-clause-follows
returns-in_default-clause-follows g c = follows_sync c.args.world.now.tables c.args.list.now c.sync.new.list c.sync.result (record { fits = c.requires.list.fits; patterns = c.sync.ensures.patterns; exact = c.sync.ensures.exact; synced = c.sync.ensures.synced; refused = c.sync.ensures.refused; judges = c.sync.ensures.judged; again = c.sync.ensures.again })

pub returns-in_err-planned-clause-follows : goal.returns-in_err-planned-clause-follows
returns-in_err-planned-clause-follows g c = follows_sync c.args.world.now.tables c.args.list.now c.sync.new.list c.sync.result (record { fits = c.requires.list.fits; patterns = c.sync.ensures.patterns; exact = c.sync.ensures.exact; synced = c.sync.ensures.synced; refused = c.sync.ensures.refused; judges = c.sync.ensures.judged; again = c.sync.ensures.again })

pub returns-clause-follows : goal.returns-clause-follows
returns-clause-follows g c = follows_sync c.args.world.now.tables c.args.list.now c.sync.new.list c.sync.result (record { fits = c.requires.list.fits; patterns = c.sync.ensures.patterns; exact = c.sync.ensures.exact; synced = c.sync.ensures.synced; refused = c.sync.ensures.refused; judges = c.sync.ensures.judged; again = c.sync.ensures.again })

pub returns-clause-synced : goal.returns-clause-synced
returns-clause-synced g c = inr c.in_ok-sync.ensures.synced

pub returns-then-not-is_outgrown-clause-planned : goal.returns-then-not-is_outgrown-clause-planned
returns-then-not-is_outgrown-clause-planned g c = inl refl

pub returns-in_err-sync-clause-planned : goal.returns-in_err-sync-clause-planned
returns-in_err-sync-clause-planned g c = inl refl

pub returns-in_default-clause-planned : goal.returns-in_default-clause-planned
returns-in_default-clause-planned g c = inl refl

pub returns-in_err-planned-clause-planned : goal.returns-in_err-planned-clause-planned
returns-in_err-planned-clause-planned g c = inl refl

pub returns-clause-planned : goal.returns-clause-planned
returns-clause-planned g c =
    let w = c.args.world.now in
    let q = (c.args.plan.now).query in
    let p : Plan = c.in_ok-planned.planned in
    let asked : p.query ≡ c.query.result.now = c.in_ok-planned.ensures.query in
    let same : p.query ≡ q = asked ∙ c.query.ensures in
    let keys = c.sync.new.list.keys in
    inr (
      subst (IsOutgrown c.args.planned_at.now) c.newest_table-newest.ensures (c.is_outgrown.ensures.outgrown c.if-not-is_outgrown.false),
      subst (IsPlannedNow w) (sym c.replace.ensures) (record {
        tables = keys;
        are_tables = subst (λ (x : Query). AreTablesOf x w.tables keys) (sym same) (record { listed = c.in_ok-sync.ensures.listed q c.requires.list.patterns; rising = c.sync.ensures.once });
        planned = subst (λ (x : Query). IsPlannedForKept w x (length keys) p) (sym asked) (subst (λ n. IsPlannedForKept w c.query.result.now n p) c.in-Some.ensures c.in_ok-planned.ensures.planned);
      }),
      c.newest_table-newest.ensures,
    )

pub returns-then-not-is_outgrown-clause-fitting : goal.returns-then-not-is_outgrown-clause-fitting
returns-then-not-is_outgrown-clause-fitting g c = subst (IsFitting c.args.planned_at.now) c.newest_table-newest.ensures (c.is_outgrown.ensures.fitting c.if-not-is_outgrown.true)

pub returns-clause-fitting : goal.returns-clause-fitting
returns-clause-fitting g c = omega (arith, c.newest_table-newest.ensures)

pub returns-then-not-is_outgrown-clause-query : goal.returns-then-not-is_outgrown-clause-query
returns-then-not-is_outgrown-clause-query g c = grind arith

pub returns-then-not-is_outgrown-clause-list : goal.returns-then-not-is_outgrown-clause-list
returns-then-not-is_outgrown-clause-list g c = grind arith

pub returns-in_err-sync-clause-query : goal.returns-in_err-sync-clause-query
returns-in_err-sync-clause-query g c = grind arith

pub returns-in_err-sync-clause-list : goal.returns-in_err-sync-clause-list
returns-in_err-sync-clause-list g c = grind arith

pub returns-in_err-sync-clause-refused : goal.returns-in_err-sync-clause-refused
returns-in_err-sync-clause-refused g c = grind arith

pub returns-in_err-sync-clause-fitting : goal.returns-in_err-sync-clause-fitting
returns-in_err-sync-clause-fitting g c = grind arith

pub returns-in_err-sync-clause-synced : goal.returns-in_err-sync-clause-synced
returns-in_err-sync-clause-synced g c = grind arith

pub returns-in_default-clause-query : goal.returns-in_default-clause-query
returns-in_default-clause-query g c = grind arith

pub returns-in_default-clause-list : goal.returns-in_default-clause-list
returns-in_default-clause-list g c = grind arith

pub returns-in_default-clause-refused : goal.returns-in_default-clause-refused
returns-in_default-clause-refused g c = grind arith

pub returns-in_default-clause-fitting : goal.returns-in_default-clause-fitting
returns-in_default-clause-fitting g c = grind arith

pub returns-in_default-clause-synced : goal.returns-in_default-clause-synced
returns-in_default-clause-synced g c = grind arith

pub plan_for_kept-requires : goal.plan_for_kept-requires
plan_for_kept-requires g c = grind arith

pub returns-in_err-planned-clause-query : goal.returns-in_err-planned-clause-query
returns-in_err-planned-clause-query g c = grind arith

pub returns-in_err-planned-clause-list : goal.returns-in_err-planned-clause-list
returns-in_err-planned-clause-list g c = grind arith

pub returns-in_err-planned-clause-refused : goal.returns-in_err-planned-clause-refused
returns-in_err-planned-clause-refused g c = grind arith

pub returns-in_err-planned-clause-fitting : goal.returns-in_err-planned-clause-fitting
returns-in_err-planned-clause-fitting g c = grind arith

pub returns-in_err-planned-clause-synced : goal.returns-in_err-planned-clause-synced
returns-in_err-planned-clause-synced g c = grind arith

pub replace-requires : goal.replace-requires
replace-requires g c = grind arith

pub returns-clause-query : goal.returns-clause-query
returns-clause-query g c = grind arith

pub returns-clause-list : goal.returns-clause-list
returns-clause-list g c = grind arith
