use Rattle.std.specs.Prelude.{is_some}
use Rattle.std.proofs.Common.{ap, inl, inr, refl, sym, ◌∙◌}
use Rattle.std.proofs.lemmas.Result.{err_from_is_err_and}
use Rattle.ecs_observe.proofs.KeptLists.{its_list, kept_kind, not_kept}
use Rattle.ecs_observe.proofs.TableSyncs.{follows_sync}
use Rattle.ecs_observe.proofs.kept.sync_list_of.Goals as goal

pub returns-in_default-clause-synced : goal.returns-in_default-clause-synced
returns-in_default-clause-synced g c = (not_kept c.args.world.now.tables c.args.query.now c.requires.list c.in_default.is, refl)

pub returns-in_default-clause-follows : goal.returns-in_default-clause-follows
returns-in_default-clause-follows g c = inl refl

pub sync-requires : goal.sync-requires
sync-requires g c = (its_list c.args.world.now.tables c.args.query.now c.requires.list c.in-Some.list c.in-Some.is).fits

pub returns-in_err-sync-clause-synced : goal.returns-in_err-sync-clause-synced
returns-in_err-sync-clause-synced g c =
    let p = err_from_is_err_and c.from_residual.result c.from_residual.ensures.1 in
    rw (p.1, p.2) (kept_kind c.args.world.now.tables c.args.query.now c.requires.list c.in-Some.list c.in-Some.is)

pub returns-in_err-sync-clause-list : goal.returns-in_err-sync-clause-list
returns-in_err-sync-clause-list g c = record {
  kept = sym (ap is_some c.in-Some.is) ∙ c.requires.list.kept;
  list = record { patterns = c.sync.ensures.patterns ∙ (its_list c.args.world.now.tables c.args.query.now c.requires.list c.in-Some.list c.in-Some.is).patterns; fits = c.sync.ensures.fits };
}

pub returns-in_err-sync-clause-follows : goal.returns-in_err-sync-clause-follows
returns-in_err-sync-clause-follows g c = inr (c.in-Some.list, c.sync.new.list, c.in-Some.is, refl, follows_sync c.args.world.now.tables c.in-Some.list c.sync.new.list c.sync.result (record { fits = (its_list c.args.world.now.tables c.args.query.now c.requires.list c.in-Some.list c.in-Some.is).fits; patterns = c.sync.ensures.patterns; exact = c.sync.ensures.exact; synced = c.sync.ensures.synced; refused = c.sync.ensures.refused; judges = c.sync.ensures.judged; again = c.sync.ensures.again }))

pub returns-clause-synced : goal.returns-clause-synced
returns-clause-synced g c =
    let its = its_list c.args.world.now.tables c.args.query.now c.requires.list c.in-Some.list c.in-Some.is in (
      kept_kind c.args.world.now.tables c.args.query.now c.requires.list c.in-Some.list c.in-Some.is,
      (
        c.sync.new.list,
        refl,
        record {
          synced = c.in_ok-sync.ensures.synced;
          tables = record { listed = c.in_ok-sync.ensures.listed _ its.patterns; rising = c.sync.ensures.once };
        },
      ),
    )

pub returns-clause-list : goal.returns-clause-list
returns-clause-list g c = record {
  kept = sym (ap is_some c.in-Some.is) ∙ c.requires.list.kept;
  list = record { patterns = c.sync.ensures.patterns ∙ (its_list c.args.world.now.tables c.args.query.now c.requires.list c.in-Some.list c.in-Some.is).patterns; fits = c.sync.ensures.fits };
}

pub returns-clause-follows : goal.returns-clause-follows
returns-clause-follows g c = inr (c.in-Some.list, c.sync.new.list, c.in-Some.is, refl, follows_sync c.args.world.now.tables c.in-Some.list c.sync.new.list c.sync.result (record { fits = (its_list c.args.world.now.tables c.args.query.now c.requires.list c.in-Some.list c.in-Some.is).fits; patterns = c.sync.ensures.patterns; exact = c.sync.ensures.exact; synced = c.sync.ensures.synced; refused = c.sync.ensures.refused; judges = c.sync.ensures.judged; again = c.sync.ensures.again }))
