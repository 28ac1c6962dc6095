use Rattle.std.proofs.Common.{arith}
use Rattle.std.specs.Prelude.{is_some}
use Rattle.std.proofs.Common.{ap, inl, inr, refl, subst, sym, ◌∙◌}
use Rattle.query_model.specs.Query.{Query}
use Rattle.watch_stored.specs.Lists.{IsListOf}
use Rattle.ecs_observe.proofs.KeptLists.{its_list, kept_kind, not_kept}
use Rattle.ecs_observe.proofs.SentRows.{fails_unsent, refused_calm, sends_stopped, sent_calm}
use Rattle.ecs_observe.proofs.kept.send_rows_of.Goals as goal

pub returns-in_default-clause-rows : goal.returns-in_default-clause-rows
returns-in_default-clause-rows g c = (not_kept c.args.world.now.tables c.args.query.now c.requires.list c.in_default.is, refl, refl, refl)

pub send_listed_rows-requires-clause-list : goal.send_listed_rows-requires-clause-list
send_listed_rows-requires-clause-list g c = its_list c.args.world.now.tables c.args.query.now c.requires.list c.in-Some.list c.in-Some.is

pub returns-in_err-send_listed_rows-clause-list : goal.returns-in_err-send_listed_rows-clause-list
returns-in_err-send_listed_rows-clause-list g c = record {
  kept = sym (ap is_some c.in-Some.is) ∙ c.requires.list.kept;
  list = subst (λ (x : Query). IsListOf x c.args.world.now.tables c.send_listed_rows.new.list) (sym c.send_listed_rows.ensures.query) c.send_listed_rows.ensures.list;
}

pub returns-clause-rows : goal.returns-clause-rows
returns-clause-rows g c = (kept_kind c.args.world.now.tables c.args.query.now c.requires.list c.in-Some.list c.in-Some.is, c.in_ok-send_listed_rows.ensures.rows)

pub returns-clause-list : goal.returns-clause-list
returns-clause-list g c = record {
  kept = sym (ap is_some c.in-Some.is) ∙ c.requires.list.kept;
  list = subst (λ (x : Query). IsListOf x c.args.world.now.tables c.send_listed_rows.new.list) (sym c.send_listed_rows.ensures.query) c.send_listed_rows.ensures.list;
}

pub returns-in_default-clause-follows : goal.returns-in_default-clause-follows
returns-in_default-clause-follows g c = inl refl

pub returns-in_err-send_listed_rows-clause-follows : goal.returns-in_err-send_listed_rows-clause-follows
returns-in_err-send_listed_rows-clause-follows g c = inr (c.in-Some.list, c.send_listed_rows.new.list, c.in-Some.is, refl, c.send_listed_rows.ensures.follows)

pub returns-clause-follows : goal.returns-clause-follows
returns-clause-follows g c = inr (c.in-Some.list, c.send_listed_rows.new.list, c.in-Some.is, refl, c.send_listed_rows.ensures.follows)

pub returns-in_default-clause-planned : goal.returns-in_default-clause-planned
returns-in_default-clause-planned g c = inl refl

pub returns-clause-reads : goal.returns-clause-reads
returns-clause-reads g c = λ begins. (c.send_listed_rows.new.list, refl, c.in_ok-send_listed_rows.ensures.reads begins)

-- where they stop
pub returns-in_err-send_listed_rows-clause-rows : goal.returns-in_err-send_listed_rows-clause-rows
returns-in_err-send_listed_rows-clause-rows g c =
    sends_stopped c.args.most c.in_err-send_listed_rows.field-0.0 c.send_listed_rows.result _ c.args.query.now c.args.world.now.state _ _ _ _ c.in_err-send_listed_rows.was c.from_residual.ensures.1
    (kept_kind c.args.world.now.tables c.args.query.now c.requires.list c.in-Some.list c.in-Some.is) c.in_err-send_listed_rows.ensures.front c.send_listed_rows.ensures.held

pub returns-in_default-clause-writes : goal.returns-in_default-clause-writes
returns-in_default-clause-writes g c = refused_calm _ _ _

pub returns-in_err-send_listed_rows-clause-writes : goal.returns-in_err-send_listed_rows-clause-writes
returns-in_err-send_listed_rows-clause-writes g c =
    fails_unsent c.in_err-send_listed_rows.field-0.0 _ _ c.send_listed_rows.result _ c.in_err-send_listed_rows.was c.from_residual.ensures.1 c.send_listed_rows.ensures.writes

pub returns-clause-writes : goal.returns-clause-writes
returns-clause-writes g c = sent_calm _ _ _ _ c.in_ok-send_listed_rows.ensures.writes

pub returns-clause-found : goal.returns-clause-found
returns-clause-found g c = c.in_ok-send_listed_rows.ensures.found

pub returns-in_default-clause-kept : goal.returns-in_default-clause-kept
returns-in_default-clause-kept g c = grind arith

pub returns-in_default-clause-kind : goal.returns-in_default-clause-kind
returns-in_default-clause-kind g c = grind arith

pub returns-in_default-clause-query : goal.returns-in_default-clause-query
returns-in_default-clause-query g c = grind arith

pub returns-in_default-clause-these : goal.returns-in_default-clause-these
returns-in_default-clause-these g c = grind arith

pub returns-in_default-clause-list : goal.returns-in_default-clause-list
returns-in_default-clause-list g c = grind arith

pub send_listed_rows-requires-clause-current : goal.send_listed_rows-requires-clause-current
send_listed_rows-requires-clause-current g c = grind arith

pub returns-in_err-send_listed_rows-clause-kept : goal.returns-in_err-send_listed_rows-clause-kept
returns-in_err-send_listed_rows-clause-kept g c = grind arith

pub returns-in_err-send_listed_rows-clause-kind : goal.returns-in_err-send_listed_rows-clause-kind
returns-in_err-send_listed_rows-clause-kind g c = grind arith

pub returns-clause-unsent : goal.returns-clause-unsent
returns-clause-unsent g c = grind arith

pub returns-clause-kept : goal.returns-clause-kept
returns-clause-kept g c = grind arith

pub returns-clause-kind : goal.returns-clause-kind
returns-clause-kind g c = grind arith

pub returns-clause-query : goal.returns-clause-query
returns-clause-query g c = grind arith

pub returns-clause-these : goal.returns-clause-these
returns-clause-these g c = grind arith

pub returns-clause-planned : goal.returns-clause-planned
returns-clause-planned g c = grind arith

pub returns-clause-fitting : goal.returns-clause-fitting
returns-clause-fitting g c = grind arith
