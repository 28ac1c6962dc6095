-- A new list fits every store.
use Rattle.std.proofs.lemmas.Result.{IfOk-weaker}
use Rattle.test_queries.proofs.lists.new_list.Goals as goal

pub returns : goal.returns
returns c = IfOk-weaker c.new.result _ _ (λ kept fits. fits c.args.world.now.tables) c.new.ensures.fits
