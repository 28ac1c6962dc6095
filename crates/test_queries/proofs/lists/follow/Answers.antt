-- A list that fits the world before a call fits the world after it.
use Rattle.test_queries.proofs.lists.follow.Goals as goal

pub expect_listed-requires-2 : goal.expect_listed-requires-2
expect_listed-requires-2 g c = c.fits_later.ensures c.expect_listed.new.kept c.args.world.now.tables c.heat.new.world.tables c.heat.ensures c.expect_listed.ensures
