use Rattle.ecs_model.proofs.LivePairs.{upward_below}
use Rattle.ecs_model.specs.BuiltIns.{with_trait}
use Rattle.rel_traits.proofs.AddedSets.{lives_along}
use Rattle.rel_traits.proofs.closure.gather_with.Goals as goal

pub gather-requires : goal.gather-requires
gather-requires g c = upward_below c.size.ensures.links with_trait c.args.scratch.now.size c.requires.covered

pub returns-clause-lives : goal.returns-clause-lives
returns-clause-lives g c = lives_along c.size.ensures.links c.args.scratch.now.found c.gather.new.scratch.found c.gather.ensures.least c.requires.lives
