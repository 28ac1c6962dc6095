use Rattle.std.proofs.Common.{ap, ◌∙◌}
use Rattle.entity_set.specs.Members.{exchanged}
use Rattle.entity_set.proofs.SetExchanges.{exchanged_bits}
use Rattle.entity_set.proofs.set.EntitySet.exchange.Goals as goal

pub returns : goal.returns
returns g c =
    exchanged_bits c.self.inside.words.items c.exchange.new.words.items c.args.left.now c.args.entered.now c.exchange.ensures.length c.exchange.ensures.has
    ∙ ap (exchanged c.args.left.now c.args.entered.now) c.self.view_is
