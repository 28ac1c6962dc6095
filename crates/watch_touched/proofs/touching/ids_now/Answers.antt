use Rattle.std.specs.Option.{option_copied}
use Rattle.std.proofs.Common.{ap, sym, ◌∙◌}
use Rattle.watch_touched.proofs.CommandChanges.{live_found, none_found}
use Rattle.watch_touched.proofs.touching.ids_now.Goals as goal

pub returns-in_err-entity : goal.returns-in_err-entity
returns-in_err-entity g c = ap option_copied c.from_residual.ensures ∙ none_found c.args.world.now.state c.args.index (sym c.at.ensures ∙ c.in_err-entity.was)

pub returns : goal.returns
returns g c = c.ids_of.ensures ∙ live_found c.args.world.now.state c.args.index c.in_ok-entity.entity (sym c.at.ensures ∙ c.in_ok-entity.was)
