use Rattle.std.proofs.Common.{◌≡◌, rules}
use Rattle.std.specs.HashMap.{get_by_text}
use Rattle.std.specs.FinMap as finite
use Rattle.name_index.proofs.NamesLemmas.{found_long}
use Rattle.name_index.proofs.NameIndex.find_long.Goals as goal

pub returns : goal.returns
returns g c =
    let there : finite.get c.args.self.now c.args.name.now ≡ get_by_text c.self.inside.long c.args.name.now = found_long c.args.self.now c.self.inside.short c.self.inside.long c.self.inside.texts c.self.view_is c.self.invariant c.args.name.now c.requires in
    search (rules, there)
