use Rattle.std.proofs.Common.{◌≡◌, true, rules}
use Rattle.std.specs.Prelude.{nat_eq}
use Rattle.std.specs.Cmp.Lexicographic.{pointwise}
use Rattle.std.specs.HashMap.{get}
use Rattle.std.specs.FinMap as finite
use Rattle.name_index.specs.Short.{is_short}
use Rattle.name_index.proofs.NamesLemmas.{found_short, one_to_one}
use Rattle.name_index.proofs.NameIndex.find.Goals as goal

pub returns-in-Some-clause-value : goal.returns-in-Some-clause-value
returns-in-Some-clause-value g c =
    let is : is_short c.args.name.now ≡ true = search rules in
    let there : finite.get c.args.self.now c.args.name.now ≡ get (pointwise nat_eq) c.self.inside.short c.args.name.now = found_short c.args.self.now c.self.inside.short c.self.inside.long c.self.inside.texts c.self.view_is c.self.invariant c.args.name.now is in
    search (rules, there)

pub returns-in-Some-clause-one_to_one : goal.returns-in-Some-clause-one_to_one
returns-in-Some-clause-one_to_one g c = one_to_one c.args.self.now c.self.inside.short c.self.inside.long c.self.inside.texts c.self.view_is c.self.invariant

pub returns-in-None-clause-one_to_one : goal.returns-in-None-clause-one_to_one
returns-in-None-clause-one_to_one g c = one_to_one c.args.self.now c.self.inside.short c.self.inside.long c.self.inside.texts c.self.view_is c.self.invariant
