use Rattle.std.proofs.Common.{◌≡◌, None, is_some, refl, ap, ◌∙◌, rules}
use Rattle.std.specs.Prelude.{nat_eq}
use Rattle.std.specs.Cmp.Lexicographic.{pointwise}
use Rattle.std.specs.FinMap as finite
use Rattle.std.specs.HashMap.{get}
use Rattle.indexmap.specs.declared.map.entry.Entry.TheVariants.{Vacant}
use Rattle.indexmap.specs.Entry.{map_with_value}
use Rattle.indexmap.proofs.CallerLemmas.{insert_entry-new}
use Rattle.name_index.proofs.NamesLemmas.{bound_short, kept_short, found_at, others_bound}
use Rattle.name_index.proofs.NameIndex.bind_short.Goals as goal

pub returns-in_default-clause-memory : goal.returns-in_default-clause-memory
returns-in_default-clause-memory g c = λ _. found_at c.args.self.now c.self.inside.short c.self.inside.long c.self.inside.texts c.self.view_is c.self.invariant c.args.key c.args.name.now c.requires.key c.requires.short None c.in_default.ensures.absent

pub returns-in_default-clause-name_taken : goal.returns-in_default-clause-name_taken
returns-in_default-clause-name_taken g c =
    let free : finite.get c.args.self.now c.args.name.now ≡ None = found_at c.args.self.now c.self.inside.short c.self.inside.long c.self.inside.texts c.self.view_is c.self.invariant c.args.key c.args.name.now c.requires.key c.requires.short None c.in_default.ensures.absent in
    search (rules, free)

pub returns-in-Occupied-clause-name_taken : goal.returns-in-Occupied-clause-name_taken
returns-in-Occupied-clause-name_taken g c =
    let there = rw c.in-Occupied.is at c.in-Ok.ensures.found in
    let taken = ap is_some (found_at c.args.self.now c.self.inside.short c.self.inside.long c.self.inside.texts c.self.view_is c.self.invariant c.args.key c.args.name.now c.requires.key c.requires.short _ refl) ∙ there.0 in
    (λ _. taken, λ _. refl)

pub returns-in_ok-set-in-Vacant-clause-name_taken : goal.returns-in_ok-set-in-Vacant-clause-name_taken
returns-in_ok-set-in-Vacant-clause-name_taken g c =
    let absent = rw c.in-Vacant.is at c.in-Ok.ensures.found in
    let free : finite.get c.args.self.now c.args.name.now ≡ None = found_at c.args.self.now c.self.inside.short c.self.inside.long c.self.inside.texts c.self.view_is c.self.invariant c.args.key c.args.name.now c.requires.key c.requires.short None absent in
    search (rules, free)

pub returns-in_err-set-in-Vacant-clause-name_taken : goal.returns-in_err-set-in-Vacant-clause-name_taken
returns-in_err-set-in-Vacant-clause-name_taken g c =
    let absent = rw c.in-Vacant.is at c.in-Ok.ensures.found in
    let free : finite.get c.args.self.now c.args.name.now ≡ None = found_at c.args.self.now c.self.inside.short c.self.inside.long c.self.inside.texts c.self.view_is c.self.invariant c.args.key c.args.name.now c.requires.key c.requires.short None absent in
    search (rules, free)

pub returns-in_ok-set-in-Vacant-clause-free : goal.returns-in_ok-set-in-Vacant-clause-free
returns-in_ok-set-in-Vacant-clause-free g c =
    let absent = rw c.in-Vacant.is at c.in-Ok.ensures.found in
    found_at c.args.self.now c.self.inside.short c.self.inside.long c.self.inside.texts c.self.view_is c.self.invariant c.args.key c.args.name.now c.requires.key c.requires.short None absent

pub returns-in_err-set-in-Vacant-clause-memory : goal.returns-in_err-set-in-Vacant-clause-memory
returns-in_err-set-in-Vacant-clause-memory g c =
    let absent = rw c.in-Vacant.is at c.in-Ok.ensures.found in
    λ _. found_at c.args.self.now c.self.inside.short c.self.inside.long c.self.inside.texts c.self.view_is c.self.invariant c.args.key c.args.name.now c.requires.key c.requires.short None absent

pub returns-in_ok-set-in-Vacant-clause-bound : goal.returns-in_ok-set-in-Vacant-clause-bound
returns-in_ok-set-in-Vacant-clause-bound g c =
    let put = rw c.in-Vacant.is at (c.in-Ok.ensures.update.0 c.args.entity) in
    let bound = bound_short c.args.self.now c.self.inside.short (map_with_value (Vacant c.in-Vacant.vacant) c.args.entity) c.self.inside.long c.self.inside.texts c.self.view_is c.self.invariant c.args.key c.args.name.now c.requires.key c.args.entity put in
    search (rules, bound)

pub returns-in_ok-set-in-Vacant-clause-others : goal.returns-in_ok-set-in-Vacant-clause-others
returns-in_ok-set-in-Vacant-clause-others g c =
    let absent = rw c.in-Vacant.is at c.in-Ok.ensures.found in
    let put = rw c.in-Vacant.is at (c.in-Ok.ensures.update.0 c.args.entity) in
    let free : finite.get c.args.self.now c.args.name.now ≡ None = found_at c.args.self.now c.self.inside.short c.self.inside.long c.self.inside.texts c.self.view_is c.self.invariant c.args.key c.args.name.now c.requires.key c.requires.short None absent in
    let bound = bound_short c.args.self.now c.self.inside.short (map_with_value (Vacant c.in-Vacant.vacant) c.args.entity) c.self.inside.long c.self.inside.texts c.self.view_is c.self.invariant c.args.key c.args.name.now c.requires.key c.args.entity put in
    others_bound c.args.self.now c.args.name.now c.args.entity free _ (search (rules, bound))

pub invariant_of-self-in-Vacant : goal.invariant_of-self-in-Vacant
invariant_of-self-in-Vacant g c =
    let absent : get (pointwise nat_eq) c.self.inside.short c.args.key ≡ None = rw c.in-Vacant.is at c.in-Ok.ensures.found in
    let put = rw c.in-Vacant.is at (c.in-Ok.ensures.update.0 c.args.entity) in
    let more = rw c.in-Vacant.is at (c.in-Ok.ensures.update.1 c.args.entity) in
    let unique = rw c.in-Vacant.is at (c.in-Ok.ensures.update.2 c.args.entity) in
    let free : finite.get c.args.self.now c.args.name.now ≡ None = found_at c.args.self.now c.self.inside.short c.self.inside.long c.self.inside.texts c.self.view_is c.self.invariant c.args.key c.args.name.now c.requires.key c.requires.short None absent in
    kept_short c.args.self.now c.self.inside.short _ c.self.inside.long c.self.inside.texts c.self.view_is c.self.invariant c.args.key c.args.name.now c.requires.key c.args.entity (search (rules, put)) c.set.new.self c.requires.short free c.requires.unnamed
    (search (rules, more, insert_entry-new (pointwise nat_eq) c.self.inside.short c.args.key c.args.entity absent)) (search (rules, unique)) c.place_for-place.result (search rules) (search rules)
