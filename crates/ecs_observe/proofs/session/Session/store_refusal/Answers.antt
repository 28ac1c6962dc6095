use Rattle.std.proofs.Common.{◌<◌, ◌≤◌, true, false, sym, ◌∙◌, refl, arith, rules}
use Rattle.std.proofs.lemmas.Bool.Decides.{nat_tests}
use Rattle.std.specs.Prelude.{length}
use Rattle.ecs_model.specs.stored.Session.{most_stored}
use Rattle.ecs_observe.proofs.NamedQueries.{told_refusal}
use Rattle.ecs_observe.specs.Stored.{entries_of}
use Rattle.ecs_observe.proofs.session.Session.store_refusal.Goals as goal

pub returns-then-is_some : goal.returns-then-is_some
returns-then-is_some g c =
    told_refusal c.args.self.now c.self.inside.world (entries_of c.self.inside.stored) c.self.inside.waiting c.self.inside.compared c.args.name.now true _ _ _ (sym c.self.view_is) (search rules) refl refl refl

pub returns-then-not-is_name : goal.returns-then-not-is_name
returns-then-not-is_name g c =
    told_refusal c.args.self.now c.self.inside.world (entries_of c.self.inside.stored) c.self.inside.waiting c.self.inside.compared c.args.name.now false false _ _ (sym c.self.view_is) (search rules) (search rules) refl refl

pub returns-then-contains_key : goal.returns-then-contains_key
returns-then-contains_key g c =
    told_refusal c.args.self.now c.self.inside.world (entries_of c.self.inside.stored) c.self.inside.waiting c.self.inside.compared c.args.name.now false true true _ (sym c.self.view_is) (search rules) (search rules) (sym c.contains_key.ensures ∙ c.if-contains_key.true) refl

pub returns-then-len-ge-MOST_STORED : goal.returns-then-len-ge-MOST_STORED
returns-then-len-ge-MOST_STORED g c =
    told_refusal c.args.self.now c.self.inside.world (entries_of c.self.inside.stored) c.self.inside.waiting c.self.inside.compared c.args.name.now false true false true (sym c.self.view_is) (search rules) (search rules) (sym c.contains_key.ensures ∙ c.if-contains_key.false)
    (let many : most_stored ≤ length (entries_of c.self.inside.stored) = omega (arith, c.len.ensures.len) in grind (arith, nat_tests))

pub returns : goal.returns
returns g c =
    told_refusal c.args.self.now c.self.inside.world (entries_of c.self.inside.stored) c.self.inside.waiting c.self.inside.compared c.args.name.now false true false false (sym c.self.view_is) (search rules) (search rules) (sym c.contains_key.ensures ∙ c.if-contains_key.false)
    (let few : length (entries_of c.self.inside.stored) < most_stored = omega (arith, c.len.ensures.len) in grind (arith, nat_tests))
