use Rattle.std.specs.Prelude.{◌==◌}
use Rattle.std.specs.List.{list_any}
use Rattle.std.proofs.Common.{◌≡◌, [], ap, arith, false, length, refl, ◌∙◌}
use Rattle.std.proofs.lemmas.List.{take_all}
use Rattle.ecs_model.specs.BitWords.{has_bit}
use Rattle.entity_set.proofs.Words.{has_none}
use Rattle.entity_set.proofs.SetBits.{any_members, members_rise, puts_one}
use Rattle.entity_set.proofs.set.EntitySet.of.Goals as goal

pub loop-entity-init : goal.loop-entity-init
loop-entity-init g c =
    let none : length c.new-words.result.items ≡ 0 = ap length c.new-words.ensures.items in
    record {
      few = omega (arith, none);
      has = λ e. ap (λ ws. has_bit ws e) c.new-words.ensures.items ∙ has_none [] e refl;
    }

pub loop-entity-preserved : goal.loop-entity-preserved
loop-entity-preserved g c = record {
  few = c.put.ensures.few;
  has = λ e. puts_one e c.args.entities.now c.loop-entity.entity-index _ _ false c.loop-entity-test.true (c.in_ok-put.ensures.has e) (c.loop-entity.invariant.has e);
}

pub returns : goal.returns
returns g c = record {
  ascends = members_rise c.loop-entity.words.items;
  members = λ e. any_members c.loop-entity.words.items e ∙ c.loop-entity.invariant.has e ∙ ap (list_any (λ x. x == e)) (take_all c.loop-entity.entity-index c.args.entities.now c.loop-entity-test.false);
}
