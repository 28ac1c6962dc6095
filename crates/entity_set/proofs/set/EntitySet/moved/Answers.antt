use Rattle.std.specs.Prelude.{◌==◌, ◌&&◌, ◌||◌, not}
use Rattle.std.specs.List.{list_any}
use Rattle.std.proofs.Common.{◌≤◌, ap, length, subst, sym, ◌∙◌}
use Rattle.std.proofs.lemmas.List.{take_all}
use Rattle.ecs_model.specs.BitWords.{has_bit}
use Rattle.entity_set.proofs.SetBits.{and_all, any_members, members_rise, or_none, puts_one, takes_one}
use Rattle.entity_set.proofs.set.EntitySet.moved.Goals as goal

pub loop-entity-init : goal.loop-entity-init
loop-entity-init g c =
    let same = c.in_ok-words.ensures.items ∙ c.as_slice.ensures.value in
    record {
      few = subst (λ ws. length ws ≤ 67108864) (sym same) c.self.invariant;
      has = λ e.
          ap (λ ws. has_bit ws e) same ∙ sym (any_members c.self.inside.words.items e) ∙ ap (λ s. list_any (λ x. x == e) s.items) c.self.view_is
          ∙ and_all (list_any (λ x. x == e) c.args.self.now.items);
    }

pub loop-entity-preserved : goal.loop-entity-preserved
loop-entity-preserved g c = record {
  few = subst (λ n. n ≤ 67108864) (sym c.take_out.ensures.length) c.loop-entity.invariant.few;
  has = λ e. takes_one e c.args.left.now c.loop-entity.entity-index _ _ (list_any (λ x. x == e) c.args.self.now.items) c.loop-entity-test.true (c.take_out.ensures.has e) (c.loop-entity.invariant.has e);
}

pub loop-entity-2-init : goal.loop-entity-2-init
loop-entity-2-init g c = record {
  few = c.loop-entity.invariant.few;
  has = λ e.
      c.loop-entity.invariant.has e
      ∙ ap (λ xs. list_any (λ x. x == e) c.args.self.now.items && not (list_any (λ x. x == e) xs)) (take_all c.loop-entity.entity-index c.args.left.now c.loop-entity-test.false)
      ∙ or_none (list_any (λ x. x == e) c.args.self.now.items && not (list_any (λ x. x == e) c.args.left.now));
}

pub loop-entity-2-preserved : goal.loop-entity-2-preserved
loop-entity-2-preserved g c = record {
  few = c.put.ensures.few;
  has = λ e.
      puts_one e c.args.entered.now c.loop-entity-2.entity-index _ _ (list_any (λ x. x == e) c.args.self.now.items && not (list_any (λ x. x == e) c.args.left.now)) c.loop-entity-2-test.true
      (c.in_ok-put.ensures.has e) (c.loop-entity-2.invariant.has e);
}

pub returns : goal.returns
returns g c = record {
  ascends = members_rise c.loop-entity-2.words.items;
  members = λ e.
      any_members c.loop-entity-2.words.items e
      ∙ c.loop-entity-2.invariant.has e
      ∙ ap (λ xs. (list_any (λ x. x == e) c.args.self.now.items && not (list_any (λ x. x == e) c.args.left.now)) || list_any (λ x. x == e) xs) (take_all c.loop-entity-2.entity-index c.args.entered.now c.loop-entity-2-test.false);
}
