use Rattle.std.proofs.Common.{arith}
use Rattle.std.proofs.lemmas.Grind.{common_steps}
use Rattle.std.proofs.Common.{refl}
use Rattle.ecs_id.specs.Id.{id_cmp}
use Rattle.ecs_world.proofs.built_in.settle.Goals as goal

pub put-requires-clause-ascend : goal.put-requires-clause-ascend
unfolding id_cmp
put-requires-clause-ascend g c = rw (c.tag-exclusive.ensures, c.tag-acyclic.ensures, c.tag-traversable.ensures, c.tag-pair_is_tag.ensures, c.tag-deletes_with_target.ensures, c.plain.ensures, c.plain-2.ensures, c.plain-3.ensures, c.plain-4.ensures, c.pair.ensures) refl

pub put-requires-in-2-clause-ascend : goal.put-requires-in-2-clause-ascend
unfolding id_cmp
put-requires-in-2-clause-ascend g c = rw (c.tag-transitive.ensures, c.tag-reflexive.ensures, c.tag-acyclic.ensures, c.tag-traversable.ensures, c.tag-pair_is_tag.ensures, c.plain-in-2.ensures, c.plain-in-2-2.ensures, c.plain-2.ensures, c.plain-3.ensures, c.plain-4.ensures) refl

pub put-requires-in-14-clause-ascend : goal.put-requires-in-14-clause-ascend
unfolding id_cmp
put-requires-in-14-clause-ascend g c = rw (c.tag-exclusive.ensures, c.tag-pair_is_tag.ensures, c.plain.ensures, c.plain-4.ensures) refl

pub plain-requires : goal.plain-requires
plain-requires g c = grind arith

pub plain-requires-2 : goal.plain-requires-2
plain-requires-2 g c = grind arith

pub plain-requires-3 : goal.plain-requires-3
plain-requires-3 g c = grind arith

pub plain-requires-4 : goal.plain-requires-4
plain-requires-4 g c = grind arith

pub overflow_add-settled : goal.overflow_add-settled
overflow_add-settled g c = grind arith

pub pair-requires-clause-relationship : goal.pair-requires-clause-relationship
pair-requires-clause-relationship g c = grind arith

pub pair-requires-clause-target : goal.pair-requires-clause-target
pair-requires-clause-target g c = grind arith

pub shared_whole_as_slice-put : goal.shared_whole_as_slice-put
shared_whole_as_slice-put g c = grind arith

pub put-requires-clause-few : goal.put-requires-clause-few
put-requires-clause-few g c = grind arith

pub put-requires-clause-before : goal.put-requires-clause-before
put-requires-clause-before g c = grind arith

pub put-requires-clause-tags : goal.put-requires-clause-tags
put-requires-clause-tags g c = grind arith

pub put-requires-clause-first : goal.put-requires-clause-first
put-requires-clause-first g c = grind arith

pub plain-requires-in-2 : goal.plain-requires-in-2
plain-requires-in-2 g c = grind arith

pub plain-requires-in-2-2 : goal.plain-requires-in-2-2
plain-requires-in-2-2 g c = grind arith

pub shared_whole_as_slice-put-in-2 : goal.shared_whole_as_slice-put-in-2
shared_whole_as_slice-put-in-2 g c = grind arith

pub put-requires-in-2-clause-few : goal.put-requires-in-2-clause-few
put-requires-in-2-clause-few g c = grind arith

pub put-requires-in-2-clause-before : goal.put-requires-in-2-clause-before
put-requires-in-2-clause-before g c = grind arith

pub put-requires-in-2-clause-tags : goal.put-requires-in-2-clause-tags
put-requires-in-2-clause-tags g c = grind arith

pub put-requires-in-2-clause-first : goal.put-requires-in-2-clause-first
put-requires-in-2-clause-first g c = grind arith

pub pair-requires-in-8-clause-relationship : goal.pair-requires-in-8-clause-relationship
pair-requires-in-8-clause-relationship g c = grind arith

pub pair-requires-in-8-clause-target : goal.pair-requires-in-8-clause-target
pair-requires-in-8-clause-target g c = grind arith

pub shared_whole_as_slice-put-in-8 : goal.shared_whole_as_slice-put-in-8
shared_whole_as_slice-put-in-8 g c = grind arith

pub put-requires-in-8-clause-few : goal.put-requires-in-8-clause-few
put-requires-in-8-clause-few g c = grind arith

pub put-requires-in-8-clause-before : goal.put-requires-in-8-clause-before
put-requires-in-8-clause-before g c = grind arith

pub put-requires-in-8-clause-tags : goal.put-requires-in-8-clause-tags
put-requires-in-8-clause-tags g c = grind arith

pub put-requires-in-8-clause-ascend : goal.put-requires-in-8-clause-ascend
put-requires-in-8-clause-ascend g c = grind arith

pub put-requires-in-8-clause-first : goal.put-requires-in-8-clause-first
put-requires-in-8-clause-first g c = grind arith

pub pair-requires-in-11-clause-relationship : goal.pair-requires-in-11-clause-relationship
pair-requires-in-11-clause-relationship g c = grind arith

pub pair-requires-in-11-clause-target : goal.pair-requires-in-11-clause-target
pair-requires-in-11-clause-target g c = grind arith

pub shared_whole_as_slice-put-in-11 : goal.shared_whole_as_slice-put-in-11
shared_whole_as_slice-put-in-11 g c = grind arith

pub put-requires-in-11-clause-few : goal.put-requires-in-11-clause-few
put-requires-in-11-clause-few g c = grind arith

pub put-requires-in-11-clause-before : goal.put-requires-in-11-clause-before
put-requires-in-11-clause-before g c = grind arith

pub put-requires-in-11-clause-tags : goal.put-requires-in-11-clause-tags
put-requires-in-11-clause-tags g c = grind arith

pub put-requires-in-11-clause-ascend : goal.put-requires-in-11-clause-ascend
put-requires-in-11-clause-ascend g c = grind arith

pub put-requires-in-11-clause-first : goal.put-requires-in-11-clause-first
put-requires-in-11-clause-first g c = grind arith

pub shared_whole_as_slice-put-in-13 : goal.shared_whole_as_slice-put-in-13
shared_whole_as_slice-put-in-13 g c = grind arith

pub put-requires-in-13-clause-few : goal.put-requires-in-13-clause-few
put-requires-in-13-clause-few g c = grind arith

pub put-requires-in-13-clause-before : goal.put-requires-in-13-clause-before
put-requires-in-13-clause-before g c = grind arith

pub put-requires-in-13-clause-tags : goal.put-requires-in-13-clause-tags
put-requires-in-13-clause-tags g c = grind arith

pub put-requires-in-13-clause-ascend : goal.put-requires-in-13-clause-ascend
put-requires-in-13-clause-ascend g c = grind arith

pub put-requires-in-13-clause-first : goal.put-requires-in-13-clause-first
put-requires-in-13-clause-first g c = grind arith

pub slice_bounds-put-end-in_default : goal.slice_bounds-put-end-in_default
slice_bounds-put-end-in_default g c = grind arith

pub put-requires-in_default-clause-few : goal.put-requires-in_default-clause-few
put-requires-in_default-clause-few g c = grind arith

pub put-requires-in_default-clause-before : goal.put-requires-in_default-clause-before
put-requires-in_default-clause-before g c = grind arith

pub put-requires-in_default-clause-tags : goal.put-requires-in_default-clause-tags
put-requires-in_default-clause-tags g c = grind (arith, common_steps)

pub put-requires-in_default-clause-ascend : goal.put-requires-in_default-clause-ascend
put-requires-in_default-clause-ascend g c = grind arith

pub put-requires-in_default-clause-first : goal.put-requires-in_default-clause-first
put-requires-in_default-clause-first g c = grind arith

pub shared_whole_as_slice-put-in-14 : goal.shared_whole_as_slice-put-in-14
shared_whole_as_slice-put-in-14 g c = grind arith

pub put-requires-in-14-clause-few : goal.put-requires-in-14-clause-few
put-requires-in-14-clause-few g c = grind arith

pub put-requires-in-14-clause-before : goal.put-requires-in-14-clause-before
put-requires-in-14-clause-before g c = grind arith

pub put-requires-in-14-clause-tags : goal.put-requires-in-14-clause-tags
put-requires-in-14-clause-tags g c = grind (arith, common_steps)

pub put-requires-in-14-clause-first : goal.put-requires-in-14-clause-first
put-requires-in-14-clause-first g c = grind arith

pub returns-in-1 : goal.returns-in-1
returns-in-1 g c = grind arith

pub returns-in-2 : goal.returns-in-2
returns-in-2 g c = grind arith

pub returns-in-8 : goal.returns-in-8
returns-in-8 g c = grind arith

pub returns-in-11 : goal.returns-in-11
returns-in-11 g c = grind arith

pub returns-in-13 : goal.returns-in-13
returns-in-13 g c = grind arith

pub returns-in_default : goal.returns-in_default
returns-in_default g c = grind arith

pub returns-in-14 : goal.returns-in-14
returns-in-14 g c = grind arith
