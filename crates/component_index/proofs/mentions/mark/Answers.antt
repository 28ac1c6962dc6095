use Rattle.std.proofs.Common.{true, false, inl, inr, refl, ◌∙◌}
use Rattle.std.proofs.lemmas.Bool.{cases_eq}
use Rattle.std.proofs.lemmas.Grind.{get_or-set_at}
use Rattle.std.proofs.lemmas.List.{get_or-set_other}
use Rattle.component_index.proofs.mentions.mark.Goals as goal

pub returns-in_err-reach-clause-kept : goal.returns-in_err-reach-clause-kept
returns-in_err-reach-clause-kept g c = λ i h. c.reach.ensures.same i ∙ h

pub returns-clause-marked : goal.returns-clause-marked
returns-clause-marked g c = get_or-set_at c.reach.new.marks.items c.args.index c.args.index true false refl c.in_ok-reach.ensures.within

pub returns-clause-kept : goal.returns-clause-kept
returns-clause-kept g c = λ i h. elim (cases_eq i c.args.index) [
  | inl same ↦ get_or-set_at c.reach.new.marks.items c.args.index i true false same c.in_ok-reach.ensures.within
  | inr other ↦ get_or-set_other c.reach.new.marks.items c.args.index i true false other ∙ c.reach.ensures.same i ∙ h
]
