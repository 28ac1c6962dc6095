use Rattle.std.proofs.lemmas.Grind.{common_steps}
use Rattle.std.proofs.Common.{ap, length, subst, sym, arith}
use Rattle.std.specs.List.{Contains}
use Rattle.rel_travel.specs.Words.{NoneNoted}
use Rattle.rel_travel.proofs.depths.own_depth.Goals as goal

pub forget-requires-clause-within : goal.forget-requires-clause-within
forget-requires-clause-within g c = λ i h.
    let none : NoneNoted c.as_mut_slice-known.result.now = subst NoneNoted (sym c.as_mut_slice-known.ensures.value) c.make_words.ensures.none in
    let low = c.noted_depth-depth.ensures.listed none i (subst (λ xs. Contains xs i) c.as_slice.ensures.items h) in
    omega (arith, low, c.noted_depth-depth.ensures.length, ap length c.as_mut_slice-known.ensures.value, c.make_words.ensures.covered, c.size.ensures.size)

pub returns-clause-none : goal.returns-clause-none
returns-clause-none g c = grind (arith, common_steps)
