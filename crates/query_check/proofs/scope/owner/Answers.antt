-- A level further out at each turn.
use Rattle.std.proofs.Common.{◌<◌, ◌≤◌, ◌-◌, [], ap, refl, sym, ◌∙◌, get_or, length, map, arith}
use Rattle.std.specs.Prelude.{if◌then◌else◌}
use Rattle.query_check.specs.Places.{place_of}
use Rattle.query_check.specs.Seen.{seen_occurrence}
use Rattle.query_model.specs.Scope.{occurs_in}
use Rattle.query_check.proofs.LevelWalks.{walk_on}
use Rattle.query_check.proofs.scope.owner.Goals as goal
use Rattle.query_check.proofs.scope.owner.Goals.{then-occurs_in-2, else-occurs_in-2}

pub loop-inner-preserved : goal.loop-inner-preserved
loop-inner-preserved c =
    let test = occurs_in (map seen_occurrence c.args.occurrences.now) c.args.name.now in
    let places = c.args.places.now in
    let inner = c.loop-inner.inner in
    let low : 0 < inner = omega arith in
    let within : inner - 1 < length places = let high = c.loop-inner.invariant.0 in omega arith in
    let outer : (get_or places (inner - 1) (place_of [])).outer ≤ inner - 1 = (c.requires.tree (inner - 1) (place_of []) within).1 in (
      omega arith,
      λ path at rooted.
          walk_on test places path inner c.loop-inner.owner _ _ (place_of []) (c.loop-inner.invariant.1 path at rooted) low refl
          (elim c.if-occurs_in-2.branch [
            | then-occurs_in-2 w ↦ w.owner-is ∙ ap (λ b. if b then inner else c.loop-inner.owner) (sym w.if-occurs_in-2.true ∙ c.occurs_in-in-loop-inner.ensures)
            | else-occurs_in-2 w ↦ w.owner-is ∙ ap (λ b. if b then inner else c.loop-inner.owner) (sym w.if-occurs_in-2.false ∙ c.occurs_in-in-loop-inner.ensures)
          ]),
    )
