use Rattle.std.proofs.Common.{◌∙◌, length, sym, ap}
use Rattle.std.specs.Prelude.{◌&&◌, map}
use Rattle.std.proofs.lemmas.List.{length-map}
use Rattle.query_check.specs.Seen.{seen_piece}
use Rattle.watch_concerns.specs.FromLeft.{groups_from}
use Rattle.watch_concerns.proofs.BondsFromLeft.{all_bound_left}
use Rattle.watch_concerns.proofs.bonds.are_all_bound.Goals as goal

pub returns-then-are_visible_bound : goal.returns-then-are_visible_bound
returns-then-are_visible_bound g c =
    let bond = c.args.bond.now in
    let count = sym (length-map c.variables-visible.result.now (λ n. n.items)) ∙ ap length c.variables-visible.ensures in
    let is = all_bound_left bond c.args.query.now c.terms-terms.result.now (map seen_piece c.pieces-pieces.result.now) (length c.variables-visible.result.now) c.terms-terms.ensures c.pieces-pieces.ensures count in
    (λ k. sym c.if-are_visible_bound.true k && c.are_groups_bound.result) ∙ (λ k. c.are_visible_bound.ensures k && c.are_groups_bound.ensures k) ∙ is

pub returns-else-are_visible_bound : goal.returns-else-are_visible_bound
returns-else-are_visible_bound g c =
    let bond = c.args.bond.now in
    let pieces = map seen_piece c.pieces-pieces.result.now in
    let count = sym (length-map c.variables-visible.result.now (λ n. n.items)) ∙ ap length c.variables-visible.ensures in
    let is = all_bound_left bond c.args.query.now c.terms-terms.result.now pieces (length c.variables-visible.result.now) c.terms-terms.ensures c.pieces-pieces.ensures count in
    c.if-are_visible_bound.false ∙ (λ k. (sym c.if-are_visible_bound.false ∙ c.are_visible_bound.ensures) k && groups_from bond c.terms-terms.result.now pieces) ∙ is
