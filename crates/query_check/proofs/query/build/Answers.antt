-- Visible names, `$this` and pieces.
use Rattle.std.proofs.Common.{◌∙◌, ap, map}
use Rattle.query_check.specs.Seen.{seen_cascading, seen_occurrence, seen_piece, seen_use, seen_variable, syntax_of}
use Rattle.query_model.specs.Seen.{seen_part}
use Rattle.query_check.proofs.BuiltPieces.{query_built}
use Rattle.query_check.proofs.query.build.Goals as goal

pub returns : goal.returns
returns g c =
    query_built (g.W.Lookup.known c.args.world.now) (syntax_of (map seen_part c.args.parts.now) c.args.text_length) (map (λ n. n.items) c.in_ok-visible.visible.items) c.has_this.result (map seen_piece c.in_ok-pieces.pieces.items) c.cascade_of.result c.in_ok-mentions.mentions.items
    (map seen_use c.args.uses.now) (map seen_occurrence c.args.found.now) (map seen_variable c.as_slice-numbered.result.now) (map seen_cascading c.args.cascades.now) c.requires.uses c.requires.occurrences
    (ap (map seen_variable) c.as_slice-numbered.ensures.value ∙ c.in_ok-numbered.ensures)
    c.requires.cascades c.in_ok-visible.ensures c.has_this.ensures c.in_ok-pieces.ensures c.cascade_of.ensures c.in_ok-mentions.ensures
