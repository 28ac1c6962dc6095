-- One more reference at each turn.
use Rattle.std.proofs.Common.{map, refl}
use Rattle.std.proofs.lemmas.List.{length-map}
use Rattle.query_check.specs.Seen.{seen_use}
use Rattle.query_check.proofs.BuiltPieces.{all_mentioned, one_mentioned}
use Rattle.query_check.proofs.query.mentions.Goals as goal

pub loop-used-init : goal.loop-used-init
loop-used-init g c = rw c.in_ok-mentions.ensures.items (record { left = refl })

pub loop-used-preserved : goal.loop-used-preserved
loop-used-preserved g c =
    one_mentioned (g.W.Lookup.known c.args.world.now) seen_use c.args.uses.now c.loop-used.used-index c.loop-used.mentions.items _ _ _ c.loop-used.invariant c.loop-used-test.true refl c.in_ok-add_named.ensures

pub returns : goal.returns
returns g c = all_mentioned (g.W.Lookup.known c.args.world.now) (map seen_use c.args.uses.now) c.loop-used.used-index c.loop-used.mentions.items c.loop-used.invariant (rw length-map c.loop-used-test.false)
