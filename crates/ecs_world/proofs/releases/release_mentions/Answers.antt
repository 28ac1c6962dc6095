-- What mentions an entity goes in three steps.
use Rattle.id_pattern.specs.Patterns.{matches}
use Rattle.ecs_world.proofs.ReleasedTables.{AreLeft, left_matched, left_mentions, no_rows, pairs_mention, pairs_of, pairs_to, plain_mentions, plain_of, targets_mention, unheld_still}
use Rattle.ecs_world.proofs.releases.release_mentions.Goals as goal

pub release_matched-requires : goal.release_matched-requires
release_matched-requires g c = record {
  empty = no_rows c.args.archetypes.now (plain_of c.args.index) c.requires.whole (λ e i h. c.requires.unheld e i (plain_mentions c.args.index i h));
}

pub release_matched-requires-2 : goal.release_matched-requires-2
release_matched-requires-2 g c =
    let first : AreLeft (matches (plain_of c.args.index)) c.args.archetypes.now c.release_matched.new.self =
    left_matched (plain_of c.args.index) c.args.archetypes.now c.release_matched.new.self c.release_matched.ensures.whole c.release_matched.ensures.held c.release_matched.ensures.gone c.release_matched.ensures.others in
    record {
      empty = no_rows c.release_matched.new.self (pairs_of c.args.index) c.release_matched.ensures.whole
          (unheld_still (matches (plain_of c.args.index)) (matches (pairs_of c.args.index)) c.args.archetypes.now c.release_matched.new.self first (λ e i h. c.requires.unheld e i (pairs_mention c.args.index i h)));
    }

pub release_matched-requires-3 : goal.release_matched-requires-3
release_matched-requires-3 g c =
    let first : AreLeft (matches (plain_of c.args.index)) c.args.archetypes.now c.release_matched.new.self =
    left_matched (plain_of c.args.index) c.args.archetypes.now c.release_matched.new.self c.release_matched.ensures.whole c.release_matched.ensures.held c.release_matched.ensures.gone c.release_matched.ensures.others in
    let second : AreLeft (matches (pairs_of c.args.index)) c.release_matched.new.self c.release_matched-2.new.self =
    left_matched (pairs_of c.args.index) c.release_matched.new.self c.release_matched-2.new.self c.release_matched-2.ensures.whole c.release_matched-2.ensures.held c.release_matched-2.ensures.gone c.release_matched-2.ensures.others in
    record {
      empty = no_rows c.release_matched-2.new.self (pairs_to c.args.index) c.release_matched-2.ensures.whole
          (unheld_still (matches (pairs_of c.args.index)) (matches (pairs_to c.args.index)) c.release_matched.new.self c.release_matched-2.new.self second
          (unheld_still (matches (plain_of c.args.index)) (matches (pairs_to c.args.index)) c.args.archetypes.now c.release_matched.new.self first (λ e i h. c.requires.unheld e i (targets_mention c.args.index i h))));
    }

pub returns : goal.returns
returns g c =
    let first : AreLeft (matches (plain_of c.args.index)) c.args.archetypes.now c.release_matched.new.self =
    left_matched (plain_of c.args.index) c.args.archetypes.now c.release_matched.new.self c.release_matched.ensures.whole c.release_matched.ensures.held c.release_matched.ensures.gone c.release_matched.ensures.others in
    let second : AreLeft (matches (pairs_of c.args.index)) c.release_matched.new.self c.release_matched-2.new.self =
    left_matched (pairs_of c.args.index) c.release_matched.new.self c.release_matched-2.new.self c.release_matched-2.ensures.whole c.release_matched-2.ensures.held c.release_matched-2.ensures.gone c.release_matched-2.ensures.others in
    let third : AreLeft (matches (pairs_to c.args.index)) c.release_matched-2.new.self c.release_matched-3.new.self =
    left_matched (pairs_to c.args.index) c.release_matched-2.new.self c.release_matched-3.new.self c.release_matched-3.ensures.whole c.release_matched-3.ensures.held c.release_matched-3.ensures.gone c.release_matched-3.ensures.others in
    left_mentions c.args.index c.args.archetypes.now c.release_matched.new.self c.release_matched-2.new.self c.release_matched-3.new.self first second third
