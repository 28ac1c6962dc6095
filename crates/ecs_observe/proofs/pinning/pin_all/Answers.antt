use Rattle.std.proofs.Common.{false, ◌∙◌, arith}
use Rattle.query_model.specs.declared.query.Mention.{Mention}
use Rattle.ecs_observe.proofs.MentionCounts.{one_more_pinned}
use Rattle.ecs_observe.proofs.pinning.pin_all.Goals as goal

-- what stands for an item where there is none
abbrev nobody : Mention
nobody = record { entity = record { index = 0; generation = 0 }; traversable = false; transitive = false; reflexive = false; inherited = false }

pub loop-mention-preserved : goal.loop-mention-preserved
loop-mention-preserved g c = record {
  state =
      one_more_pinned c.pin.result c.args.world.now.state c.loop-mention.world.state c.pin.new.self.state c.args.mentions.now c.loop-mention.mention-index nobody c.requires (omega arith)
      c.loop-mention.invariant.state c.pin.ensures.answers;
  tables = c.pin.ensures.tables ∙ c.loop-mention.invariant.tables;
}
