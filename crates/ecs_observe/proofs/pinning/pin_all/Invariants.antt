use Rattle.std.proofs.Common.{◌≡◌, take}
use Rattle.ecs_model.specs.stored.Session.{pinned_by}
use Rattle.ecs_observe.proofs.pinning.pin_all.Given as goal

-- those before this one are counted once more
abbrev pub invariant-loop-mention : goal.invariant-loop-mention
invariant-loop-mention g l = record {
  state : (l.world).state ≡ pinned_by (l.fn.world).state (take l.mention-index l.mentions);
  tables : (l.world).tables ≡ (l.fn.world).tables;
}
