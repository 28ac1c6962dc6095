use Rattle.std.proofs.Common.{◌≡◌, ◌≢◌, ◌≤◌, ◌<◌, ◌+◌, ◌-◌, ◌*◌, ◌^◌, ℕ, [], get_or, length}
use Rattle.std.specs.List.{Contains, sum_by}
use Rattle.ecs_model.specs.Links.{depth, upward}
use Rattle.rel_travel.specs.Words.{AreNumbers, IsNotedOf, NoneNoted}
use Rattle.rel_travel.proofs.DepthWalks.{AreAsked, AreUnknown, IsWay, unknown}
use Rattle.rel_travel.proofs.depths.noted_depth.Given as goal

abbrev pub invariant-loop-step : goal.invariant-loop-step
invariant-loop-step g l = record {
  size : l.found.size ≡ l.initial.found.size;
  room : l.initial.path.room ≤ l.path.room;
  long : length l.known ≡ length l.initial.known;
  numbers : AreNumbers (depth (g.G.Graph.ids l.graph) (g.G.Graph.entities l.graph) l.relationship) l.known;
  way : IsWay (upward (g.G.Graph.ids l.graph) l.relationship) l.index l.path.steps;
  asked : AreAsked (g.G.Graph.ids l.graph) l.relationship l.known l.path.steps;
  unknown : AreUnknown (upward (g.G.Graph.ids l.graph) l.relationship) l.index l.known l.path.steps;
  done : l.path.steps ≡ [] → get_or l.known l.index 0 ≢ 0;
  noted : NoneNoted l.initial.known → IsNotedOf l.found.items l.known;
  listed : (i : ℕ) → Contains l.found.items i → i < g.G.Graph.size l.graph;
}

-- the words that are 0, and then the steps that the way may still have
abbrev pub decreases-loop-step : goal.decreases-loop-step
decreases-loop-step g l = sum_by unknown l.known * 2 ^ 64 + (g.G.Graph.size l.graph + 2 - length l.path.steps)
