use Rattle.std.proofs.Common.{◌≡◌, ◌+◌, ◌-◌, ◌*◌, ◌^◌, ◌≤◌, ◌∷◌, length, find}
use Rattle.std.specs.List.{sum_by}
use Rattle.id_pattern.specs.Patterns.{matches}
use Rattle.std.specs.List.{list_any}
use Rattle.ecs_model.specs.Links.{ancestor_line}
use Rattle.rel_travel.specs.UpWords.{AreKnown}
use Rattle.rel_travel.proofs.LineSearch.{IsSearched}
use Rattle.rel_travel.proofs.line.first_hit.Given as goal

-- the steps that are left: those into entities that were not found, and those along the ids of the path's entities
abbrev pub invariant-loop-step : goal.invariant-loop-step
invariant-loop-step g l = record {
  size : l.found.size ≡ l.initial.found.size;
  room : l.initial.path.room ≤ l.path.room;
  fits : length l.found.items ≤ l.found.size;
  depth : length l.path.steps ≤ length l.found.items + 1;
  searched : IsSearched (g.G.Graph.ids l.graph) l.relationship (λ t. list_any (matches l.pattern) (g.G.Graph.ids l.graph t)) (ancestor_line (g.G.Graph.ids l.graph) (g.G.Graph.entities l.graph) l.relationship) l.index l.path.steps l.found.items;
  known : AreKnown (λ e. find (λ t. list_any (matches l.pattern) (g.G.Graph.ids l.graph t)) (e ∷ ancestor_line (g.G.Graph.ids l.graph) (g.G.Graph.entities l.graph) l.relationship e)) (g.K.Known.words l.known);
}

abbrev pub decreases-loop-step : goal.decreases-loop-step
decreases-loop-step g l = (l.found.size - length l.found.items) * 2 ^ 64 + sum_by (λ f. length (g.G.Graph.ids l.graph f.index) - f.place + 1) l.path.steps
