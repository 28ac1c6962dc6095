use Rattle.std.proofs.Common.{◌≡◌, true, take}
use Rattle.std.specs.List.{list_any}
use Rattle.id_pattern.specs.declared.Pattern.{Pattern}
use Rattle.component_index.specs.Mentions.{Keeps, may_match}
use Rattle.id_pattern.specs.Patterns.{matches}
use Rattle.component_index.proofs.mentions.note_all.Given as goal

abbrev pub invariant-loop-id : goal.invariant-loop-id
invariant-loop-id g l = ((p : Pattern) → list_any (matches p) (take l.id-index l.ids) ≡ true → may_match l.marks.items p ≡ true) × Keeps l.initial.marks.items l.marks.items
