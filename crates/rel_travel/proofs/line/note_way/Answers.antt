use Rattle.std.proofs.Common.{arith}
use Rattle.rel_travel.proofs.line.note_way.Goals as goal

pub way-init : goal.way-init
way-init g c = grind arith

pub returns-then-is_empty-clause-room : goal.returns-then-is_empty-clause-room
returns-then-is_empty-clause-room g c = grind arith

pub returns-then-is_empty-clause-known : goal.returns-then-is_empty-clause-known
returns-then-is_empty-clause-known g c = grind arith

pub way-smaller : goal.way-smaller
way-smaller g c = grind arith

pub way-preserved : goal.way-preserved
way-preserved g c = grind arith

pub returns-clause-room : goal.returns-clause-room
returns-clause-room g c = grind arith

pub returns-clause-known : goal.returns-clause-known
returns-clause-known g c = grind arith
