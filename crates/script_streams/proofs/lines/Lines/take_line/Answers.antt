use Rattle.std.proofs.Common.{rules}
use Rattle.script_streams.specs.Lines.{part}
use Rattle.script_streams.proofs.KeptLines.{kept_joined}
use Rattle.script_streams.proofs.lines.Lines.take_line.Goals as goal

pub returns-in_ok-keep_front-2-clause-taken : goal.returns-in_ok-keep_front-2-clause-taken
returns-in_ok-keep_front-2-clause-taken g c =
    let held = c.self.inside in
    let line = part held.begin c.in-Some.at held.piece.items in
    (line, search rules, search rules, kept_joined _ _ _ _ c.if-self.true (search rules), search rules)
