use Rattle.std.proofs.Common.{ap, ◌∙◌}
use Rattle.ecs_model.specs.Script.{form_or_bad}
use Rattle.script_line.specs.Line.{deed_line, seen_deed}
use Rattle.world_script.proofs.ReadLines.{does_bad}
use Rattle.world_script.proofs.interpreters.Interpreter.run_fact_line.Goals as goal

pub returns-in-None : goal.returns-in-None
returns-in-None g c =
    let bad = c.in_ok-fact.ensures ∙ ap (form_or_bad (seen_deed c.args.deed c.fact_behind.new.values.items)) c.in-None.is in
    does_bad c.refuse.result c.args.self.now.session c.args.self.now.number c.args.self.now.output.items c.refuse.new.output.items (deed_line c.args.deed c.args.rest.now) bad c.refuse.ensures
