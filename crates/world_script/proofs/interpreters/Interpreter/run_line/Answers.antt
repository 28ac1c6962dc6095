use Rattle.std.proofs.Common.{subst}
use Rattle.ecs_model.specs.Output.{effect_of}
use Rattle.ecs_model.specs.Script.{Form}
use Rattle.ecs_observe.specs.Standing.{session_of}
use Rattle.world_script.specs.Run.{Does}
use Rattle.world_script.proofs.SentFronts.{none_waits-sent}
use Rattle.world_script.proofs.interpreters.Interpreter.run_line.Goals as goal

pub returns-clause-none_wait : goal.returns-clause-none_wait
returns-clause-none_wait g c =
    let old = c.args.self.now.session in
    let P : Form → Type 0 = λ f. Does (effect_of (session_of old) c.args.self.now.number f) (session_of c.run_opened.new.self.session) (g.W.Sink.contents c.args.writer.now) (g.W.Sink.contents c.run_opened.new.writer) c.args.self.now.output.items c.run_opened.new.self.output.items c.run_opened.result in
    none_waits-sent c.run_opened.result _ _ old c.run_opened.new.self.session c.args.self.now.number c.args.line.now _ _ c.requires.none_wait (subst P c.line_opened.ensures c.run_opened.ensures.does)
