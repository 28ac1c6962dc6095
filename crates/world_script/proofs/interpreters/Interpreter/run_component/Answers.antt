use Rattle.std.proofs.Common.{Err, ap, subst}
use Rattle.std.specs.Prelude.{map}
use Rattle.ecs_model.specs.Schema.{Schema}
use Rattle.ecs_model.specs.steps.Step.{Component}
use Rattle.ecs_observe.specs.Answers.{AnswersApply, born, carried_out}
use Rattle.ecs_observe.specs.Standing.{session_of}
use Rattle.script_line.specs.Line.{seen_field}
use Rattle.world_script.proofs.Orders.{IfOk-component, IfOk-no_schema, tells_born}
use Rattle.world_script.proofs.interpreters.Interpreter.run_component.Goals as goal

pub returns-in-Ok : goal.returns-in-Ok
returns-in-Ok g c =
    let P : Schema → Type 0 = λ s. AnswersApply (born c.component-answer.result) (carried_out (session_of c.args.self.now.session) (Component c.args.name.now s)) c.args.self.now.session c.component-answer.new.self in
    IfOk-component c.tell_answer.result c.args.self.now.session c.component-answer.new.self c.tell_answer.new.self.session c.args.self.now.number c.args.self.now.output.items c.tell_answer.new.self.output.items
    (born c.component-answer.result) c.args.name.now (map seen_field c.args.fields.now) c.in-Ok.ensures.sound (subst P c.in-Ok.ensures.made c.component-answer.ensures.answers) (tells_born c.tell_answer.result c.component-answer.result c.args.self.now.number _ _ c.args.self.now.output.items c.tell_answer.new.self.output.items c.tell_answer.ensures)

pub returns-in-Err-Fault : goal.returns-in-Err-Fault
returns-in-Err-Fault g c =
    IfOk-no_schema c.refuse.result c.args.self.now.session c.args.self.now.number c.args.self.now.output.items c.refuse.new.output.items
    c.args.name.now (map seen_field c.args.fields.now) c.in-Err-Fault.fault ((c.in-Err-Fault.ensures.refused c.in-Err-Fault.fault).0 (ap Err c.in-Err-Fault.field-0-is)) (rw (← c.schema_fault_word.ensures) c.refuse.ensures)
