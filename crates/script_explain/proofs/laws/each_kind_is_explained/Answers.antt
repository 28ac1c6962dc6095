-- By the table, kind by kind.
use Rattle.std.proofs.Common.{◌≡◌, true, refl}
use Rattle.query_model.specs.declared.faults.FaultKind.{FaultKind}
use Rattle.query_model.specs.declared.faults.FaultKind.TheVariants as fault
use Rattle.ecs_model.specs.declared.faults.Refusal.{Refusal}
use Rattle.ecs_model.specs.declared.faults.Refusal.TheVariants as refusal
use Rattle.ecs_model.specs.declared.faults.SchemaFault.{SchemaFault}
use Rattle.ecs_model.specs.declared.faults.SchemaFault.TheVariants as fields
use Rattle.ecs_model.specs.Print.{fault_word}
use Rattle.ecs_model.specs.Refusal.{refusal_text, schema_fault_text}
use Rattle.script_explain.specs.Kinds.{is_explained}
use Rattle.script_explain.proofs.laws.each_kind_is_explained.Goals as goal

of_refusals : (r : Refusal) → is_explained (refusal_text r) ≡ true
of_refusals refusal.Dead = refl
of_refusals refusal.UnknownName = refl
of_refusals refusal.BadName = refl
of_refusals refusal.NameTaken = refl
of_refusals refusal.BuiltIn = refl
of_refusals refusal.NoData = refl
of_refusals refusal.Count = refl
of_refusals refusal.Range = refl
of_refusals refusal.TraitFixed = refl
of_refusals refusal.InUse = refl
of_refusals refusal.Cycle = refl
of_refusals refusal.TooManyIds = refl
of_refusals refusal.Panic = refl
of_refusals refusal.Full = refl

of_fields : (f : SchemaFault) → is_explained (schema_fault_text f) ≡ true
of_fields fields.TooManyFields = refl
of_fields fields.NoFields = refl
of_fields fields.BadField = refl

of_faults : (k : FaultKind) → is_explained (fault_word k) ≡ true
of_faults fault.Lex = refl
of_faults fault.Syntax = refl
of_faults fault.UnknownName = refl
of_faults fault.NotTraversable = refl
of_faults fault.UnboundVariable = refl
of_faults fault.WildcardSource = refl
of_faults fault.WildcardEquality = refl
of_faults fault.TooManyTerms = refl
of_faults fault.TooManyVariables = refl
of_faults fault.TooDeep = refl
of_faults fault.NoThis = refl
of_faults fault.NotOneTerm = refl
of_faults fault.CascadePlace = refl

pub returns : goal.returns
returns c = (of_refusals, of_fields, of_faults)
