-- The first reason that applies, and the words of refusals.
use Rattle.std.specs.Prelude.{ℕ, Bool, List, Option, option_map, codes}
use Rattle.std.specs.List.{find}
use Rattle.ecs_model.specs.declared.faults.Refusal.{Refusal}
use Rattle.ecs_model.specs.declared.faults.Refusal.TheVariants.{Dead, UnknownName, BadName, NameTaken, BuiltIn, NoData, Count, Range, TraitFixed, InUse, Cycle, TooManyIds, Panic, Full}
use Rattle.ecs_model.specs.declared.faults.SchemaFault.{SchemaFault}
use Rattle.ecs_model.specs.declared.faults.SchemaFault.TheVariants.{TooManyFields, NoFields, BadField}

-- the first reason whose test is true, of a world's command or of a session's
abbrev pub first_reason : {A : Type 0} → List (Bool × A) → Option A
first_reason reasons = option_map (λ p. p.1) (find (λ p. p.0) reasons)

-- the place of a refusal in the order of refusals
abbrev pub refusal_number : Refusal → ℕ
refusal_number Dead = 1
refusal_number UnknownName = 2
refusal_number BadName = 3
refusal_number NameTaken = 4
refusal_number BuiltIn = 5
refusal_number NoData = 6
refusal_number Count = 7
refusal_number Range = 8
refusal_number TraitFixed = 9
refusal_number InUse = 10
refusal_number Cycle = 11
refusal_number TooManyIds = 12
refusal_number Panic = 13
refusal_number Full = 14

-- the word of a refusal
abbrev pub refusal_text : Refusal → List ℕ
refusal_text Dead = codes "Dead"
refusal_text UnknownName = codes "UnknownName"
refusal_text BadName = codes "BadName"
refusal_text NameTaken = codes "NameTaken"
refusal_text BuiltIn = codes "BuiltIn"
refusal_text NoData = codes "NoData"
refusal_text Count = codes "Count"
refusal_text Range = codes "Range"
refusal_text TraitFixed = codes "TraitFixed"
refusal_text InUse = codes "InUse"
refusal_text Cycle = codes "Cycle"
refusal_text TooManyIds = codes "TooManyIds"
refusal_text Panic = codes "Panic"
refusal_text Full = codes "Full"

-- the word of a faulty list of fields
abbrev pub schema_fault_text : SchemaFault → List ℕ
schema_fault_text TooManyFields = codes "TooManyFields"
schema_fault_text NoFields = codes "NoFields"
schema_fault_text BadField = codes "BadField"
