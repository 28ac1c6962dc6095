-- References to entities and ids as the code has them, in the form of the definitions.
use Rattle.ecs_model.specs.Orders.{EntityRef, by_name, by_handle, IdRef, plain_of, pair_of}
use Rattle.ecs_model.specs.declared.references.Reference.{Reference}
use Rattle.ecs_model.specs.declared.references.Reference.TheVariants.{Name, Handle}
use Rattle.ecs_model.specs.declared.references.IdReference.{IdReference}
use Rattle.ecs_model.specs.declared.references.IdReference.TheVariants.{Plain, Pair}

-- a reference to an entity
abbrev pub seen_reference : Reference → EntityRef
seen_reference (Name name) = by_name name.now
seen_reference (Handle e) = by_handle e.index e.generation

-- references of an id
abbrev pub seen_id : IdReference → IdRef
seen_id (Plain r) = plain_of (seen_reference r)
seen_id (Pair r t) = pair_of (seen_reference r) (seen_reference t)
