-- What a contract sees of a list of ids with data.
use Rattle.std.specs.Prelude.{List}
use Rattle.ecs_id.specs.Id.{Id}
use Rattle.ecs_table.specs.declared.data_ids.KeptIds.{KeptIds}
use Rattle.ecs_table.specs.declared.data_ids.KeptIds.TheVariants.{Few, Many}

-- the ids of a list in each of its forms
abbrev pub data_ids_of : {A : Type 0} → KeptIds A → List Id
data_ids_of (Few few) = few.items
data_ids_of (Many many) = many
