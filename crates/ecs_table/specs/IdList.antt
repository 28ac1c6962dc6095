-- What a contract sees of a list of ids.
use Rattle.std.specs.Prelude.{List}
use Rattle.ecs_id.specs.Id.{Id}
use Rattle.ecs_table.specs.declared.id_list.Kept.{Kept}
use Rattle.ecs_table.specs.declared.id_list.Kept.TheVariants.{Few, Many}

abbrev pub kept_ids : {A : Type 0} → Kept A → List Id
kept_ids (Few few) = few.items
kept_ids (Many many) = many.items
