-- The rows to come, by either way.
use Rattle.world_rows.specs.Coming.{Coming}
use Rattle.world_rows.specs.declared.way.Way.{Way}
use Rattle.world_rows.specs.declared.way.Way.TheVariants.{Tables, Search}

abbrev pub coming_by : {W A : Type 0} → Way W A → Coming
coming_by (Tables r) = r
coming_by (Search r) = r
