-- What calls that may make tables leave of those that stood.
use Rattle.ecs_archetypes.specs.Archetypes.{known_in}
use Rattle.ecs_table.specs.Archetype.{Shape}
use Rattle.ecs_archetypes.specs.Holdings.{AreHoldings, KeepsSizes}
use Rattle.ecs_archetypes.specs.Housing.{Housing, IsHoused, holdings_of}
use Rattle.ecs_archetypes.specs.Staying.{TablesStay, none_goes}
use Rattle.table_store.specs.Going.{TablesGoOn}

-- the tables go on, each that stood stands with its ids, and what is known of sizes stays, beside these; each entity's place is that of its row
pub record TablesLast (added : Shape) (h n : Housing) : Type 0 where
  pub sizes : KeepsSizes (known_in h.tables) added (known_in n.tables)
  pub goes_on : TablesGoOn h.tables n.tables
  pub stay : TablesStay none_goes h.tables n.tables
  pub holdings : AreHoldings (holdings_of n)
  pub whole : IsHoused n
