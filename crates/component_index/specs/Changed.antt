-- What a change makes of the tables that are entered.
use Rattle.std.specs.FinMap as finite
use Rattle.component_index.specs.declared.register.Change.{Change}
use Rattle.component_index.specs.declared.register.Change.TheVariants.{Enters, Leaves}
use Rattle.component_index.specs.Entered.{Entered}

abbrev pub changed : Entered → Change → Entered
changed tables (Enters key ids) = finite.insert tables key ids.now
changed tables (Leaves key) = finite.remove tables key
