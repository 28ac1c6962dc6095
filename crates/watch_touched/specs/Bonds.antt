-- The classes of a query, which are used at each command.
use Rattle.watch_concerns.specs.Anchored.{is_anchored}
use Rattle.watch_concerns.specs.Linked.{is_linked}
use Rattle.watch_concerns.specs.Tied.{is_tied}
use Rattle.query_model.specs.Query.{Query}
use Rattle.watch_touched.specs.declared.bonds.Bonds.{Bonds}

-- whether a query is anchored, tied, and linked
abbrev pub bonds_of : Query → Bonds
bonds_of q = record { anchored = is_anchored q; tied = is_tied q; linked = is_linked q }
