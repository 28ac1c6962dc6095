-- Which ids concern a query for entities besides the one that holds them.
use Rattle.std.specs.Prelude.{◌==◌, Bool, false, not, ◌&&◌, ◌||◌, is_some}
use Rattle.std.specs.List.{list_any}
use Rattle.ecs_id.specs.Id.{Id, plain, pair}
use Rattle.ecs_model.specs.BuiltIns.{transitive, reflexive}
use Rattle.query_model.specs.declared.query.Term.{Term}
use Rattle.query_model.specs.Observers.{is_first}
use Rattle.query_model.specs.Query.{Query}
use Rattle.query_check.specs.Terms.{terms}
use Rattle.watch_concerns.specs.Concerns.{term_concerns}

-- whether a term tests stored facts of `$this` or of its ancestors. A closed term also matches facts that aren't stored
abbrev pub asks_this_stored : Term → Bool
asks_this_stored t = is_first t.source && not t.closed

-- whether an id concerns a term whose source is another entity, or a closed term
abbrev pub term_concerns_others : Id → Term → Bool
term_concerns_others i t = not (asks_this_stored t) && term_concerns i t

-- the tags that say how far a relationship reaches
abbrev pub says_how_far : Id → Bool
says_how_far (plain c) = c == transitive || c == reflexive
says_how_far (pair r t) = false

-- whether an id concerns a query for entities besides its holder and those below it; terms inside groups count
unfoldable pub concerns_others : Query → Id → Bool
concerns_others q i = says_how_far i || list_any (term_concerns_others i) (terms q)

-- whether an id concerns a term that tests the ancestors of `$this`
abbrev pub term_concerns_below : Id → Term → Bool
term_concerns_below i t = asks_this_stored t && is_some t.up && term_concerns i t

-- whether an id concerns a query for the entities below its holder, whose ancestor it is; terms inside groups count
unfoldable pub concerns_below : Query → Id → Bool
concerns_below q i = list_any (term_concerns_below i) (terms q)
