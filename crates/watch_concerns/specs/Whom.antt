-- For which entities an id concerns a query, found in one pass.
use Rattle.std.specs.Prelude.{◌||◌, List}
use Rattle.std.specs.List.{list_any}
use Rattle.ecs_id.specs.Id.{Id}
use Rattle.query_model.specs.declared.query.Term.{Term}
use Rattle.query_model.specs.Query.{Query}
use Rattle.watch_concerns.specs.declared.whom.Concern.{Concern}
use Rattle.watch_concerns.specs.Concerns.{concerns, term_concerns}
use Rattle.watch_concerns.specs.Others.{concerns_below, concerns_others, term_concerns_below, term_concerns_others}

abbrev pub joined_concerns : Concern → Concern → Concern
joined_concerns a b = record { anyone = a.anyone || b.anyone; others = a.others || b.others; below = a.below || b.below }

abbrev pub term_concern : Id → Term → Concern
term_concern i t = record { anyone = term_concerns i t; others = term_concerns_others i t; below = term_concerns_below i t }

abbrev pub terms_concern : Id → List Term → Concern
terms_concern i ts = record { anyone = list_any (term_concerns i) ts; others = list_any (term_concerns_others i) ts; below = list_any (term_concerns_below i) ts }

-- whether it does at all, for other entities, and for the entities below its holder
abbrev pub concern_of : Query → Id → Concern
concern_of q i = record { anyone = concerns q i; others = concerns_others q i; below = concerns_below q i }
