-- The tables that kept queries list.
use Rattle.std.specs.Prelude.{List, All}
use Rattle.std.specs.declared.string.String.{String}
use Rattle.table_store.specs.Store.{Store}
use Rattle.watch_stored.specs.Held.{Held}
use Rattle.watch_stored.specs.declared.stored.StoredQuery.{StoredQuery}
use Rattle.watch_stored.specs.Lists.{HasList, ListsTables}

-- a kept query has a list that belongs to it and fits a store; other kinds have none
abbrev pub HasItsList : Store → Held → Type 0
HasItsList s h = ListsTables s h.kind h.query h.list

abbrev pub HaveLists : {A : Type 0} → Store → List (String A × StoredQuery A) → Type 0
HaveLists s es = All (λ e. HasList s e.1) es

-- if all have their lists before, all have them after
abbrev pub KeepLists : {A : Type 0} → List (String A × StoredQuery A) → List (String A × StoredQuery A) → Type 0
KeepLists before after = (s : Store) → HaveLists s before → HaveLists s after
