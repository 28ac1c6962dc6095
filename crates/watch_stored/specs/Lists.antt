-- The tables that a kept query lists.
use Rattle.std.specs.Prelude.{◌≡◌, Option, IfSome, is_some, not, []}
use Rattle.ecs_model.specs.declared.watches.StoredKind.{StoredKind}
use Rattle.ecs_model.specs.stored.Watches.{is_told}
use Rattle.query_cache.specs.Kept.{Fits, Kept}
use Rattle.query_cache.specs.Patterns.{patterns_of}
use Rattle.query_model.specs.Query.{Query}
use Rattle.table_store.specs.Store.{Store}
use Rattle.watch_stored.specs.declared.stored.StoredQuery.{StoredQuery}

-- a list of tables belongs to a query, and fits a store
pub record IsListOf (q : Query) (s : Store) (list : Kept) : Type 0 where
  pub patterns : list.patterns ≡ patterns_of q
  pub fits : Fits list s

-- a kept query has a list, which belongs to it and fits a store; other kinds have none
pub record ListsTables (s : Store) (kind : StoredKind) (q : Query) (held : Option Kept) : Type 0 where
  pub kept : is_some held ≡ not (is_told kind)
  pub list : IfSome held (IsListOf q s)

abbrev pub HasList : {A : Type 0} → Store → StoredQuery A → Type 0
HasList s q = ListsTables s q.kind (q.plan).query q.list

-- the same for every store, as for a new list
abbrev pub HasNewList : {A : Type 0} → StoredQuery A → Type 0
HasNewList q = (s : Store) → HasList s q

abbrev pub IsNewList : Query → Option Kept → Type 0
IsNewList q list = (s : Store) → IfSome list (IsListOf q s)

-- a list of no table yet, for which no table was judged
pub record IsBlank (list : Kept) : Type 0 where
  pub keys : list.keys ≡ []
  pub last : list.last ≡ 0
  pub judged : list.judged ≡ 0
