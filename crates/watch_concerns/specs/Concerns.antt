-- Which ids concern a query: if only facts with other ids are added and removed, it keeps rows of the same entities.
use Rattle.std.specs.Prelude.{ℕ, ◌==◌, Bool, true, false, ◌&&◌, ◌||◌, Option, Some, None}
use Rattle.std.specs.List.{list_any}
use Rattle.ecs_id.specs.Id.{Id, plain, pair}
use Rattle.ecs_model.specs.BuiltIns.{transitive, reflexive}
use Rattle.ecs_model.specs.steps.Rules.{prefab, disabled}
use Rattle.query_model.specs.declared.query.Ref.{Ref}
use Rattle.query_model.specs.declared.query.Ref.TheVariants.{Is, Var, Any, AnyOnce}
use Rattle.query_model.specs.declared.query.Term.{Term}
use Rattle.query_model.specs.Query.{Query}
use Rattle.query_check.specs.Terms.{terms}

-- whether a reference may stand for an entity; a variable may stand for any
abbrev pub may_be : ℕ → Ref → Bool
may_be e (Is d) = d == e
may_be e (Var v) = true
may_be e Any = true
may_be e AnyOnce = true

-- whether a pattern may match an id: with a target only pairs, without one only plain ids
abbrev pub may_match : Ref → Option Ref → Id → Bool
may_match first None (plain c) = may_be c first
may_match first None (pair r t) = false
may_match first (Some target) (plain c) = false
may_match first (Some target) (pair r t) = may_be r first && may_be t target

-- whether an id is a pair of a relationship, whatever its target
abbrev pub is_pair_of : Ref → Id → Bool
is_pair_of first (plain c) = false
is_pair_of first (pair r t) = may_be r first

-- whether an id is a pair along which a term goes up to ancestors
abbrev pub leads_up : Option ℕ → Id → Bool
leads_up None i = false
leads_up (Some r) i = is_pair_of (Is r) i

-- whether an id concerns a term: it may match the id, goes up along it, or follows it as transitive or reflexive
abbrev pub term_concerns : Id → Term → Bool
term_concerns i t = may_match t.component t.target i || leads_up t.up i || (t.closed && is_pair_of t.component i)

-- the tags that say how far a relationship reaches, and the tags that hide an entity from queries
abbrev pub is_asked_by_all : Id → Bool
is_asked_by_all (plain c) = c == transitive || c == reflexive || c == prefab || c == disabled
is_asked_by_all (pair r t) = false

-- whether an id concerns a query; terms inside groups count
unfoldable pub concerns : Query → Id → Bool
concerns q i = is_asked_by_all i || list_any (term_concerns i) (terms q)
