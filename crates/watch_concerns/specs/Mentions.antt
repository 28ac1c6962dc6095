-- How many stored queries mention an entity.
use Rattle.std.specs.Prelude.{ℕ, ◌==◌, Bool, List, count_by}
use Rattle.std.specs.List.{list_any}
use Rattle.query_model.specs.Query.{Query}
use Rattle.query_model.specs.declared.query.Mention.{Mention}

-- whether one of these mentions is of the entity at an index
abbrev pub mentions_index : List Mention → ℕ → Bool
mentions_index ms i = list_any (λ m. (m.entity).index == i) ms

-- how many of these are
abbrev pub times_in : ℕ → List Mention → ℕ
times_in i ms = count_by (λ m. (m.entity).index == i) ms

-- how many queries mention it
abbrev pub times : ℕ → List Query → ℕ
times i qs = count_by (λ q. mentions_index q.mentions i) qs
