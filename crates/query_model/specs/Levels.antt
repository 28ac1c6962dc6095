-- Where the parts of a query stand.
use Rattle.std.specs.Prelude.{ℕ, ◌+◌, List, [], ◌∷◌, map, drop}
use Rattle.query_model.specs.declared.syntax.Role.TheVariants.{Or, Not}
use Rattle.query_model.specs.Syntax.{TermSyntax, Part, term, opened, closed}

-- the levels in which a part stands besides the whole query, innermost first: each is named by the number of the part that begins it
abbrev pub Path : Type 0
Path = List ℕ

-- the innermost level of a path, 0 for the whole query
abbrev pub level_of : Path → ℕ
level_of [] = 0
level_of (l ∷ ls) = l

-- where a part with a number stands: a group and a Not term stand in the level that they begin
abbrev pub path_in : ℕ → Path → Part → Path
path_in n path (opened s) = n ∷ path
path_in n path (term Not t) = n ∷ path
path_in n path p = path

-- where the part after it stands, unless that begins a level
abbrev pub path_behind : ℕ → Path → Part → Path
path_behind n path (opened s) = n ∷ path
path_behind n path closed = drop 1 path
path_behind n path p = path

-- each part with its path. n is the first part's number
abbrev pub placed : ℕ → Path → List Part → List (Path × Part)
placed n path [] = []
placed n path (p ∷ ps) = (path_in n path p, p) ∷ placed (n + 1) (path_behind n path p) ps

-- the parts of a query with their paths
abbrev pub placed_parts : List Part → List (Path × Part)
placed_parts ps = placed 1 [] ps

-- the alternatives at the beginning of parts
abbrev pub alternatives : List Part → List TermSyntax
alternatives [] = []
alternatives (term Or t ∷ ps) = t ∷ alternatives ps
alternatives (p ∷ ps) = []

-- each part with the alternatives that stand after it
abbrev pub with_alternatives : List (Path × Part) → List ((Path × Part) × List TermSyntax)
with_alternatives [] = []
with_alternatives (p ∷ ps) = (p, alternatives (map (λ q. q.1) ps)) ∷ with_alternatives ps
