-- A graph as a list: at each index the ids of its entity.
use Rattle.std.specs.Prelude.{◌≡◌, ℕ, zero, suc, ◌+◌, ◌-◌, ◌<◌, ◌≤◌, List, [], ◌∷◌, length, slice_index_or, map, All, IfSome}
use Rattle.std.specs.declared.vec.Vec.{Vec}
use Rattle.ecs_id.specs.Id.{Id, last_index, mentioned, second_of}

abbrev pub Rows : Type 0
Rows = List (List Id)

-- what the lists of ids hold
abbrev pub rows_in : {Y : Type 0} → List (Vec Id Y) → Rows
rows_in vs = map (λ v. v.items) vs

-- the ids at an index
abbrev pub row_at : Rows → ℕ → List Id
row_at rows e = slice_index_or rows e []

-- an index of one of n entities, which begin at 1
abbrev pub IsInside : ℕ → ℕ → Type 0
IsInside n x = (0 < x) × (x < n)

-- the id mentions such indexes alone
abbrev pub MentionsInside : ℕ → Id → Type 0
MentionsInside n i = All (IsInside n) (mentioned i)

-- from n down to 1
unfoldable pub down_from : ℕ → List ℕ
down_from zero = []
down_from (suc n) = suc n ∷ down_from n

-- all indexes but 0 are of live entities
abbrev pub live_in : Rows → List ℕ
live_in rows = down_from (length rows - 1)

-- the indexes fit, nothing stands at 0, and ids mention these entities alone
pub record IsClosed (rows : Rows) : Type 0 where
  pub few : length rows ≤ last_index + 1
  pub none_at_zero : row_at rows 0 ≡ []
  pub inside : All (λ row. All (MentionsInside (length rows)) row) rows

-- the targets of all pairs are below this
abbrev pub FallBelow : ℕ → List Id → Type 0
FallBelow n row = All (λ i. IfSome (second_of i) (λ t. t < n)) row
