-- Which entities the ids of tables mention, by marks.
use Rattle.std.specs.Prelude.{◌≡◌, ℕ, Bool, true, false, ◌&&◌, List, slice_index_or}
use Rattle.std.specs.Option.{option_map_or}
use Rattle.std.specs.HashMap.{HashMap}
use Rattle.ecs_id.specs.declared.TableKey.{TableKey}
use Rattle.id_pattern.specs.declared.Part.{Part}
use Rattle.id_pattern.specs.declared.Part.TheVariants.{Is, Any}
use Rattle.id_pattern.specs.declared.Pattern.{Pattern}
use Rattle.component_index.specs.Entered.{Entered}
use Rattle.component_index.specs.Listed.{is_listed, is_matched}

-- no mark is taken back
abbrev pub Keeps : List Bool → List Bool → Type 0
Keeps old new = (i : ℕ) → slice_index_or old i false ≡ true → slice_index_or new i false ≡ true

-- the part asks for an index with a mark, or for any
abbrev pub may_take : List Bool → Part → Bool
may_take marks (Is i) = slice_index_or marks i false
may_take marks Any = true

-- so does each part of the pattern
abbrev pub may_match : List Bool → Pattern → Bool
may_match marks p = may_take marks p.first && option_map_or (may_take marks) p.second true

-- each pattern that matches an id of an entered table may match
abbrev pub AreMarked : List Bool → Entered → Type 0
AreMarked marks tables = (p : Pattern) (k : TableKey) → is_matched tables p k ≡ true → may_match marks p ≡ true

-- each pattern that has a table in its list may match
abbrev pub MayBeListed : {S : Type 0} → List Bool → HashMap Pattern (List TableKey) S → Type 0
MayBeListed marks lists = (p : Pattern) (k : TableKey) → is_listed lists p k ≡ true → may_match marks p ≡ true
