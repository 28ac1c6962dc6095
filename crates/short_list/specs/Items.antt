-- What a contract sees of a short list.
use Rattle.std.specs.Prelude.{◌≡◌, ℕ, Bool, List}
use Rattle.std.specs.List.{dedup}
use Rattle.std.specs.List.Sorted.{IsPermutation, IsSorted}
use Rattle.std.specs.declared.cmp.Ordering.{Ordering}
use Rattle.short_list.specs.declared.list.Kept.{Kept}
use Rattle.short_list.specs.declared.list.Kept.TheVariants.{Few, Many}
use Rattle.short_list.specs.declared.wide.Kept.{Kept as Wide}
use Rattle.short_list.specs.declared.wide.Kept.TheVariants as wide

-- the items, in order
pub record Items : Type 0 where
  pub items : List ℕ

abbrev pub kept_items : {A : Type 0} → Kept A → List ℕ
kept_items (Few few) = few.items
kept_items (Many many) = many.items

abbrev pub kept_numbers : {A : Type 0} → Wide A → List ℕ
kept_numbers (wide.Few few) = few.items
kept_numbers (wide.Many many) = many.items

-- a list has the items of another one in order, each once
pub record IsInOrder {T : Type 0} (cmp : T → T → Ordering) (same : T → T → Bool) (old new : List T) : Type 0 where
  pub sorted : List T
  pub permutation : IsPermutation old sorted
  pub rises : IsSorted cmp sorted
  pub once : new ≡ dedup same sorted
