-- A list that strictly rises is the only one with its items.
use Rattle.std.proofs.Common.{◌≡◌, ◌↔◌, List}
use Rattle.std.specs.Cmp.{IsTotalOrder}
use Rattle.std.specs.List.{Contains}
use Rattle.std.specs.List.Sorted.{IsStrictlySortedBy}
use Rattle.std.specs.declared.cmp.Ordering.{Ordering}
use Rattle.std.specs.declared.cmp.Ordering.TheVariants.{Equal}
use Rattle.ecs_model.specs.Map.{Map, IsMap, keys}
use Rattle.ecs_model.proofs.RisingLists.{keys_rise, one_list}

-- one with the keys of a map is the list of these
pub is_keys : {K X : Type 0} (R : K → K → Ordering) → IsTotalOrder R → ((x y : K) → R x y ≡ Equal → x ≡ y) → (m : Map K X) → IsMap R m → (ks : List K) → IsStrictlySortedBy R ks
    → ((k : K) → Contains ks k ↔ Contains (keys m) k) → ks ≡ keys m
is_keys R o exact m h ks s same = one_list R o exact ks (keys m) s (keys_rise R m h) same
