-- The entities in the rows of tables, one after another.
use Rattle.std.proofs.Common.{◌≡◌, ℕ, ◌+◌, ◌<◌, ◌≤◌, List, [], ◌∷◌, length, get_or, take, take_all, ap, ◌∙◌, arith}
use Rattle.std.specs.Prelude.{map}
use Rattle.std.specs.List.{All, Contains, flat_map}
use Rattle.std.proofs.Math.ListN.{get_or-map}
use Rattle.std.proofs.lemmas.Grind.{flat_map-append}
use Rattle.std.proofs.lemmas.List.{append-nil, get_or_default, length-map, take_more}
use Rattle.std.proofs.lemmas.List.Elements.{Contains-get_or}
use Rattle.rel_travel.specs.Growing.{IsGrownBy}
use Rattle.rel_travel.proofs.Growth.{IsGrownBy-then}
use Rattle.ecs_model.proofs.Members.{in_flat_map}

-- one more table
pub table_added : {T : Type 0} (rows : T → List ℕ) (ts : List T) (k : ℕ) (d : T) (added old mid new : List ℕ) → k < length ts → added ≡ rows (get_or ts k d) → IsGrownBy (flat_map rows (take k ts)) old mid → IsGrownBy added mid new
    → IsGrownBy (flat_map rows (take (k + 1) ts)) old new
table_added rows ts k d added old mid new l e f g =
    rw (take_more ts k d l, flat_map-append rows (take k ts) (get_or ts k d ∷ []), append-nil (rows (get_or ts k d)), ← e)
    (IsGrownBy-then (flat_map rows (take k ts)) added old mid new f g)

-- what holds of the rows of all tables holds of those of one
pub rows_below : {T E : Type 0} (rows : T → List ℕ) (ts : List T) (i : ℕ) (d : T) (n : ℕ) (f : E → ℕ) (es : List E) → i < length ts → map f es ≡ rows (get_or ts i d)
    → ((y : ℕ) → Contains (flat_map rows ts) y → y < n) → All (λ e. f e < n) es
rows_below rows ts i d n f es l e below k x in' =
    below (f (get_or es k x)) (in_flat_map rows ts (get_or ts i d) (f (get_or es k x)) (Contains-get_or ts i d l) (rw (← e) there))
  where
    there : Contains (map f es) (f (get_or es k x))
    there = (k, rw length-map in', get_or-map f es k (get_or es k x) ∙ ap f (get_or_default es k (get_or es k x) x in'))

-- one more item of a slice, and all of them
module _ (bring : ℕ → List ℕ) (all items : List ℕ) (is : items ≡ all) (k : ℕ) (old found : List ℕ) where
  pub item_added : (new : List ℕ) → k < length items → IsGrownBy (flat_map bring (take k all)) old found → IsGrownBy (bring (get_or items k 0)) found new → IsGrownBy (flat_map bring (take (k + 1) all)) old new
  item_added new l f g = table_added bring all k 0 (bring (get_or items k 0)) old found new (omega (arith, ap length is)) (ap (λ xs. bring (get_or xs k 0)) is) f g

  pub all_added : length items ≤ k → IsGrownBy (flat_map bring (take k all)) old found → IsGrownBy (flat_map bring all) old found
  all_added l f = let over : length all ≤ k = omega (arith, ap length is) in rw (take_all k all over) at f
