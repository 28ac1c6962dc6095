-- What the lists above and below an entity give: all that a relationship leads to, or from, each once.
use Rattle.std.proofs.Common.{◌≢◌, ◌↔◌, ℕ, ◌<◌, List, arith}
use Rattle.std.specs.List.{AllPairs, Contains, flat_map}
use Rattle.std.specs.Prelude.{Some}
use Rattle.std.proofs.lemmas.List.Elements.{All-contains}
use Rattle.ecs_id.specs.Id.{Id}
use Rattle.ecs_id.specs.declared.TableKey.{TableKey}
use Rattle.id_pattern.specs.declared.Pattern.{Pattern}
use Rattle.id_pattern.specs.declared.Part.TheVariants.{Is}
use Rattle.ecs_model.specs.Links.{AreLinks, IsReached, is_reflexive, is_transitive, upward}
use Rattle.ecs_model.proofs.LivePairs.{upward_below}
use Rattle.ecs_model.proofs.ReachSteps.{turned_reach}
use Rattle.rel_travel.specs.Coming.{above_list, below_list, downward}
use Rattle.rel_travel.specs.Holders.{holders}
use Rattle.rel_travel.proofs.Cleanup.{holds_upward, pairs_below, upward_holds}
use Rattle.rel_travel.proofs.Turns.{list_exact, list_once}

module _ {n : ℕ} {entities : List ℕ} {ids : ℕ → List Id} (links : AreLinks n entities ids) (r x : ℕ) where
  above_closed : (z y : ℕ) → Contains (upward ids r z) y → y < n
  above_closed z y h = All-contains (λ t. t < n) (upward ids r z) y (upward_below links r n (omega arith) z) h

  pub above_once : AllPairs (λ a b. a ≢ b) (above_list n ids r x)
  above_once = list_once (upward ids r) n above_closed (is_transitive ids r) (is_reflexive ids r) x

  pub above_exactly : (y : ℕ) → Contains (above_list n ids r x) y ↔ IsReached ids r x y
  above_exactly = list_exact (upward ids r) n above_closed (is_transitive ids r) (is_reflexive ids r) x

module _ (rows : TableKey → List ℕ) (listed : Pattern → List TableKey) {n : ℕ} {entities : List ℕ} {ids : ℕ → List Id} (links : AreLinks n entities ids)
    (all : (p : Pattern) (y : ℕ) → Contains (flat_map rows (listed p)) y ↔ Contains (holders entities ids p) y) (r : ℕ) where
  pub downward_below : (z y : ℕ) → Contains (downward rows listed r z) y → y < n
  downward_below z y h =
      let p : Pattern = record { first = Is r; second = Some (Is z) } in
      All-contains (λ t. t < n) (holders entities ids p) y (pairs_below links r n (omega arith) z) ((all p y).0 h)

  holds_up : (z y : ℕ) → Contains (downward rows listed r z) y → Contains (upward ids r y) z
  holds_up z y h = holds_upward links r z y ((all (record { first = Is r; second = Some (Is z) }) y).0 h)

  up_holds : (y z : ℕ) → Contains (upward ids r y) z → Contains (downward rows listed r z) y
  up_holds y z h = (all (record { first = Is r; second = Some (Is z) }) y).1 (upward_holds links r y z h)

  pub below_once : (x : ℕ) → AllPairs (λ a b. a ≢ b) (below_list rows listed n ids r x)
  below_once x = list_once (downward rows listed r) n downward_below (is_transitive ids r) (is_reflexive ids r) x

  pub below_exactly : (x y : ℕ) → Contains (below_list rows listed n ids r x) y ↔ IsReached ids r y x
  below_exactly x y =
      let e = list_exact (downward rows listed r) n downward_below (is_transitive ids r) (is_reflexive ids r) x y in (
        λ h. turned_reach (downward rows listed r) (upward ids r) holds_up (is_transitive ids r) (is_reflexive ids r) x y (e.0 h),
        λ h. e.1 (turned_reach (upward ids r) (downward rows listed r) up_holds (is_transitive ids r) (is_reflexive ids r) y x h),
      )
