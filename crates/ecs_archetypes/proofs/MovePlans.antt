-- Moves that are planned one after another.
use Rattle.std.proofs.Common.{◌≡◌, ◌+◌, ◌≤◌, Bool, true, false, cond, ◌&&◌, List, [], ◌∷◌, ◌++◌, is_some, refl, sym, subst, ◌∙◌, arith}
use Rattle.std.specs.List.{list_all}
use Rattle.std.specs.Ordering.{nat_cmp}
use Rattle.std.specs.FinMap.{find}
use Rattle.std.proofs.lemmas.List.Folds.{list_all-append}
use Rattle.ecs_id.specs.declared.EntityId.{EntityId}
use Rattle.ecs_id.specs.declared.TableKey.{TableKey}
use Rattle.ecs_id.specs.TableKeys.{table_eq}
use Rattle.table_store.specs.Store.{room_at}
use Rattle.ecs_archetypes.specs.declared.plans.EntityMove.{EntityMove}
use Rattle.ecs_archetypes.specs.Holdings.{HoldAlike, Holdings, is_settled, lives}
use Rattle.ecs_archetypes.specs.Housing.{Housing, holdings_of}
use Rattle.ecs_archetypes.specs.Moves.{AreReady, moves_to}
use Rattle.ecs_archetypes.specs.Tables.{HasGrown, one_in}
use Rattle.ecs_archetypes.proofs.MapLists.{both}
use Rattle.ecs_archetypes.proofs.Placings.{table_eq-tells}

pub moves_more : (q : TableKey) (ms : List EntityMove) (m : EntityMove) → moves_to q (ms ++ m ∷ []) ≡ moves_to q ms + one_in m.to q
moves_more q [] m = omega arith
moves_more q (n ∷ ms) m = let e = moves_more q ms m in omega (arith, e)

settled_alike : (g h : Holdings) → HoldAlike g h → (e : EntityId) → is_settled g e ≡ is_settled h e
settled_alike g h x e = λ k. lives (record h { live = x.live k }) e && is_some (find nat_cmp e.index (x.cells k))

all_alike : (g h : Holdings) → HoldAlike g h → (ms : List EntityMove) → list_all (λ m. is_settled g m.entity) ms ≡ list_all (λ m. is_settled h m.entity) ms
all_alike g h x [] = refl
all_alike g h x (m ∷ ms) = λ k. settled_alike g h x m.entity k && all_alike g h x ms k

-- moves that are ready stay so in a larger store
pub ready_grown : (h n : Housing) (ms : List EntityMove) → AreReady h ms → HoldAlike (holdings_of n) (holdings_of h) → HasGrown h.tables n.tables → AreReady n ms
ready_grown h n ms ready alike grown = record {
  settled = all_alike (holdings_of n) (holdings_of h) alike ms ∙ ready.settled;
  room = λ q. let a = ready.room q in let b = grown.room q in omega (arith, a, b);
}

-- and one more is ready where its table has room for all of them
pub ready_more : (h n : Housing) (ms : List EntityMove) (m : EntityMove) → AreReady h ms → is_settled (holdings_of h) m.entity ≡ true → HoldAlike (holdings_of n) (holdings_of h) → HasGrown h.tables n.tables → moves_to m.to ms + 1 ≤ room_at n.tables m.to
    → AreReady n (ms ++ m ∷ [])
ready_more h n ms m ready settled alike grown enough =
    let kept = ready_grown h n ms ready alike grown in
    record {
      settled = list_all-append (λ m. is_settled (holdings_of n) m.entity) ms (m ∷ [])
          ∙ both (list_all (λ m. is_settled (holdings_of n) m.entity) ms) (is_settled (holdings_of n) m.entity && true) kept.settled (both (is_settled (holdings_of n) m.entity) true (settled_alike (holdings_of n) (holdings_of h) alike m.entity ∙ settled) refl);
      room = λ q. subst (λ z. z ≤ room_at n.tables q) (sym (moves_more q ms m)) (by q (table_eq q m.to) (table_eq-tells q m.to).0 (kept.room q));
    }
  where
    by : (q : TableKey) (b : Bool) → (b ≡ true → q ≡ m.to) → moves_to q ms ≤ room_at n.tables q → moves_to q ms + cond b 1 0 ≤ room_at n.tables q
    by q false same le = omega (arith, le)
    by q true same le = subst (λ k. moves_to k ms + 1 ≤ room_at n.tables k) (sym (same refl)) enough
