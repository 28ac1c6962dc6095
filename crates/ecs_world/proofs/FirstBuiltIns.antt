-- The built-in entities, settled and named one after another.
use Rattle.std.proofs.Common.{◌≡◌, ℕ, zero, suc, ◌+◌, ◌≤◌, ◌<◌, ◌==◌, Bool, true, false, cond, not, ◌&&◌, ◌||◌, ◌⊎◌, inl, inr, true≢false, List, [], ◌∷◌, ◌++◌, map, take, length, get_or, nat_le, Some, None, is_some, if◌then◌else◌, refl, sym, ap, subst, ◌∙◌, arith}
use Rattle.std.proofs.lemmas.Bool.{cases_lt}
use Rattle.std.proofs.lemmas.Bool.Decides.{nat_tests, Decides-eqb}
use Rattle.std.proofs.lemmas.List.{length-map}
use Rattle.std.specs.Borrow.{Bor}
use Rattle.std.specs.FinMap as finite
use Rattle.std.specs.FinMap.Entries.{below_all, by_order}
use Rattle.std.specs.List.{list_all, range_with_len, enumerate_from}
use Rattle.std.specs.Option.{option_eq, option_or}
use Rattle.std.specs.declared.cmp.Ordering.TheVariants.{Equal, Greater}
use Rattle.std.specs.Ordering.{nat_cmp, eq_by_cmp, is_eq, is_lt}
use Rattle.ecs_id.specs.declared.EntityId.{EntityId}
use Rattle.ecs_id.specs.Id.{Id, plain, pair, mentioned, id_cmp, id_eq}
use Rattle.ecs_model.specs.Map.{Map, IsMap, value_at, has_key, keys, with_value}
use Rattle.ecs_model.specs.Schema.{Schema}
use Rattle.ecs_model.specs.steps.WellFormed.{IsWellFormed}
use Rattle.ecs_model.specs.World.{built_in_names, first_world, is_built_in, key_cmp, pair_is_tag}
use Rattle.ecs_model.proofs.steps.FirstTraits.{first_world_keeps_traits}
use Rattle.ecs_model.proofs.Maps.{both_true}
use Rattle.name_index.specs.Names.{IsUnnamed, Names}
use Rattle.ecs_table.specs.Archetype.{Shape, zero_cells}
use Rattle.ecs_archetypes.specs.Holdings.{AreHoldings, HoldAlike, Holdings, KeepsSizes, agrees, cells_at, first_holdings, holds_id, lives, with_cells}
use Rattle.rel_traits.specs.PinCounts.{Counts}
use Rattle.ecs_world.specs.State.{IsWorld, parts_of, all_facts, byte_count, is_known_rightly, names_of, state_of, type_in, type_of}
use Rattle.ecs_world.specs.BuiltIn.{AreFirstNames, IsSettled, first_cells, first_live, is_first_tag, settled_to, tags_of}
use Rattle.ecs_world.proofs.NameLists.{AreNamed, AreNamed-bound, names_bound, unnamed}
use Rattle.ecs_world.proofs.States.{all_implied, state_alike}

-- a map of some numbers in a row
module _ {X : Type 0} (f : ℕ → X) where
  abbrev row : ℕ → ℕ → Map ℕ X
  row a n = map (λ i. (i, f i)) (range_with_len a n)

  not_tied : (k a : ℕ) → a < k → nat_cmp k a ≡ Greater
  not_tied k a h = grind (arith, nat_tests)

  tied : (k : ℕ) → nat_cmp k k ≡ Equal
  tied k = grind (arith, nat_tests)

  pub row_past : (a n k : ℕ) → a + n ≤ k → value_at nat_cmp (row a n) k ≡ None
  row_past a zero k h = refl
  row_past a (suc n) k h = ap (λ o. cond (is_eq o) (Some (f a)) (value_at nat_cmp (row (a + 1) n) k)) (not_tied k a (omega arith)) ∙ row_past (a + 1) n k (omega arith)

  pub row_at : (a n k : ℕ) → a ≤ k → k < a + n → value_at nat_cmp (row a n) k ≡ Some (f k)
  row_at a zero k h lt = absurd (omega arith)
  row_at a (suc n) k h lt = by (a == k) refl (row_at (a + 1) n k)
    where
      by : (b : Bool) → (a == k) ≡ b → (a + 1 ≤ k → k < a + 1 + n → value_at nat_cmp (row (a + 1) n) k ≡ Some (f k)) → value_at nat_cmp (row a (suc n)) k ≡ Some (f k)
      by true p rest =
          let same : a ≡ k = (Decides-eqb a k).0 p in
          subst (λ j. cond (eq_by_cmp nat_cmp k j) (Some (f j)) (value_at nat_cmp (row (a + 1) n) k) ≡ Some (f k)) (sym same) (ap (λ o. cond (is_eq o) (Some (f k)) (value_at nat_cmp (row (a + 1) n) k)) (tied k))
      by false p rest =
          let past : a < k = grind (arith, nat_tests) in
          ap (λ o. cond (is_eq o) (Some (f a)) (value_at nat_cmp (row (a + 1) n) k)) (not_tied k a past) ∙ rest (omega arith) (omega arith)

  -- the next in the row
  pub row_put : (a n k : ℕ) → k ≡ a + n → with_value nat_cmp (row a n) k (f k) ≡ row a (suc n)
  row_put a zero k h = let same : k ≡ a = omega arith in ap (λ j. (j, f j) ∷ []) same
  row_put a (suc n) k h =
      ap (λ o. by_order o ((k, f k) ∷ (a, f a) ∷ row (a + 1) n) ((a, f k) ∷ row (a + 1) n) ((a, f a) ∷ with_value nat_cmp (row (a + 1) n) k (f k))) (not_tied k a (omega arith))
      ∙ ap (λ m. (a, f a) ∷ m) (row_put (a + 1) n k (omega arith))

module _ (h : Holdings) (k index : ℕ) (next : k + 1 ≡ index) (few : index ≤ 22) (settled : IsSettled h k) where
  abbrev entity : EntityId
  entity = record { index = index; generation = 0 }

  pub first_alive : lives h entity ≡ true
  first_alive = ap (λ live. option_eq ◌==◌ (value_at nat_cmp live index) (Some 0)) (settled.alike).live ∙ ap (λ o. option_eq ◌==◌ o (Some 0)) (row_at (λ i. 0) 1 22 index (omega (arith, next)) (omega (arith, few)))

  pub first_unsettled : cells_at h index ≡ None
  first_unsettled = ap (λ cells. value_at nat_cmp cells index) (settled.alike).cells ∙ row_past (λ i. zero_cells (tags_of i)) 1 k index (omega (arith, next))

  tag_agrees : (i : Id) → agrees h.known i 0 ≡ true
  tag_agrees i = all_implied is_first_tag (λ c. not (id_eq c.0 i) || c.1 == 0) (λ c t. or_true (not (id_eq c.0 i)) (c.1 == 0) (both_true (c.1 == 0) (list_all is_built_in (mentioned c.0)) t).0) h.known settled.tags
    where
      or_true : (a b : Bool) → b ≡ true → (a || b) ≡ true
      or_true true b p = refl
      or_true false b p = p

  pub tags_agree : (ids : Shape) → list_all is_first_tag ids ≡ true → list_all (λ c. agrees h.known c.0 c.1) ids ≡ true
  tags_agree ids tags = all_implied is_first_tag (λ c. agrees h.known c.0 c.1)
      (λ c t. subst (λ n. agrees h.known c.0 n ≡ true) (sym ((Decides-eqb c.1 0).0 (both_true (c.1 == 0) (list_all is_built_in (mentioned c.0)) t).0)) (tag_agrees c.0)) ids tags

  pub tags_small : (ids : Shape) → list_all is_first_tag ids ≡ true → list_all (λ c. nat_le c.1 64) ids ≡ true
  tags_small ids tags = all_implied is_first_tag (λ c. nat_le c.1 64) (λ c t. ap (λ n. nat_le n 64) ((Decides-eqb c.1 0).0 (both_true (c.1 == 0) (list_all is_built_in (mentioned c.0)) t).0)) ids tags

  -- one more is settled
  pub settled_more : (h' : Holdings) (ids : Shape) → ids ≡ tags_of index → list_all is_first_tag ids ≡ true → AreHoldings h' → HoldAlike h' (with_cells h index (zero_cells ids)) → KeepsSizes h.known ids h'.known → IsSettled h' index
  settled_more h' ids are tags whole alike keeps = record {
    whole = whole;
    alike = record {
      live = alike.live ∙ (settled.alike).live;
      deletions = alike.deletions ∙ (settled.alike).deletions;
      cells = alike.cells ∙ (λ i. with_value nat_cmp ((settled.alike).cells i) index (zero_cells (are i))) ∙ row_put (λ i. zero_cells (tags_of i)) 1 k index (omega (arith, next)) ∙ ap first_cells more;
    };
    tags = keeps is_first_tag settled.tags tags;
  }
    where
      more : suc k ≡ index
      more = omega (arith, next)

-- names, one after another
enumerated : {X : Type 0} (xs : List X) (a k : ℕ) (x : X) (n : ℕ) → n ≡ a + k → k < length xs → x ≡ get_or xs k x → take (suc k) (enumerate_from a xs) ≡ take k (enumerate_from a xs) ++ (n, x) ∷ []
enumerated [] a k x n at lt is = absurd (omega arith)
enumerated (y ∷ ys) a zero x n at lt is = let same : n ≡ a = omega arith in λ i. (sym same i, sym is i) ∷ []
enumerated (y ∷ ys) a (suc k) x n at lt is = ap (λ l. (a, y) ∷ l) (enumerated ys (a + 1) k x n (omega arith) (omega arith) is)

put_last : {X : Type 0} (xs : List X) (a k : ℕ) (n : ℕ) (x : X) → a + k ≤ n → with_value nat_cmp (take k (enumerate_from a xs)) n x ≡ take k (enumerate_from a xs) ++ (n, x) ∷ []
put_last xs a zero n x h = refl
put_last [] a (suc k) n x h = refl
put_last (y ∷ ys) a (suc k) n x h =
    ap (λ o. by_order o ((n, x) ∷ (a, y) ∷ take k (enumerate_from (a + 1) ys)) ((a, x) ∷ take k (enumerate_from (a + 1) ys)) ((a, y) ∷ with_value nat_cmp (take k (enumerate_from (a + 1) ys)) n x)) (not_tied' n a (omega arith))
    ∙ ap (λ l. (a, y) ∷ l) (put_last ys (a + 1) k n x (omega arith))
  where
    not_tied' : (k a : ℕ) → a < k → nat_cmp k a ≡ Greater
    not_tied' k a h = grind (arith, nat_tests)

abbrev zero_row : ℕ → ℕ → Map ℕ ℕ
zero_row a n = map (λ i. (i, 0)) (range_with_len a n)

below_row : (d a n : ℕ) → d < a → below_all nat_cmp d (zero_row a n) ≡ true
below_row d a zero h = refl
below_row d a (suc n) h = λ i. below d a h i && below_row d (a + 1) n (omega (arith, h)) i
  where
    below : (d a : ℕ) → d < a → is_lt (nat_cmp d a) ≡ true
    below d a h = grind (arith, nat_tests)

IsMap-first : (a n : ℕ) → IsMap nat_cmp (zero_row a n)
IsMap-first a zero = refl
IsMap-first a (suc n) = λ i. below_row a (a + 1) n (omega arith) i && IsMap-first (a + 1) n i

AreNamed-first : (names : Names) (k : ℕ) → AreFirstNames names k → AreNamed names (first_live k)
AreNamed-first names k first = record { in_order = IsMap-first 1 k; one = first.one_to_one; named = first.named }

module _ (names : Names) (k : ℕ) (first : AreFirstNames names k) where
  abbrev next : EntityId
  next = record { index = k + 1; generation = 0 }

  absent : value_at nat_cmp (first_live k) (k + 1) ≡ None
  absent = row_past (λ i. 0) 1 k (k + 1) (omega arith)

  pub first_unnamed : IsUnnamed names next
  first_unnamed = unnamed names (first_live k) (AreNamed-first names k first) next absent

  live_more : with_value nat_cmp (first_live k) (k + 1) 0 ≡ first_live (suc k)
  live_more = row_put (λ i. 0) 1 k (k + 1) (omega arith)

  pub named_more : (n : List ℕ) → finite.get names n ≡ None → k < 22 → n ≡ get_or built_in_names k n → AreFirstNames (finite.insert names n next) (suc k)
  named_more n free lt is =
      let bound = AreNamed-bound names (first_live k) (AreNamed-first names k first) next absent n free in
      record {
        one_to_one = bound.one;
        named = λ q e g. ap (λ live. value_at nat_cmp live e.index) (sym live_more) ∙ bound.named q e g;
        told = ap (names_of (finite.insert names n next)) (sym live_more) ∙ names_bound names (first_live k) (AreNamed-first names k first) next absent n free
            ∙ ap (λ m. with_value nat_cmp m (k + 1) n) first.told ∙ put_last built_in_names 1 k (k + 1) n (omega arith) ∙ sym (enumerated built_in_names 1 k n (k + 1) (omega arith) lt is);
      }

-- before the first
pub first_none : (names : Names) → ((e : EntityId) → IsUnnamed names e) → AreFirstNames names 0
first_none names unnamed = record { one_to_one = λ m n e p q. absurd (unnamed e m p); named = λ q e p. absurd (unnamed e q p); told = refl }

pub first_settled : (h : Holdings) → AreHoldings h → h ≡ first_holdings → IsSettled h 0
first_settled h whole is = record {
  whole = whole;
  alike = record { live = ap (λ g. g.live) is; deletions = ap (λ g. g.deletions) is; cells = ap (λ g. g.cells) is };
  tags = ap (λ g. list_all is_first_tag g.known) is;
}

get_mapped : {A B : Type 0} (f : A → B) (xs : List A) (k : ℕ) (d : A) (y : B) → k < length xs → get_or (map f xs) k y ≡ f (get_or xs k d)
get_mapped f [] k d y lt = absurd (omega arith)
get_mapped f (x ∷ xs) zero d y lt = refl
get_mapped f (x ∷ xs) (suc k) d y lt = get_mapped f xs k d y (omega arith)

-- one more name
pub named_step : (list : List (Bor (List ℕ))) (names names' : Names) (k j : ℕ) (d : Bor (List ℕ)) → k ≡ j → map (λ t. t.now) list ≡ built_in_names → AreFirstNames names k → j < length list
    → finite.get names (get_or list j d).now ≡ None → names' ≡ finite.insert names (get_or list j d).now (record { index = k + 1; generation = 0 }) → AreFirstNames names' (k + 1)
named_step list names names' k j d same are first lt free bound =
    let within : k < 22 = omega (arith, lt, same, length-map list (λ (t : Bor (List ℕ)). t.now), ap length are) in
    let n : List ℕ = (get_or list j d).now in
    let at : n ≡ get_or built_in_names k n = sym (get_mapped (λ (x : Bor (List ℕ)). x.now) list j d n lt) ∙ ap (λ xs. get_or xs j n) are ∙ ap (λ i. get_or built_in_names i n) (sym same) in
    let more : suc k ≡ k + 1 = omega arith in
    subst (λ m. AreFirstNames names' m) more (subst (λ ns. AreFirstNames ns (suc k)) (sym bound) (named_more names k first n free within at))

pub named_all : (list : List (Bor (List ℕ))) (names : Names) (k j : ℕ) → k ≡ j → map (λ t. t.now) list ≡ built_in_names → length list ≤ j → j ≤ length list → AreFirstNames names k → AreFirstNames names 22
named_all list names k j same are low high first =
    let end : k ≡ 22 = omega (arith, same, low, high, length-map list (λ (t : Bor (List ℕ)). t.now), ap length are) in
    subst (AreFirstNames names) end first

abbrev none : Map ℕ Schema
none = []

no_type : (tag : ℕ → Bool) (i : Id) → type_in none tag i ≡ None
no_type tag (plain c) = refl
no_type tag (pair r t) = by (tag r)
  where
    by : (b : Bool) → (if b then None else option_or (value_at nat_cmp none r) (value_at nat_cmp none t)) ≡ None
    by true = refl
    by false = refl

computed : record { live = first_live 22; facts = all_facts (type_of (settled_to 22) []) (first_cells 22); names = enumerate_from 1 built_in_names; schemas = []; deletions = []; pins = []; accepted = 0 } ≡ first_world
unfolding first_world id_cmp key_cmp
computed = refl

first_is : (names : Names) (pins : Counts) → pins.entries ≡ [] → names_of names (first_live 22) ≡ enumerate_from 1 built_in_names → state_of (parts_of (settled_to 22) names [] pins 0) ≡ first_world
unfolding first_world
first_is names pins none told = (λ k. record (state_of (parts_of (settled_to 22) names [] pins 0)) { names = told k; pins = none k }) ∙ computed

pub first_state : (h : Holdings) (names : Names) (pins : Counts) → IsSettled h 22 → AreFirstNames names 22 → pins.entries ≡ [] → state_of (parts_of h names [] pins 0) ≡ first_world
first_state h names pins settled first unpinned = state_alike h (settled_to 22) names [] pins 0 settled.alike ∙ first_is names pins unpinned first.told

built_in_live : (i : ℕ) → is_built_in i ≡ true → has_key nat_cmp (first_live 22) i ≡ true
built_in_live i h = ap is_some (row_at (λ i. 0) 1 22 i (low i h) (high i h))
  where
    low : (i : ℕ) → is_built_in i ≡ true → 1 ≤ i
    low i h = grind (arith, nat_tests)

    high : (i : ℕ) → is_built_in i ≡ true → i < 23
    high i h = grind (arith, nat_tests)

pub first_is_world : (h : Holdings) (names : Names) (pins : Counts) → IsSettled h 22 → AreFirstNames names 22 → pins.entries ≡ [] → 22 < pins.reach → IsWorld (parts_of h names [] pins 0)
first_is_world h names pins settled first unpinned covers = record {
  whole = settled.whole;
  sound = subst IsWellFormed (sym (first_state h names pins settled first unpinned)) first_world_keeps_traits;
  settled = ap keys (settled.alike).cells ∙ ap keys (sym (settled.alike).live);
  known = all_implied is_first_tag (is_known_rightly h []) each h.known settled.tags;
  named = λ n e g. ap (λ live. option_eq ◌==◌ (value_at nat_cmp live e.index) (Some e.generation)) (settled.alike).live ∙ ap (λ o. option_eq ◌==◌ o (Some e.generation)) (first.named n e g) ∙ (Decides-eqb e.generation e.generation).1 refl;
  one_to_one = first.one_to_one;
  covered = λ i l. low i (cases_lt i 23) (ap (λ live. has_key nat_cmp live i) (sym (settled.alike).live) ∙ l);
}
  where
    low : (i : ℕ) → (i < 23) ⊎ (23 ≤ i) → has_key nat_cmp (first_live 22) i ≡ true → i < pins.reach
    low i (inl lt) l = omega (arith, lt, covers)
    low i (inr past) l = absurd (true≢false (sym l ∙ ap is_some (row_past (λ i. 0) 1 22 i past)))

    each : (c : Id × ℕ) → is_first_tag c ≡ true → is_known_rightly h [] c ≡ true
    each c t =
        let parts = both_true (c.1 == 0) (list_all is_built_in (mentioned c.0)) t in
        let live : list_all (has_key nat_cmp h.live) (mentioned c.0) ≡ true = ap (λ m. list_all (has_key nat_cmp m) (mentioned c.0)) (settled.alike).live ∙ all_implied is_built_in (has_key nat_cmp (first_live 22)) built_in_live (mentioned c.0) parts.1 in
        let size : (c.1 == byte_count (type_of h [] c.0)) ≡ true = ap (λ o. c.1 == byte_count o) (no_type (λ r. holds_id h r (plain pair_is_tag)) c.0) ∙ parts.0 in
        λ i. size i && live i
