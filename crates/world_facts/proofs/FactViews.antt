-- What is read of a world is of one view.
use Rattle.std.proofs.Common.{IsSome, ◌≡◌, ◌≢◌, ◌↔◌, ℕ, IsTrue, Bool, true, false, cond, List, [], flat_map, refl, sym, ap, subst, inl, inr, arith}
use Rattle.std.specs.List.{AllPairs, Contains}
use Rattle.ecs_id.specs.Id.{Id}
use Rattle.ecs_id.specs.declared.TableKey.{TableKey}
use Rattle.id_pattern.specs.declared.Pattern.{Pattern}
use Rattle.id_pattern.specs.Patterns.{matches}
use Rattle.std.specs.List.{list_any}
use Rattle.ecs_archetypes.specs.Housing.{Housing, IsHoused}
use Rattle.ecs_world.specs.Standing.{IsGraphOf}
use Rattle.table_store.specs.Store.{table_at}
use Rattle.ecs_archetypes.specs.Scans.{HaveRows}
use Rattle.ecs_archetypes.specs.Linked.{AreLinked, AreListsOf, Linked, ids_at_index, rows_under, tables_under}
use Rattle.ecs_archetypes.specs.Linked.{indexes as live_in}
use Rattle.ecs_model.specs.Links.{IsReached, reaches}
use Rattle.ecs_model.specs.rows.View.{HasNoRepeats, View, view_of}
use Rattle.ecs_model.proofs.ReachTests.{reaches_tells}
use Rattle.ecs_model.proofs.Members.{filtered}
use Rattle.rel_traits.specs.Sees.{Sees}
use Rattle.plan_steps.specs.Factual.{IsFactual}
use Rattle.plan_steps.specs.Reading.{Reading, indexes}
use Rattle.query_meaning.specs.Variables.{contains}
use Rattle.query_meaning.proofs.Lists.{In, In-flat_map, In-flat_map_from}
use Rattle.query_meaning.proofs.Worlds.{worlds_have_no_repeats}
use Rattle.plan_steps.proofs.Members.{member}
use Rattle.rel_travel.specs.Coming.{above_list, below_list}
use Rattle.rel_travel.specs.Holders.{holders}
use Rattle.rel_travel.proofs.Lists as lists
use Rattle.world_facts.specs.Shown.{AreRemembered, Shown, all_above, all_below, reading_of, standing_in}
use Rattle.world_facts.proofs.LiveTargets.{contains_tells, not_contained, reach_ends}
use Rattle.world_facts.proofs.EntityRows.{contained, each_once, live_stands, one_table, row_once, rows_live, rows_once, same_ids, same_peers, same_rows}
use Rattle.world_facts.proofs.Tables.{apart}

module _ (l : Linked) (linked : AreLinked l.housing l.size) (sound : IsHoused l.housing) (rows : HaveRows l.housing) (are_lists : AreListsOf l.housing l.lists)
    (all : (p : Pattern) (y : ℕ) → Contains (flat_map (rows_under l) (tables_under l p)) y ↔ Contains (holders (live_in l) (ids_at_index l) p) y) where
  abbrev entities : List ℕ
  entities = live_in l

  abbrev ids : ℕ → List Id
  ids = ids_at_index l

  -- ---- the tables that are listed
  listed_is : (p : Pattern) → flat_map (λ k. indexes (standing_in l k)) (tables_under l p) ≡ flat_map (rows_under l) (tables_under l p)
  listed_is p = ap (λ (f : TableKey → List ℕ). flat_map f (tables_under l p)) (λ i k. same_rows l k i)

  listed_once : (p : Pattern) → AllPairs (λ a b. a ≢ b) (flat_map (λ k. indexes (standing_in l k)) (tables_under l p))
  listed_once p = subst (λ xs. AllPairs (λ a b. a ≢ b) xs) (sym (listed_is p)) (rows_once l sound rows are_lists p)

  listed_exactly : (p : Pattern) (e : ℕ) → Contains (flat_map (λ k. indexes (standing_in l k)) (tables_under l p)) e ↔ (Contains entities e × IsTrue (list_any (matches p) (ids e)))
  listed_exactly p e =
      let passes = filtered (λ y. list_any (matches p) (ids y)) entities e in (
        λ h. passes.0 ((all p e).0 (subst (λ xs. Contains xs e) (listed_is p) h)),
        λ h. subst (λ xs. Contains xs e) (sym (listed_is p)) ((all p e).1 (passes.1 h)),
      )

  -- ---- all tables
  every_is : (tables : List TableKey) → flat_map (λ k. indexes (standing_in l k)) tables ≡ flat_map (rows_under l) tables
  every_is tables = ap (λ (f : TableKey → List ℕ). flat_map f tables) (λ i k. same_rows l k i)

  module _ (tables : List TableKey) (are : AreRemembered (l.housing).tables tables) where
    every_once : AllPairs (λ a b. a ≢ b) (flat_map (λ k. indexes (standing_in l k)) tables)
    every_once = subst (λ xs. AllPairs (λ a b. a ≢ b) xs) (sym (every_is tables)) (each_once l sound rows tables (apart tables are.rising))

    every_exactly : ((e : ℕ) → Contains entities e → (k : TableKey) × IsSome (table_at (l.housing).tables k) × Contains (rows_under l k) e)
        → (e : ℕ) → Contains (flat_map (λ k. indexes (standing_in l k)) tables) e ↔ Contains entities e
    every_exactly stands e = (
      λ h.
          let k = In-flat_map_from (rows_under l) tables e (member (flat_map (rows_under l) tables) e (subst (λ xs. Contains xs e) (every_is tables) h)) in
          rows_live l sound rows k.0 e (contained (rows_under l k.0) e k.2),
      λ h.
          let k = stands e h in
          subst (λ xs. Contains xs e) (sym (every_is tables))
          (contained (flat_map (rows_under l) tables) e (In-flat_map (rows_under l) tables k.0 e (member tables k.0 (are.listed k.0 k.1)) (member (rows_under l k.0) e k.2))),
    )

  -- ---- what a search gives
  alive_at_once : (b : Bool) (xs : List ℕ) → AllPairs (λ a b. a ≢ b) xs → AllPairs (λ a b. a ≢ b) (cond b xs [])
  alive_at_once true xs once = once
  alive_at_once false xs once = λ i j d low high. absurd (omega arith)

  above_once : (r s : ℕ) → AllPairs (λ a b. a ≢ b) (all_above l r s)
  above_once r s = alive_at_once (contains entities s) (above_list l.size ids r s) (lists.above_once linked r s)

  below_once : (r t : ℕ) → AllPairs (λ a b. a ≢ b) (all_below l r t)
  below_once r t = alive_at_once (contains entities t) (below_list (rows_under l) (tables_under l) l.size ids r t) (lists.below_once (rows_under l) (tables_under l) linked all r t)

  -- where one end lives, both do
  target_lives : (r s t : ℕ) → IsReached ids r s t → Contains entities s → Contains entities t
  target_lives r s t h live = elim (reach_ends linked r s t h) [ inl e ↦ rw (← e) live | inr p ↦ p.1 ]

  source_lives : (r s t : ℕ) → IsReached ids r s t → Contains entities t → Contains entities s
  source_lives r s t h live = elim (reach_ends linked r s t h) [ inl e ↦ rw e live | inr p ↦ p.0 ]

  above_exactly : (r s t : ℕ) → Contains (all_above l r s) t ↔ (Contains entities t × IsTrue (reaches ids entities r s t))
  above_exactly r s t = by (contains entities s) refl
    where
      tells : IsTrue (reaches ids entities r s t) ↔ IsReached ids r s t
      tells = reaches_tells linked r s t

      by : (b : Bool) → contains entities s ≡ b → Contains (cond b (above_list l.size ids r s) []) t ↔ (Contains entities t × IsTrue (reaches ids entities r s t))
      by true live =
          let given = lists.above_exactly linked r s t in (
            λ h. let reached = given.0 h in (target_lives r s t reached ((contains_tells entities s).0 live), tells.1 reached),
            λ h. given.1 (tells.0 h.1),
          )
      by false dead = (λ h. absurd (omega (arith, h.1)), λ h. absurd (not_contained entities s dead (source_lives r s t (tells.0 h.1) h.0)))

  below_exactly : (r t s : ℕ) → Contains (all_below l r t) s ↔ (Contains entities s × IsTrue (reaches ids entities r s t))
  below_exactly r t s = by (contains entities t) refl
    where
      tells : IsTrue (reaches ids entities r s t) ↔ IsReached ids r s t
      tells = reaches_tells linked r s t

      by : (b : Bool) → contains entities t ≡ b → Contains (cond b (below_list (rows_under l) (tables_under l) l.size ids r t) []) s ↔ (Contains entities s × IsTrue (reaches ids entities r s t))
      by true live =
          let given = lists.below_exactly (rows_under l) (tables_under l) linked all r t s in (
            λ h. let reached = given.0 h in (source_lives r s t reached ((contains_tells entities t).0 live), tells.1 reached),
            λ h. given.1 (tells.0 h.1),
          )
      by false dead = (λ h. absurd (omega (arith, h.1)), λ h. absurd (not_contained entities t dead (target_lives r s t (tells.0 h.1) h.0)))

module _ (s : Shown) (linked : AreLinked (s.links).housing (s.links).size) (sound : IsHoused (s.links).housing) (rows : HaveRows (s.links).housing) (are_lists : AreListsOf (s.links).housing (s.links).lists)
    (all : (p : Pattern) (y : ℕ) → Contains (flat_map (rows_under s.links) (tables_under s.links p)) y ↔ Contains (holders (live_in s.links) (ids_at_index s.links) p) y)
    (sees : Sees (s.world).state (live_in s.links) (ids_at_index s.links)) (are : AreRemembered ((s.links).housing).tables s.every) (same : ((s.links).housing).tables ≡ (s.world).tables)
    (g : Housing) (is : IsGraphOf s.world g) (housed : IsHoused g) where
  abbrev w : View
  w = view_of (s.world).state

  shown_is : record { entities = live_in s.links; ids = ids_at_index s.links; value = w.value } ≡ w
  shown_is = λ i. record { entities = sym sees.live_are i; ids = λ e. sym (sees.ids_are e) i; value = w.value }

  abbrev read : View → Reading
  read v = record (reading_of s) { view = v }

  pub factual : IsFactual (reading_of s)
  factual =
      let l = s.links in
      subst (λ v. IsFactual (read v)) shown_is
      (record {
        links = linked;
        no_repeats = subst HasNoRepeats (sym shown_is) (worlds_have_no_repeats (s.world).state sees.sound);
        every_once = every_once l linked sound rows are_lists all s.every are;
        every_exactly = every_exactly l linked sound rows are_lists all s.every are (λ e h. live_stands s.world g is housed l same e (subst (λ es. Contains es e) (sym sees.live_are) h));
        listed_once = listed_once l linked sound rows are_lists all;
        listed_exactly = listed_exactly l linked sound rows are_lists all;
        standing_once = λ k. subst (λ xs. AllPairs (λ a b. a ≢ b) xs) (sym (same_rows l k)) (row_once l sound rows k);
        one_table = λ k q e a b. one_table l sound rows k q e (subst (λ xs. Contains xs e) (same_rows l k) a) (subst (λ xs. Contains xs e) (same_rows l q) b);
        peers = λ k e h. same_peers l sound rows k e (subst (λ xs. Contains xs e) (same_rows l k) h);
        same_ids = λ k e h. same_ids l sound rows k e (subst (λ xs. Contains xs e) (same_rows l k) h);
        above_once = above_once l linked sound rows are_lists all;
        above_exactly = above_exactly l linked sound rows are_lists all;
        below_once = below_once l linked sound rows are_lists all;
        below_exactly = below_exactly l linked sound rows are_lists all;
      })
