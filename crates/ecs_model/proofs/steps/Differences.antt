-- What has changed after a deletion, and after facts have gone.
use Rattle.std.specs.Prelude.{◌≡◌, ℕ, Bool, true, false, not, List, [], ◌∷◌, map, filter, ℤ, Option, None, is_some, cond}
use Rattle.std.specs.List.{Contains, list_any}
use Rattle.std.specs.Ordering.{nat_cmp}
use Rattle.std.specs.Cmp.{nat_cmp_total}
use Rattle.std.specs.declared.cmp.Ordering.{Ordering}
use Rattle.std.proofs.Common.{refl, ap, ◌∙◌, arith}
use Rattle.std.proofs.lemmas.List.Elements.{Contains-append_right}
use Rattle.ecs_id.specs.declared.EntityId.{EntityId}
use Rattle.ecs_id.specs.Id.{Id}
use Rattle.ecs_model.specs.steps.Outcomes.{counted, differences}
use Rattle.ecs_model.specs.Map.{Map, has_key, keys, value_at, without}
use Rattle.ecs_model.specs.Sets.{Set}
use Rattle.ecs_model.specs.World.{WorldState, Key, key_cmp, key_eq, is_live, name_of}
use Rattle.ecs_model.specs.steps.FactChanges.{deleted, mentions_gone, facts_after_delete, removed, facts_after_remove}
use Rattle.ecs_model.specs.steps.Step.{Remove, Delete, effect, without_entities, written_by}
use Rattle.ecs_model.proofs.Maps.{key_cmp_total}
use Rattle.ecs_model.proofs.NewEntity.{none_born}
use Rattle.ecs_model.proofs.Removals.{value_at-without}
use Rattle.ecs_model.proofs.steps.BornEntities.{none_born_left}
use Rattle.ecs_model.proofs.steps.Deletions.{nat_value_at-without, was_there}
use Rattle.ecs_model.proofs.steps.Facts.{there_key}

module _ {K X : Type 0} (R : K → K → Ordering) where
  -- tests that agree on the keys leave the same
  pub without_alike : (m : Map K X) (p q : K → Bool) → ((k : K) → Contains (keys m) k → p k ≡ q k) → without R m p ≡ without R m q
  without_alike [] p q same = refl
  without_alike (e ∷ es) p q same =
      let rest : without R es p ≡ without R es q = without_alike es p q (λ k c. same k (Contains-append_right (e.0 ∷ []) (keys es) k c)) in
      λ j. cond (not (same e.0 (0, omega arith, refl) j)) (e ∷ rest j) (rest j)

  pub without_each : (m : Map K X) (p : K → Bool) → ((k : K) → Contains (keys m) k → p k ≡ true) → without R m p ≡ []
  without_each m p all = without_alike m p (λ k. true) all ∙ none m
    where
      none : (m : Map K X) → without R m (λ k. true) ≡ []
      none [] = refl
      none (e ∷ es) = none es

  -- the keys that are left are those of the list of keys that don't pass
  pub keys-without : (m : Map K X) (p : K → Bool) → keys (without R m (λ k. not (p k))) ≡ filter p (keys m)
  keys-without [] p = refl
  keys-without (e ∷ es) p = by (p e.0) (keys-without es p)
    where
      by : (b : Bool) → keys (without R es (λ k. not (p k))) ≡ filter p (keys es)
          → keys (cond (not (not b)) (e ∷ without R es (λ k. not (p k))) (without R es (λ k. not (p k)))) ≡ cond b (e.0 ∷ filter p (keys es)) (filter p (keys es))
      by true rest = ap (λ ks. e.0 ∷ ks) rest
      by false rest = rest

-- of an entry that was there, what is left says whether it passed
left_there : {X : Type 0} (gone : Bool) (new old : Option X) → new ≡ cond (not gone) old None → is_some old ≡ true → is_some new ≡ not gone
left_there true new old e there = ap is_some e
left_there false new old e there = ap is_some e ∙ there

module _ (w : WorldState) (test : Key → Bool) where
  abbrev left : Map Key (List ℤ)
  left = without key_cmp w.facts test

  -- facts that have gone are those of the test, and none comes
  pub none_comes : keys (without key_cmp left (has_key key_cmp w.facts)) ≡ []
  none_comes =
      ap keys (without_each key_cmp left (has_key key_cmp w.facts)
      (λ k c. (was_there (test k) (value_at key_cmp left k) (value_at key_cmp w.facts k) (value_at-without w.facts test k) (there_key key_cmp key_cmp_total left k c)).1))

  pub those_go : keys (without key_cmp w.facts (has_key key_cmp left)) ≡ filter test (keys w.facts)
  those_go =
      ap keys (without_alike key_cmp w.facts (has_key key_cmp left) (λ k. not (test k))
      (λ k c. left_there (test k) (value_at key_cmp left k) (value_at key_cmp w.facts k) (value_at-without w.facts test k) (there_key key_cmp key_cmp_total w.facts k c)))
      ∙ keys-without key_cmp w.facts test

-- a live entity with its name
abbrev pub with_name : WorldState → ℕ × ℕ → EntityId × Option (List ℕ)
with_name w e = (record { index = e.0; generation = e.1 }, name_of w e.0)

-- after a deletion its members have died, and the facts that mention one have gone
pub differences_of_delete : (w : WorldState) (e : EntityId)
    → differences w (counted (effect w (Delete e))) (written_by (Delete e))
    ≡ record {
      born = None;
      died = map (with_name w) (without nat_cmp w.live (λ i. not (has_key nat_cmp (deleted w e.index) i)));
      came = [];
      went = filter (mentions_gone w (deleted w e.index)) (keys w.facts);
      written = [];
    }
unfolding differences effect without_entities facts_after_delete
differences_of_delete w e = λ j. record {
  born = none_born_left w gone j;
  died = map (with_name w) (died j);
  came = none_comes w (mentions_gone w gone) j;
  went = those_go w (mentions_gone w gone) j;
  written = [];
}
  where
    gone : Set ℕ
    gone = deleted w e.index

    died : without nat_cmp w.live (is_live (counted (without_entities w gone))) ≡ without nat_cmp w.live (λ i. not (has_key nat_cmp gone i))
    died =
        without_alike nat_cmp w.live (is_live (counted (without_entities w gone))) (λ i. not (has_key nat_cmp gone i))
        (λ i c. left_there (has_key nat_cmp gone i) (value_at nat_cmp (without nat_cmp w.live (has_key nat_cmp gone)) i) (value_at nat_cmp w.live i) (nat_value_at-without w.live (has_key nat_cmp gone) i)
        (there_key nat_cmp nat_cmp_total w.live i c))

-- after `remove`, the fact and its mirror, of those that were held
pub differences_of_remove : (w : WorldState) (e : EntityId) (i : Id)
    → differences w (counted (effect w (Remove e i))) (written_by (Remove e i))
    ≡ record { born = None; died = []; came = []; went = filter (λ k. list_any (key_eq k) (removed w e.index i)) (keys w.facts); written = [] }
unfolding differences effect facts_after_remove
differences_of_remove w e i = λ j. record {
  born = none_born w (counted (effect w (Remove e i))) refl j;
  died = map (with_name w) (without_each nat_cmp w.live (is_live w) (λ k c. there_key nat_cmp nat_cmp_total w.live k c) j);
  came = none_comes w (λ k. list_any (key_eq k) (removed w e.index i)) j;
  went = those_go w (λ k. list_any (key_eq k) (removed w e.index i)) j;
  written = [];
}
