-- A world stays well formed when entities that are neither built in nor mentioned by a stored query are deleted, with all facts that mention them.
use Rattle.std.specs.Prelude.{◌≡◌, ◌≢◌, ℕ, ◌+◌, ◌^◌, ◌<◌, ◌≤◌, ◌==◌, Bool, true, false, not, ◌&&◌, ◌||◌, List, [], ◌∷◌, fold, length, ℤ, Option, Some, None, is_some, cond, unwrap_or, if◌then◌else◌}
use Rattle.std.specs.List.{Contains, list_all, list_any}
use Rattle.std.specs.FinMap.Entries.{find-where_key, is_sorted-where_key}
use Rattle.std.specs.FinMap.{nat_cmp-IsAntisymmetric}
use Rattle.std.specs.Option.{option_or}
use Rattle.std.specs.Ordering.{nat_cmp}
use Rattle.std.specs.Cmp.{nat_cmp_total}
use Rattle.std.proofs.Common.{refl, sym, ap, subst, ◌∙◌, inl, inr, arith, true≢false}
use Rattle.std.proofs.lemmas.List.Elements.{Contains-append_right}
use Rattle.ecs_id.specs.Id.{Id, plain, pair, mentioned}
use Rattle.ecs_model.specs.BuiltIns.{on_instantiate}
use Rattle.ecs_model.specs.steps.Outcomes.{counted, is_spent}
use Rattle.ecs_model.specs.Map.{Map, IsMap, value_at, has_key, with_value, without, keys, count_at}
use Rattle.ecs_model.specs.Schema.{Schema, schema_fault}
use Rattle.ecs_model.specs.Sets.{Set}
use Rattle.ecs_model.specs.Text.{is_name}
use Rattle.ecs_model.specs.World.{WorldState, Key, key_cmp, first_world, is_live, is_built_in, holds, value_of, name_of, ids_of, type_of_id, pair_is_tag}
use Rattle.ecs_model.specs.steps.FactChanges.{mentions_gone, facts_after_delete}
use Rattle.ecs_model.specs.steps.Step.{without_entities}
use Rattle.ecs_model.specs.steps.WellFormed.{IsWellFormed}
use Rattle.ecs_model.proofs.Additions.{not_spent}
use Rattle.ecs_model.proofs.Maps.{of_some, if_some, both_true, to_T, from_T, IsMap-with_value, nat_value_at}
use Rattle.ecs_model.proofs.Reasons.{neither}
use Rattle.ecs_model.proofs.Removals.{IsMap-without, fewer, value_at-without}
use Rattle.ecs_model.proofs.TypedValues.{IsTyped}
use Rattle.ecs_model.proofs.steps.Facts.{there_key}
use Rattle.ecs_model.proofs.steps.FewerPairs.{IsFewer, fewer_keep}
use Rattle.ecs_model.proofs.steps.LivingIds.{built_in_mentions, none_pass, refuted}

-- maps by number, without some of their numbers
pub nat_value_at-without : {X : Type 0} (m : Map ℕ X) (test : ℕ → Bool) (q : ℕ) → value_at nat_cmp (without nat_cmp m test) q ≡ cond (not (test q)) (value_at nat_cmp m q) None
nat_value_at-without m test q = find-where_key nat_cmp (λ k. not (test k)) q (λ x t. ap (λ k. not (test k)) (sym (nat_cmp-IsAntisymmetric q x t))) m

pub nat_IsMap-without : {X : Type 0} (m : Map ℕ X) (test : ℕ → Bool) → IsMap nat_cmp m → IsMap nat_cmp (without nat_cmp m test)
nat_IsMap-without m test h = from_T _ (is_sorted-where_key nat_cmp (λ k. not (test k)) m (to_T _ h))

-- what is left has not gone, and is as it was
pub was : {X : Type 0} (gone : Bool) (new old : Option X) → new ≡ cond (not gone) old None → (x : X) → new ≡ Some x → (gone ≡ false) × (old ≡ Some x)
was true new old e x f = absurd (true≢false (sym (ap is_some f) ∙ ap is_some e))
was false new old e x f = (refl, sym e ∙ f)

pub was_there : {X : Type 0} (gone : Bool) (new old : Option X) → new ≡ cond (not gone) old None → is_some new ≡ true → (gone ≡ false) × (is_some old ≡ true)
was_there true new old e f = absurd (true≢false (sym f ∙ ap is_some e))
was_there false new old e f = (refl, sym (ap is_some e) ∙ f)

pub stays : {X : Type 0} (gone : Bool) (new old : Option X) → new ≡ cond (not gone) old None → gone ≡ false → new ≡ old
stays true new old e g = absurd (true≢false g)
stays false new old e g = e

-- what wasn't there isn't there
none_still : {X : Type 0} (gone : Bool) (old : Option X) → is_some old ≡ false → cond (not gone) old None ≡ old
none_still gone (Some x) h = absurd (true≢false h)
none_still true None h = refl
none_still false None h = refl

-- the counts of deletions with one more for each of these
abbrev pub counted_up : Map ℕ ℕ → List ℕ → Map ℕ ℕ
counted_up m is = fold (λ m i. with_value nat_cmp m i (count_at m i + 1)) m is

pub IsMap-counted_up : (is : List ℕ) (m : Map ℕ ℕ) → IsMap nat_cmp m → IsMap nat_cmp (counted_up m is)
IsMap-counted_up [] m h = h
IsMap-counted_up (i ∷ is) m h =
    IsMap-counted_up is (with_value nat_cmp m i (count_at m i + 1)) (IsMap-with_value nat_cmp nat_cmp_total m i (count_at m i + 1) h)

count-counted_up : (is : List ℕ) (m : Map ℕ ℕ) (j : ℕ) → ((i : ℕ) → Contains is i → j ≢ i) → count_at (counted_up m is) j ≡ count_at m j
count-counted_up [] m j apart = refl
count-counted_up (i ∷ is) m j apart =
    count-counted_up is (with_value nat_cmp m i (count_at m i + 1)) j (λ k c. apart k (Contains-append_right (i ∷ []) is k c))
    ∙ elim (nat_value_at m i (count_at m i + 1) j) [ inl p ↦ absurd (apart i (0, omega arith, refl) p.0) | inr p ↦ ap (λ o. unwrap_or o 0) p.1 ]

-- who may go
pub record MayGo (w : WorldState) (gone : Set ℕ) : Type 0 where
  pub own : (i : ℕ) → has_key nat_cmp gone i ≡ true → is_built_in i ≡ false
  pub unpinned : (i n : ℕ) → has_key nat_cmp gone i ≡ true → value_at nat_cmp w.pins i ≢ Some n

module _ (w : WorldState) (gone : Set ℕ) (h : IsWellFormed w) (may : MayGo w gone) where
  abbrev is_gone : ℕ → Bool
  is_gone i = has_key nat_cmp gone i

  abbrev left : WorldState
  left = record {
    live = without nat_cmp w.live (has_key nat_cmp gone);
    facts = without key_cmp w.facts (mentions_gone w gone);
    names = without nat_cmp w.names (has_key nat_cmp gone);
    schemas = without nat_cmp w.schemas (has_key nat_cmp gone);
    deletions = counted_up w.deletions (keys gone);
    pins = w.pins;
    accepted = w.accepted + 1;
  }

  built_in_stays : (i : ℕ) → is_built_in i ≡ true → is_gone i ≡ false
  built_in_stays i b = refuted (is_gone i) (λ g. true≢false (sym b ∙ may.own i g))

  -- who is left was live and has not gone
  was_live : (i : ℕ) → is_live left i ≡ true → (is_gone i ≡ false) × (is_live w i ≡ true)
  was_live i l = was_there (is_gone i) (value_at nat_cmp left.live i) (value_at nat_cmp w.live i) (nat_value_at-without w.live (has_key nat_cmp gone) i) l

  still_live : (i : ℕ) → is_gone i ≡ false → is_live w i ≡ true → is_live left i ≡ true
  still_live i g l = ap is_some (stays (is_gone i) (value_at nat_cmp left.live i) (value_at nat_cmp w.live i) (nat_value_at-without w.live (has_key nat_cmp gone) i) g) ∙ l

  all_still_live : (is : List ℕ) → list_any is_gone is ≡ false → list_all (is_live w) is ≡ true → list_all (is_live left) is ≡ true
  all_still_live [] g l = refl
  all_still_live (i ∷ is) g l =
      let none = neither (is_gone i) (list_any is_gone is) g in
      let live = both_true (is_live w i) (list_all (is_live w) is) l in
      λ k. still_live i none.0 live.0 k && all_still_live is none.1 live.1 k

  -- a fact that is left mentions no one who has gone
  abbrev at : (k : Key) → value_at key_cmp left.facts k ≡ cond (not (mentions_gone w gone k)) (value_at key_cmp w.facts k) None
  at k = value_at-without w.facts (mentions_gone w gone) k

  fact_was : (k : Key) (x : List ℤ) → value_at key_cmp left.facts k ≡ Some x → (mentions_gone w gone k ≡ false) × (value_at key_cmp w.facts k ≡ Some x)
  fact_was k x f = was (mentions_gone w gone k) (value_at key_cmp left.facts k) (value_at key_cmp w.facts k) (at k) x f

  held_was : (e : ℕ) (i : Id) → holds left e i ≡ true → (mentions_gone w gone (e, i) ≡ false) × (holds w e i ≡ true)
  held_was e i f = was_there (mentions_gone w gone (e, i)) (value_of left e i) (value_of w e i) (at (e, i)) f

  fact_stays : (k : Key) → mentions_gone w gone k ≡ false → value_at key_cmp left.facts k ≡ value_at key_cmp w.facts k
  fact_stays k g = stays (mentions_gone w gone k) (value_at key_cmp left.facts k) (value_at key_cmp w.facts k) (at k) g

  held_stays : (e : ℕ) (i : Id) → is_gone e ≡ false → list_any is_gone (mentioned i) ≡ false → holds left e i ≡ holds w e i
  held_stays e i g m = ap is_some (fact_stays (e, i) (λ k. g k || m k))

  -- a fact of a built-in entity mentions built-in entities alone, so it stays
  built_in_facts : (e : ℕ) (i : Id) → is_built_in e ≡ true → value_of left e i ≡ value_of w e i
  built_in_facts e i b = by (holds w e i) refl
    where
      by : (c : Bool) → holds w e i ≡ c → value_of left e i ≡ value_of w e i
      by true held =
          let none = none_pass is_gone (mentioned i) (λ x c. built_in_stays x (built_in_mentions w h e i b held x c)) in
          fact_stays (e, i) (λ k. built_in_stays e b k || none k)
      by false none = at (e, i) ∙ none_still (mentions_gone w gone (e, i)) (value_of w e i) none

  -- an id of those who stay keeps its type
  schema_stays : (c : ℕ) → is_gone c ≡ false → value_at nat_cmp left.schemas c ≡ value_at nat_cmp w.schemas c
  schema_stays c g = stays (is_gone c) (value_at nat_cmp left.schemas c) (value_at nat_cmp w.schemas c) (nat_value_at-without w.schemas (has_key nat_cmp gone) c) g

  type_stays : (i : Id) → list_any is_gone (mentioned i) ≡ false → type_of_id left i ≡ type_of_id w i
  type_stays (plain c) g = schema_stays c (neither (is_gone c) false g).0
  type_stays (pair r t) g =
      let first = neither (is_gone r) (is_gone t || false) g in
      let second = neither (is_gone t) false first.1 in
      let tag = held_stays r (plain pair_is_tag) first.0 (λ k. built_in_stays pair_is_tag refl k || false) in
      λ k. if tag k then None else option_or (schema_stays r first.0 k) (schema_stays t second.0 k)

  generations : (i g : ℕ) → value_at nat_cmp left.live i ≡ Some g → (g ≡ count_at left.deletions i) × (g < 2 ^ 16)
  generations i g f =
      let old = was (is_gone i) (value_at nat_cmp left.live i) (value_at nat_cmp w.live i) (nat_value_at-without w.live (has_key nat_cmp gone) i) g f in
      let kept = of_some (λ g. (g ≡ count_at w.deletions i) × (g < 2 ^ 16)) (value_at nat_cmp w.live i) ((h.indexes).generation i) g old.1 in
      let same = count-counted_up (keys gone) w.deletions i
      (λ j c e. true≢false (sym (there_key nat_cmp nat_cmp_total gone j c) ∙ (ap is_gone (sym e) ∙ old.0))) in
      (kept.0 ∙ sym same, kept.1)

  built_in_live : (i : ℕ) → is_built_in i ≡ true → value_at nat_cmp left.live i ≡ Some 0
  built_in_live i b =
      stays (is_gone i) (value_at nat_cmp left.live i) (value_at nat_cmp w.live i) (nat_value_at-without w.live (has_key nat_cmp gone) i) (built_in_stays i b)
      ∙ (h.built_in).live i b

  name_was : (i : ℕ) (n : List ℕ) → name_of left i ≡ Some n → (is_gone i ≡ false) × (name_of w i ≡ Some n)
  name_was i n f = was (is_gone i) (name_of left i) (name_of w i) (nat_value_at-without w.names (has_key nat_cmp gone) i) n f

  built_in_names : (i : ℕ) → is_built_in i ≡ true → name_of left i ≡ name_of first_world i
  built_in_names i b =
      stays (is_gone i) (name_of left i) (name_of w i) (nat_value_at-without w.names (has_key nat_cmp gone) i) (built_in_stays i b) ∙ (h.built_in).names i b

  names_live : (i : ℕ) (n : List ℕ) → name_of left i ≡ Some n → (is_live left i ≡ true) × (is_name n ≡ true)
  names_live i n f =
      let old = name_was i n f in
      let kept = of_some (λ n. (is_live w i ≡ true) × (is_name n ≡ true)) (name_of w i) ((h.live).names i) n old.1 in
      (still_live i old.0 kept.0, kept.1)

  schemas_live : (i : ℕ) (fs : Schema) → value_at nat_cmp left.schemas i ≡ Some fs → (is_live left i ≡ true) × (schema_fault fs ≡ None)
  schemas_live i fs f =
      let old = was (is_gone i) (value_at nat_cmp left.schemas i) (value_at nat_cmp w.schemas i) (nat_value_at-without w.schemas (has_key nat_cmp gone) i) fs f in
      let kept = of_some (λ fs. (is_live w i ≡ true) × (schema_fault fs ≡ None)) (value_at nat_cmp w.schemas i) ((h.live).schemas i) fs old.1 in
      (still_live i old.0 kept.0, kept.1)

  pins_live : (i n : ℕ) → value_at nat_cmp w.pins i ≡ Some n → (is_live left i ≡ true) × (0 < n) × (n < 2 ^ 64)
  pins_live i n f =
      let kept = of_some (λ n. (is_live w i ≡ true) × (0 < n) × (n < 2 ^ 64)) (value_at nat_cmp w.pins i) ((h.live).pins i) n f in
      (still_live i (refuted (is_gone i) (λ g. may.unpinned i n g f)) kept.0, kept.1, kept.2)

  facts_stay_live : (e : ℕ) (i : Id) → holds left e i ≡ true → (is_live left e ≡ true) × (list_all (is_live left) (mentioned i) ≡ true)
  facts_stay_live e i f =
      let old = held_was e i f in
      let none = neither (is_gone e) (list_any is_gone (mentioned i)) old.0 in
      let kept = (h.live).facts e i old.1 in
      (still_live e none.0 kept.0, all_still_live (mentioned i) none.1 kept.1)

  still_typed : (e : ℕ) (i : Id) (x : List ℤ) → value_of left e i ≡ Some x → IsTyped (type_of_id left i) x
  still_typed e i x f =
      let old = fact_was (e, i) x f in
      let none = neither (is_gone e) (list_any is_gone (mentioned i)) old.0 in
      subst (λ o. IsTyped o x) (sym (type_stays i none.1)) (of_some (IsTyped (type_of_id w i)) (value_of w e i) (h.typed e i) x old.1)

  few : (e : ℕ) → length (ids_of left e) ≤ 64
  few e = let less = fewer (λ (k : Key). if k.0 == e then Some k.1 else None) w.facts (mentions_gone w gone) in omega (arith, less, h.few_ids e)

  -- of what mentions no one who has gone, all stays
  pairs_stay : IsFewer w left
  pairs_stay = record {
    pairs = λ e r t f. (held_was e (pair r t) f).1;
    traits = λ r c i f. (held_was r (plain c) f).1;
    mirrors = λ e r t s f m.
        let none = neither (is_gone e) (list_any is_gone (r ∷ t ∷ [])) (held_was e (pair r t) f).0 in
        let first = neither (is_gone r) (is_gone t || false) none.1 in
        let second = neither (is_gone t) false first.1 in
        held_stays t (pair r e) second.0 (λ k. first.0 k || (none.0 k || false)) ∙ m;
    acyclics = λ r f a.
        let none = neither (is_gone r) (list_any is_gone (11 ∷ [])) (held_was r (plain 11) f).0 in
        held_stays r (plain 10) none.0 (λ k. built_in_stays 10 refl k || false) ∙ a;
  }

  left_is_well_formed : is_spent w ≡ false → IsWellFormed left
  left_is_well_formed spent = record {
    in_order = record {
      live = nat_IsMap-without w.live (has_key nat_cmp gone) (h.in_order).live;
      facts = IsMap-without w.facts (mentions_gone w gone) (h.in_order).facts;
      names = nat_IsMap-without w.names (has_key nat_cmp gone) (h.in_order).names;
      schemas = nat_IsMap-without w.schemas (has_key nat_cmp gone) (h.in_order).schemas;
      deletions = IsMap-counted_up (keys gone) w.deletions (h.in_order).deletions;
      pins = (h.in_order).pins;
    };
    indexes = record {
      given_out = λ i l. (h.indexes).given_out i (was_live i l).1;
      generation = λ i. if_some (λ g. (g ≡ count_at left.deletions i) × (g < 2 ^ 16)) (value_at nat_cmp left.live i) (generations i);
    };
    built_in = record {
      live = built_in_live;
      names = built_in_names;
      facts = λ e i b. built_in_facts e i b ∙ (h.built_in).facts e i b;
      schemas = λ i b. schema_stays i (built_in_stays i b) ∙ (h.built_in).schemas i b;
    };
    live = record {
      names = λ i. if_some (λ n. (is_live left i ≡ true) × (is_name n ≡ true)) (name_of left i) (names_live i);
      names_differ = λ i j n p q. (h.live).names_differ i j n (name_was i n p).1 (name_was j n q).1;
      schemas = λ i. if_some (λ fs. (is_live left i ≡ true) × (schema_fault fs ≡ None)) (value_at nat_cmp left.schemas i) (schemas_live i);
      pins = λ i. if_some (λ n. (is_live left i ≡ true) × (0 < n) × (n < 2 ^ 64)) (value_at nat_cmp w.pins i) (pins_live i);
      facts = facts_stay_live;
    };
    typed = λ e i. if_some (IsTyped (type_of_id left i)) (value_of left e i) (still_typed e i);
    few_ids = few;
    counted = not_spent w.accepted spent;
    traits = fewer_keep w left h.traits pairs_stay;
  }

  pub deletion_keeps : is_spent w ≡ false → IsWellFormed (counted (without_entities w gone))
  unfolding without_entities facts_after_delete
  deletion_keeps spent = left_is_well_formed spent

  -- an id that is still held keeps its type
  pub deletion_types : (e : ℕ) (i : Id) → holds (counted (without_entities w gone)) e i ≡ true → type_of_id (counted (without_entities w gone)) i ≡ type_of_id w i
  unfolding without_entities facts_after_delete
  deletion_types e i f = type_stays i (neither (is_gone e) (list_any is_gone (mentioned i)) (held_was e i f).0).1

  -- a plain trait of who stays is there as before
  pub deletion_traits : (r c : ℕ) → is_gone r ≡ false → is_built_in c ≡ true → holds (counted (without_entities w gone)) r (plain c) ≡ holds w r (plain c)
  unfolding without_entities facts_after_delete
  deletion_traits r c g b = held_stays r (plain c) g (λ k. built_in_stays c b k || false)

  pub deletion_modes : (r m : ℕ) → is_gone r ≡ false → is_built_in m ≡ true → holds (counted (without_entities w gone)) r (pair on_instantiate m) ≡ holds w r (pair on_instantiate m)
  unfolding without_entities facts_after_delete
  deletion_modes r m g b = held_stays r (pair on_instantiate m) g (λ k. built_in_stays on_instantiate refl k || (built_in_stays m b k || false))

  -- who holds a pair that is left stays, and so does its relationship
  pub relationship_stays : (f r t : ℕ) → holds (counted (without_entities w gone)) f (pair r t) ≡ true → is_gone r ≡ false
  unfolding without_entities facts_after_delete
  relationship_stays f r t p = (neither (is_gone r) (is_gone t || false) (neither (is_gone f) (list_any is_gone (r ∷ t ∷ [])) (held_was f (pair r t) p).0).1).0

  -- who is live afterwards has not gone
  pub left_stays : (j : ℕ) → is_live (counted (without_entities w gone)) j ≡ true → is_gone j ≡ false
  unfolding without_entities
  left_stays j l = (was_live j l).0

  pub deletion_schemas : (j : ℕ) → is_gone j ≡ false → value_at nat_cmp (counted (without_entities w gone)).schemas j ≡ value_at nat_cmp w.schemas j
  unfolding without_entities
  deletion_schemas j g = schema_stays j g
