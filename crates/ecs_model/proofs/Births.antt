-- A world stays well formed with a new entity, where what traits ask stays so.
use Rattle.std.specs.Prelude.{◌≡◌, ◌≢◌, ◌⊎◌, ℕ, ◌+◌, ◌^◌, ◌<◌, ◌≤◌, ◌==◌, Bool, true, false, ◌&&◌, List, [], ◌∷◌, filter_map, length, ℤ, Some, None, is_some, option_map, cond, bytes_eq, if◌then◌else◌}
use Rattle.std.specs.List.{list_all, find}
use Rattle.std.specs.Ordering.{nat_cmp, eq_by_cmp}
use Rattle.std.specs.Cmp.{nat_cmp_total}
use Rattle.std.proofs.Common.{refl, sym, ap, subst, ◌∙◌, inl, inr, arith, true≢false}
use Rattle.std.proofs.lemmas.Bool.Decides.{nat_tests}
use Rattle.std.proofs.lemmas.Slice.Eq.{bytes_eq-Decides}
use Rattle.ecs_id.specs.Id.{Id, plain, mentioned, first_of}
use Rattle.ecs_model.specs.Map.{Map, IsMap, value_at, with_value, count_at, keys}
use Rattle.ecs_model.specs.Text.{is_name}
use Rattle.ecs_model.specs.Schema.{Schema, schema_fault}
use Rattle.ecs_model.specs.World.{WorldState, Key, key_cmp, component, is_live, is_built_in, holds, value_of, name_of, named, type_of_id, pair_is_tag, first_index, last_index}
use Rattle.ecs_model.specs.steps.Outcomes.{is_spent}
use Rattle.ecs_model.specs.steps.WellFormed.{IsWellFormed, KeepsTraits}
use Rattle.ecs_model.proofs.Maps.{of_some, if_some, both_true, nat_value_at, IsMap-with_value}
use Rattle.ecs_model.proofs.Reasons.{IsFree}
use Rattle.ecs_model.proofs.TypedValues.{IsTyped, same_type}
use Rattle.ecs_model.proofs.Additions.{not_spent}

-- a name that no entity has is not the name of an entity
unnamed_by : (n : List ℕ) (m : Map ℕ (List ℕ)) (j : ℕ) → is_some (option_map (λ e. e.0) (find (λ e. bytes_eq n e.1) m)) ≡ false → value_at nat_cmp m j ≢ Some n
unnamed_by n [] j h p = cc
unnamed_by n (e ∷ es) j h p = by (bytes_eq n e.1) (eq_by_cmp nat_cmp j e.0) refl h p (λ f g. unnamed_by n es j f g)
  where
    by : (b c : Bool) → bytes_eq n e.1 ≡ b → is_some (option_map (λ e. e.0) (cond b (Some e) (find (λ e. bytes_eq n e.1) es))) ≡ false
        → cond c (Some e.1) (value_at nat_cmp es j) ≡ Some n
        → (is_some (option_map (λ e. e.0) (find (λ e. bytes_eq n e.1) es)) ≡ false → value_at nat_cmp es j ≢ Some n) → ⊥
    by true c p f g rest = absurd (true≢false f)
    by false true p f g rest = let same : n ≡ e.1 = cc in absurd (true≢false (sym ((bytes_eq-Decides n e.1).1 same) ∙ p))
    by false false p f g rest = rest f g

later : (i : ℕ) → first_index ≤ i → is_built_in i ≡ false
later i low = grind (arith, nat_tests)

pub all_more : (p q : ℕ → Bool) → ((j : ℕ) → p j ≡ true → q j ≡ true) → (xs : List ℕ) → list_all p xs ≡ true → list_all q xs ≡ true
all_more p q f [] h = refl
all_more p q f (x ∷ xs) h = let parts = both_true (p x) (list_all p xs) h in λ k. f x parts.0 k && all_more p q f xs parts.1 k

-- the names of a world with at most one more, which no entity has
pub record IsNaming (w : WorldState) (i : ℕ) (names : Map ℕ (List ℕ)) : Type 0 where
  pub in_order : IsMap nat_cmp names
  pub others : (j : ℕ) → j ≢ i → value_at nat_cmp names j ≡ name_of w j
  pub sound : (n : List ℕ) → value_at nat_cmp names i ≡ Some n → is_name n ≡ true
  pub unused : (n : List ℕ) → value_at nat_cmp names i ≡ Some n → (j : ℕ) → name_of w j ≢ Some n

-- a new name is such a change
pub name_is_naming : (w : WorldState) (i : ℕ) (n : List ℕ) → IsWellFormed w → is_name n ≡ true → is_some (named w n) ≡ false
    → IsNaming w i (with_value nat_cmp w.names i n)
name_is_naming w i n h name unnamed = record {
  in_order = IsMap-with_value nat_cmp nat_cmp_total w.names i n (h.in_order).names;
  others = λ j d. elim (nat_value_at w.names i n j) [ inl p ↦ absurd (d p.0) | inr p ↦ p.1 ];
  sound = λ m p. subst (λ x. is_name x ≡ true) (same m p) name;
  unused = λ m p j taken. unnamed_by n w.names j unnamed (taken ∙ ap Some (sym (same m p)));
}
  where
    same : (m : List ℕ) → value_at nat_cmp (with_value nat_cmp w.names i n) i ≡ Some m → n ≡ m
    same m p =
        elim (nat_value_at w.names i n i) [
          | inl q ↦ let one : Some n ≡ Some m = sym q.1 ∙ p in cc
          | inr q ↦ absurd (q.0 refl)
        ]

-- an index that is not live has no name
no_name : (w : WorldState) (i : ℕ) → IsWellFormed w → is_live w i ≡ false → (n : List ℕ) → name_of w i ≢ Some n
no_name w i h dead n p =
    true≢false (sym (of_some (λ x. (is_live w i ≡ true) × (is_name x ≡ true)) (name_of w i) ((h.live).names i) n p).0 ∙ dead)

-- and so is no name at all
pub no_name_is_naming : (w : WorldState) (i : ℕ) → IsWellFormed w → is_live w i ≡ false → IsNaming w i w.names
no_name_is_naming w i h dead = record {
  in_order = (h.in_order).names;
  others = λ j d. refl;
  sound = λ n p. absurd (no_name w i h dead n p);
  unused = λ n p. absurd (no_name w i h dead n p);
}

-- what comes with a new entity: at most a name, in a component's case its fields, and at most the fact that it is a component
pub record IsBirth (w : WorldState) (i g : ℕ) (names : Map ℕ (List ℕ)) (schemas : Map ℕ Schema) (facts : Map Key (List ℤ)) : Type 0 where
  pub free : IsFree w i g
  pub naming : IsNaming w i names
  pub schemas_in_order : IsMap nat_cmp schemas
  pub facts_in_order : IsMap key_cmp facts
  pub other_schemas : (j : ℕ) → j ≢ i → value_at nat_cmp schemas j ≡ value_at nat_cmp w.schemas j
  pub sound : (fs : Schema) → value_at nat_cmp schemas i ≡ Some fs → schema_fault fs ≡ None
  pub other_facts : (q : Key) → (q ≡ (i, plain component)) ⊎ (value_at key_cmp facts q ≡ value_at key_cmp w.facts q)
  pub empty : (x : List ℤ) → value_at key_cmp facts (i, plain component) ≡ Some x → x ≡ []
  pub few : (e : ℕ) → length (filter_map (λ k. if k.0 == e then Some k.1 else None) (keys facts)) ≤ 64

-- the world with it
abbrev pub with_birth : WorldState → ℕ → ℕ → Map ℕ (List ℕ) → Map ℕ Schema → Map Key (List ℤ) → WorldState
with_birth w i g names schemas facts = record w {
  live = with_value nat_cmp w.live i g;
  names = names;
  schemas = schemas;
  facts = facts;
  accepted = w.accepted + 1;
}

module _ (w : WorldState) (i g : ℕ) (names : Map ℕ (List ℕ)) (schemas : Map ℕ Schema) (facts : Map Key (List ℤ)) (h : IsWellFormed w)
    (b : IsBirth w i g names schemas facts) where
  abbrev after : WorldState
  after = with_birth w i g names schemas facts

  new_index : (j : ℕ) → is_live w j ≡ true → j ≢ i
  new_index j l p = true≢false (sym l ∙ ap (is_live w) p ∙ (b.free).fresh)

  given : (j : ℕ) → is_built_in j ≡ true → j ≢ i
  given j l p = true≢false (sym l ∙ ap is_built_in p ∙ later i (b.free).low)

  still_live : (j : ℕ) → is_live w j ≡ true → is_live after j ≡ true
  still_live j l = elim (nat_value_at w.live i g j) [ inl p ↦ ap is_some p.1 | inr p ↦ ap is_some p.1 ∙ l ]

  new_live : is_live after i ≡ true
  new_live = elim (nat_value_at w.live i g i) [ inl p ↦ ap is_some p.1 | inr p ↦ absurd (p.0 refl) ]

  all_still_live : (xs : List ℕ) → list_all (is_live w) xs ≡ true → list_all (is_live after) xs ≡ true
  all_still_live = all_more (is_live w) (is_live after) still_live

  given_out : (j : ℕ) → is_live after j ≡ true → (is_built_in j ≡ true) ⊎ ((first_index ≤ j) × (j ≤ last_index))
  given_out j l =
      elim (nat_value_at w.live i g j) [
        | inl p ↦ inr (subst (λ k. (first_index ≤ k) × (k ≤ last_index)) (sym p.0) ((b.free).low, (b.free).high))
        | inr p ↦ (h.indexes).given_out j (sym (ap is_some p.1) ∙ l)
      ]

  generations : (j x : ℕ) → value_at nat_cmp after.live j ≡ Some x → (x ≡ count_at w.deletions j) × (x < 2 ^ 16)
  generations j x found =
      elim (nat_value_at w.live i g j) [
        | inl p ↦ let same : Some g ≡ Some x = sym p.1 ∙ found in
            let is : g ≡ x = cc in
            subst (λ y. (y ≡ count_at w.deletions j) × (y < 2 ^ 16)) is ((b.free).generation ∙ ap (count_at w.deletions) (sym p.0), (b.free).few)
        | inr p ↦ of_some (λ y. (y ≡ count_at w.deletions j) × (y < 2 ^ 16)) (value_at nat_cmp w.live j) ((h.indexes).generation j) x (sym p.1 ∙ found)
      ]

  built_in_live : (j : ℕ) → is_built_in j ≡ true → value_at nat_cmp after.live j ≡ value_at nat_cmp w.live j
  built_in_live j l = elim (nat_value_at w.live i g j) [ inl p ↦ absurd (given j l p.0) | inr p ↦ p.1 ]

  built_in_names : (j : ℕ) → is_built_in j ≡ true → name_of after j ≡ name_of w j
  built_in_names j l = (b.naming).others j (given j l)

  built_in_facts : (f : ℕ) (k : Id) → is_built_in f ≡ true → value_of after f k ≡ value_of w f k
  built_in_facts f k l = elim (b.other_facts (f, k)) [ inl p ↦ absurd (given f l (ap (λ q. q.0) p)) | inr p ↦ p ]

  names_live : (j : ℕ) (m : List ℕ) → name_of after j ≡ Some m → (is_live after j ≡ true) × (is_name m ≡ true)
  names_live j m found =
      elim (nat_value_at w.live i g j) [
        | inl p ↦ (ap is_some p.1, (b.naming).sound m (sym (ap (value_at nat_cmp names) p.0) ∙ found))
        | inr p ↦ let old = of_some (λ x. (is_live w j ≡ true) × (is_name x ≡ true)) (name_of w j) ((h.live).names j) m (sym ((b.naming).others j p.0) ∙ found) in
            (still_live j old.0, old.1)
      ]

  -- the new entity's name is no other's
  own_name : (j k : ℕ) (m : List ℕ) → j ≡ i → k ≢ i → name_of after j ≡ Some m → name_of after k ≢ Some m
  own_name j k m is other p q = (b.naming).unused m (sym (ap (value_at nat_cmp names) is) ∙ p) k (sym ((b.naming).others k other) ∙ q)

  names_differ : (j k : ℕ) (m : List ℕ) → name_of after j ≡ Some m → name_of after k ≡ Some m → j ≡ k
  names_differ j k m p q =
      elim (nat_value_at w.live i g j) [
        | inl r ↦ elim (nat_value_at w.live i g k) [
          | inl s ↦ r.0 ∙ sym s.0
          | inr s ↦ absurd (own_name j k m r.0 s.0 p q)
        ]
        | inr r ↦ elim (nat_value_at w.live i g k) [
          | inl s ↦ absurd (own_name k j m s.0 r.0 q p)
          | inr s ↦ (h.live).names_differ j k m (sym ((b.naming).others j r.0) ∙ p) (sym ((b.naming).others k s.0) ∙ q)
        ]
      ]

  schemas_live : (j : ℕ) (fs : Schema) → value_at nat_cmp schemas j ≡ Some fs → (is_live after j ≡ true) × (schema_fault fs ≡ None)
  schemas_live j fs found =
      elim (nat_value_at w.live i g j) [
        | inl p ↦ (ap is_some p.1, b.sound fs (sym (ap (value_at nat_cmp schemas) p.0) ∙ found))
        | inr p ↦ let old = of_some (λ x. (is_live w j ≡ true) × (schema_fault x ≡ None)) (value_at nat_cmp w.schemas j) ((h.live).schemas j) fs (sym (b.other_schemas j p.0) ∙ found) in
            (still_live j old.0, old.1)
      ]

  component_live : is_live after component ≡ true
  component_live = still_live component (ap is_some ((h.built_in).live component refl))

  facts_live : (f : ℕ) (k : Id) → holds after f k ≡ true → (is_live after f ≡ true) × (list_all (is_live after) (mentioned k) ≡ true)
  facts_live f k held =
      elim (b.other_facts (f, k)) [
        | inl p ↦ subst (λ q. (is_live after q.0 ≡ true) × (list_all (is_live after) (mentioned q.1) ≡ true)) (sym p) (new_live, ap (λ c. c && true) component_live)
        | inr p ↦ let old = (h.live).facts f k (sym (ap is_some p) ∙ held) in (still_live f old.0, all_still_live (mentioned k) old.1)
      ]

  same_tags : (r : ℕ) → holds after r (plain pair_is_tag) ≡ holds w r (plain pair_is_tag)
  same_tags r =
      elim (b.other_facts (r, plain pair_is_tag)) [
        | inl p ↦ absurd (true≢false (ap (λ q. first_of q.1 == pair_is_tag) p))
        | inr p ↦ ap is_some p
      ]

  no_fields : type_of_id after (plain component) ≡ None
  no_fields = b.other_schemas component (given component refl) ∙ (h.built_in).schemas component refl

  typed : (f : ℕ) (k : Id) (x : List ℤ) → value_of after f k ≡ Some x → IsTyped (type_of_id after k) x
  typed f k x found =
      elim (b.other_facts (f, k)) [
        | inl p ↦ let none : x ≡ [] = b.empty x (sym (ap (value_at key_cmp facts) p) ∙ found) in
            subst (λ q. IsTyped (type_of_id after q.1) x) (sym p) (subst (IsTyped (type_of_id after (plain component))) (sym none) (subst (λ o. IsTyped o []) (sym no_fields) (refl, refl)))
        | inr p ↦ let old = (h.live).facts f k (ap is_some (sym p ∙ found)) in
            let same : type_of_id after k ≡ type_of_id w k = same_type w after (is_live w) k old.1 (λ j l. b.other_schemas j (new_index j l)) same_tags in
            subst (λ o. IsTyped o x) (sym same) (of_some (IsTyped (type_of_id w k)) (value_of w f k) (h.typed f k) x (sym p ∙ found))
      ]

  pins_live : (j x : ℕ) → value_at nat_cmp w.pins j ≡ Some x → (is_live after j ≡ true) × (0 < x) × (x < 2 ^ 64)
  pins_live j x found =
      let old = of_some (λ y. (is_live w j ≡ true) × (0 < y) × (y < 2 ^ 64)) (value_at nat_cmp w.pins j) ((h.live).pins j) x found in
      (still_live j old.0, old.1, old.2)

  pub birth_keeps : is_spent w ≡ false → KeepsTraits after → IsWellFormed (with_birth w i g names schemas facts)
  birth_keeps spent traits = record {
    in_order = record {
      live = IsMap-with_value nat_cmp nat_cmp_total w.live i g (h.in_order).live;
      facts = b.facts_in_order;
      names = (b.naming).in_order;
      schemas = b.schemas_in_order;
      deletions = (h.in_order).deletions;
      pins = (h.in_order).pins;
    };
    indexes = record {
      given_out = given_out;
      generation = λ j. if_some (λ x. (x ≡ count_at w.deletions j) × (x < 2 ^ 16)) (value_at nat_cmp after.live j) (generations j);
    };
    built_in = record {
      live = λ j l. built_in_live j l ∙ (h.built_in).live j l;
      names = λ j l. built_in_names j l ∙ (h.built_in).names j l;
      facts = λ f k l. built_in_facts f k l ∙ (h.built_in).facts f k l;
      schemas = λ j l. b.other_schemas j (given j l) ∙ (h.built_in).schemas j l;
    };
    live = record {
      names = λ j. if_some (λ m. (is_live after j ≡ true) × (is_name m ≡ true)) (name_of after j) (names_live j);
      names_differ = names_differ;
      schemas = λ j. if_some (λ fs. (is_live after j ≡ true) × (schema_fault fs ≡ None)) (value_at nat_cmp schemas j) (schemas_live j);
      pins = λ j. if_some (λ x. (is_live after j ≡ true) × (0 < x) × (x < 2 ^ 64)) (value_at nat_cmp w.pins j) (pins_live j);
      facts = facts_live;
    };
    typed = λ f k. if_some (IsTyped (type_of_id after k)) (value_of after f k) (typed f k);
    few_ids = b.few;
    counted = not_spent w.accepted spent;
    traits = traits;
  }
