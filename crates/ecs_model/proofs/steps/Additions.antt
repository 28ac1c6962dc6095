-- A world stays well formed when an added set comes, what gives way to it goes, and the facts of a base are copied.
use Rattle.std.proofs.Common.{◌≡◌, ℕ, ◌≤◌, ◌==◌, ◌⊎◌, Bool, true, false, cond, not, List, [], length, refl, sym, ap, subst, ◌∙◌, inl, inr, arith, true≢false}
use Rattle.std.specs.Prelude.{ℤ, Option, Some, None, is_some, map, if◌then◌else◌}
use Rattle.std.specs.List.{Contains, list_all, list_any}
use Rattle.std.specs.Option.{option_or}
use Rattle.std.specs.Ordering.{nat_cmp}
use Rattle.std.proofs.lemmas.Bool.Decides.{nat_tests}
use Rattle.std.proofs.lemmas.List.Elements.{Contains-append_left, Contains-append_right}
use Rattle.ecs_id.specs.Id.{Id, plain, pair, first_of, id_cmp, mentioned}
use Rattle.ecs_model.specs.Added.{IsAdded, displaced, is_used, mirror, with_first}
use Rattle.ecs_model.specs.BuiltIns.{exclusive, symmetric, acyclic, traversable, with_trait}
use Rattle.ecs_model.specs.steps.Outcomes.{counted, is_spent, with_facts}
use Rattle.ecs_model.specs.Links.{IsAcyclic, upward}
use Rattle.ecs_model.specs.Map.{Map, IsMap, has_key, value_at}
use Rattle.ecs_model.specs.Reach.{itself, onward}
use Rattle.ecs_model.specs.World.{WorldState, Key, key_cmp, entities, first_world, holds, ids_of, is_built_in, is_live, pair_is_tag, type_of_id, value_of}
use Rattle.ecs_model.specs.steps.FactChanges.{added}
use Rattle.ecs_model.specs.steps.WellFormed.{IsWellFormed}
use Rattle.ecs_model.specs.steps.Rules.{is_trait}
use Rattle.ecs_model.proofs.Additions.{not_spent}
use Rattle.ecs_model.proofs.Maps.{if_some, of_some}
use Rattle.ecs_model.proofs.Members.{alike, any_passes, eq_itself, eq_same}
use Rattle.ecs_model.proofs.TypedValues.{IsTyped}
use Rattle.ecs_model.proofs.steps.AddedSets.{HasForm, added_are_members, added_form, form_lives, in_map, in_mirror}
use Rattle.ecs_model.proofs.steps.CopiedIds.{Comes, CopiedFrom, no_other, no_trait, not_symmetric, of_base}
use Rattle.ecs_model.proofs.steps.Facts.{held_listed, holds_leads, live_listed}
use Rattle.ecs_model.proofs.steps.LivingIds.{built_in_mentions, holder_lives, refuted}
use Rattle.ecs_model.proofs.steps.ReplacedFacts.{GivesWay, gives_way, is_replaced, mirror_displaced, other_displaced, replaced_by}

-- the facts after an added set came, and copies from a base: what comes is there, with values of its id's type, and each other fact has gone or is as it was
pub record IsAddition (w : WorldState) (e : ℕ) (i : Id) (o : Option ℕ) (facts : Map Key (List ℤ)) : Type 0 where
  pub in_order : IsMap key_cmp facts
  pub there : (q : Key) → Comes w e i o q → has_key key_cmp facts q ≡ true
  pub each : (q : Key)
      → (Comes w e i o q × ((x : List ℤ) → value_at key_cmp facts q ≡ Some x → IsTyped (type_of_id w q.1) x))
      ⊎ (value_at key_cmp facts q ≡ cond (not (is_replaced w e i q)) (value_at key_cmp w.facts q) None)

-- what may come: its entities and ids live, no fact comes to a built-in entity, and no trait to an entity that is used
pub record MayCome (w : WorldState) (e : ℕ) (i : Id) : Type 0 where
  pub live : is_live w e ≡ true
  pub mentions : list_all (is_live w) (mentioned i) ≡ true
  pub own : (k : Key) → IsAdded (ids_of w) (e, i) k → is_built_in k.0 ≡ false
  pub fixed : (k : Key) → IsAdded (ids_of w) (e, i) k → holds w k.0 k.1 ≡ false → is_trait k.1 ≡ true → is_used (ids_of w) (entities w) k.0 ≡ false

pub same_parts : (e f r s t u : ℕ) → ◌≡◌ {A = Key} (e, pair r t) (f, pair s u) → (e ≡ f) × (r ≡ s) × (t ≡ u)
same_parts e f r s t u q =
    let first : e ≡ f = ap (λ (k : Key). k.0) q in
    let second : pair r t ≡ pair s u = ap (λ (k : Key). k.1) q in
    (first, (cc), (cc))

pub no_pair : (e f c r t : ℕ) → ◌≡◌ {A = Key} (e, plain c) (f, pair r t) → ⊥
no_pair e f c r t q = let second : plain c ≡ pair r t = ap (λ (k : Key). k.1) q in cc

-- an added set is of plain ids alone or of pairs alone
not_mixed : (e : ℕ) (i : Id) (c d f r t g n : ℕ) → HasForm e i c (g, plain n) → HasForm e i d (f, pair r t) → ⊥
not_mixed e (plain a) c d f r t g n p q = no_pair e f d r t (sym q)
not_mixed e (pair a b) c d f r t g n (inl p) q = no_pair g e n c b p
not_mixed e (pair a b) c d f r t g n (inr p) q = no_pair g b n c e p

-- of its pairs, those of one entity have one target
one_end : (e : ℕ) (i : Id) (c d f r t u : ℕ) → HasForm e i c (f, pair r t) → HasForm e i d (f, pair r u) → t ≡ u
one_end e (plain a) c d f r t u p q = absurd (no_pair e f c r t (sym p))
one_end e (pair a b) c d f r t u (inl p) (inl q) = (same_parts f e r c t b p).2 ∙ sym (same_parts f e r d u b q).2
one_end e (pair a b) c d f r t u (inl p) (inr q) =
    let x = same_parts f e r c t b p in let y = same_parts f b r d u e q in x.2 ∙ (sym y.0 ∙ (x.0 ∙ sym y.2))
one_end e (pair a b) c d f r t u (inr p) (inl q) =
    let x = same_parts f b r c t e p in let y = same_parts f e r d u b q in x.2 ∙ (sym y.0 ∙ (x.0 ∙ sym y.2))
one_end e (pair a b) c d f r t u (inr p) (inr q) = (same_parts f b r c t e p).2 ∙ sym (same_parts f b r d u e q).2

pub no_value : {X : Type 0} (o : Option X) → is_some o ≡ false → None ≡ o
no_value None h = refl
no_value (Some x) h = absurd (true≢false h)

-- what is there once is one
one_of : (o : Option ℕ) (x y : ℕ) → o ≡ Some x → o ≡ Some y → x ≡ y
one_of None x y p q = absurd (cc)
one_of (Some z) x y p q = cc

turned : (t u : ℕ) → (t == u) ≡ false → (u == t) ≡ false
turned t u h = grind (arith, nat_tests)

traversable_first : is_some (value_of first_world traversable (pair with_trait acyclic)) ≡ true
unfolding first_world key_cmp id_cmp
traversable_first = refl

-- With leads from Traversable to Acyclic
with_acyclic : (w : WorldState) → IsWellFormed w → holds w traversable (pair with_trait acyclic) ≡ true
with_acyclic w h = ap is_some ((h.built_in).facts traversable (pair with_trait acyclic) refl) ∙ traversable_first

module _ (w : WorldState) (e : ℕ) (i : Id) (o : Option ℕ) (facts : Map Key (List ℤ)) (h : IsWellFormed w) (a : IsAddition w e i o facts) (may : MayCome w e i) where
  abbrev after : WorldState
  after = counted (with_facts w facts)

  abbrev IsNew : Key → Type 0
  IsNew k = Comes w e i o k

  abbrev Added : Key → Type 0
  Added k = IsAdded (ids_of w) (e, i) k

  abbrev gone : Key → Bool
  gone k = is_replaced w e i k

  member : (k : Key) → Added k → has_key key_cmp (added w e i) k ≡ true
  member k n = (added_are_members w e i h may.mentions k).1 n

  pub gone_by : (q : Key) → gone q ≡ true → (b : Key) × Added b × GivesWay w b q
  gone_by q g = let r = replaced_by w e i q g in (r.0, (added_are_members w e i h may.mentions r.0).0 r.1, r.2)

  goes : (b q : Key) → Added b → Contains (displaced (ids_of w) b) q → gone q ≡ true
  goes b q n d = gives_way w e i b q ((added_are_members w e i h may.mentions b).1 n) d

  -- a fact that is there came, or stayed
  pub came_or_stayed : (q : Key) → has_key key_cmp facts q ≡ true → IsNew q ⊎ ((gone q ≡ false) × (has_key key_cmp w.facts q ≡ true))
  came_or_stayed q held = elim (a.each q) [ inl p ↦ inl p.0 | inr p ↦ by (gone q) refl p ]
    where
      by : (b : Bool) → gone q ≡ b → value_at key_cmp facts q ≡ cond (not b) (value_at key_cmp w.facts q) None → IsNew q ⊎ ((gone q ≡ false) × (has_key key_cmp w.facts q ≡ true))
      by true g p = absurd (true≢false (sym held ∙ ap is_some p))
      by false g p = inr (g, sym (ap is_some p) ∙ held)

  pub stays : (q : Key) → has_key key_cmp w.facts q ≡ true → gone q ≡ false → has_key key_cmp facts q ≡ true
  stays q held g = elim (a.each q) [ inl p ↦ a.there q p.0 | inr p ↦ ap is_some (p ∙ ap (λ b. cond (not b) (value_at key_cmp w.facts q) None) g) ∙ held ]

  -- no plain fact gives way
  pub plain_stays : (f c : ℕ) → holds w f (plain c) ≡ true → has_key key_cmp facts (f, plain c) ≡ true
  plain_stays f c held = stays (f, plain c) held (refuted (gone (f, plain c)) none)
    where
      none : gone (f, plain c) ≡ true → ⊥
      none g =
          let r = gone_by (f, plain c) g in
          let way = r.2 in
          elim way.what [ inl z ↦ no_pair f r.0.0 c way.r way.u z | inr z ↦ no_pair f way.u c way.r r.0.0 z.1 ]

  used : (f r t : ℕ) → holds w f (pair r t) ≡ true → is_used (ids_of w) (entities w) r ≡ true
  used f r t held =
      any_passes (λ x. list_any (λ j. first_of j == r) (ids_of w x)) (entities w) f (live_listed w f (holder_lives w h f (pair r t) held))
      (any_passes (λ j. first_of j == r) (ids_of w f) (pair r t) (held_listed w f (pair r t) held) (eq_itself r))

  -- the base holds what is copied
  base_holds : (q : Key) (m : CopiedFrom w e i o q) → holds w m.0 q.1 ≡ true
  base_holds q m = of_base w e i m.0 q.1 m.3

  -- a fact that is there came, or was there
  pub came_or_was : (q : Key) → has_key key_cmp facts q ≡ true → IsNew q ⊎ (has_key key_cmp w.facts q ≡ true)
  came_or_was q held = elim (came_or_stayed q held) [ inl n ↦ inl n | inr s ↦ inr s.1 ]

  -- a trait of a relationship was there before, if a pair of it came or was there
  pub trait_before : (f r t c : ℕ) → is_trait (plain c) ≡ true → IsNew (f, pair r t) ⊎ (holds w f (pair r t) ≡ true) → has_key key_cmp facts (r, plain c) ≡ true → holds w r (plain c) ≡ true
  trait_before f r t c is p q = by (holds w r (plain c)) refl
    where
      clash : IsNew (r, plain c) → holds w r (plain c) ≡ false → IsNew (f, pair r t) ⊎ (holds w f (pair r t) ≡ true) → ⊥
      clash (inl n) new (inl (inl m)) =
          let x = added_form w h e i may.mentions n in let y = added_form w h e i may.mentions m in not_mixed e i x.0 y.0 f r t r c x.2 y.2
      clash (inl n) new (inl (inr m)) = true≢false (sym (used m.0 r t (base_holds (f, pair r t) m)) ∙ may.fixed (r, plain c) n new is)
      clash (inl n) new (inr s) = true≢false (sym (used f r t s) ∙ may.fixed (r, plain c) n new is)
      clash (inr n) new p = true≢false (sym is ∙ no_trait w e i n.0 (plain c) n.3)

      by : (b : Bool) → holds w r (plain c) ≡ b → b ≡ true
      by true held = refl
      by false new =
          elim (came_or_stayed (r, plain c) q) [
            | inl n ↦ absurd (clash n new p)
            | inr s ↦ absurd (true≢false (sym s.1 ∙ new))
          ]

  one_target : (f r t u : ℕ) → holds after r (plain exclusive) ≡ true → holds after f (pair r t) ≡ true → holds after f (pair r u) ≡ true → t ≡ u
  one_target f r t u x p q = by (t == u) refl
    where
      only : holds w r (plain exclusive) ≡ true
      only = trait_before f r t exclusive refl (came_or_was (f, pair r t) p) x

      clash : (v z : ℕ) → IsNew (f, pair r v) → (gone (f, pair r z) ≡ false) × (holds w f (pair r z) ≡ true) → (z == v) ≡ false → ⊥
      clash v z (inl n) s d = true≢false (sym (goes (f, pair r v) (f, pair r z) n (other_displaced w f r v z only s.1 d)) ∙ s.0)
      clash v z (inr n) s d = no_other w e i n.0 r v z n.3 only (inl (subst (λ x. holds w x (pair r z) ≡ true) n.2 s.1))

      beside : (v z : ℕ) → CopiedFrom w e i o (f, pair r v) → Added (f, pair r z) → ⊥
      beside v z n m = no_other w e i n.0 r v z n.3 only (inr (member (e, pair r z) (subst (λ x. Added (x, pair r z)) n.2 m)))

      one_base : (m : CopiedFrom w e i o (f, pair r t)) (n : CopiedFrom w e i o (f, pair r u)) → t ≡ u
      one_base m n =
          let same : m.0 ≡ n.0 = one_of o m.0 n.0 m.1 n.1 in
          (h.traits).one_target n.0 r t u only (subst (λ x. holds w x (pair r t) ≡ true) same (base_holds (f, pair r t) m)) (base_holds (f, pair r u) n)

      apart : (t == u) ≡ false → IsNew (f, pair r t) ⊎ ((gone (f, pair r t) ≡ false) × (holds w f (pair r t) ≡ true))
          → IsNew (f, pair r u) ⊎ ((gone (f, pair r u) ≡ false) × (holds w f (pair r u) ≡ true)) → t ≡ u
      apart d (inl (inl m)) (inl (inl n)) =
          let y = added_form w h e i may.mentions m in let z = added_form w h e i may.mentions n in one_end e i y.0 z.0 f r t u y.2 z.2
      apart d (inl (inr m)) (inl (inl n)) = absurd (beside t u m n)
      apart d (inl (inl m)) (inl (inr n)) = absurd (beside u t n m)
      apart d (inl (inr m)) (inl (inr n)) = one_base m n
      apart d (inl m) (inr s) = absurd (clash t u m s (turned t u d))
      apart d (inr s) (inl n) = absurd (clash u t n s d)
      apart d (inr s) (inr v) = (h.traits).one_target f r t u only s.1 v.1

      by : (b : Bool) → (t == u) ≡ b → t ≡ u
      by true d = eq_same t u d
      by false d = apart d (came_or_stayed (f, pair r t) p) (came_or_stayed (f, pair r u) q)

  mirrored : (f r t : ℕ) → holds after r (plain symmetric) ≡ true → holds after f (pair r t) ≡ true → holds after t (pair r f) ≡ true
  mirrored f r t s p = elim (came_or_stayed (f, pair r t) p) [ inl n ↦ with_mirror n | inr m ↦ stays (t, pair r f) ((h.traits).mirrored f r t both m.1) (refuted (gone (t, pair r f)) (together m.0)) ]
    where
      both : holds w r (plain symmetric) ≡ true
      both = trait_before f r t symmetric refl (came_or_was (f, pair r t) p) s

      with_mirror : IsNew (f, pair r t) → holds after t (pair r f) ≡ true
      with_mirror (inr n) = absurd (true≢false (sym both ∙ not_symmetric w e i n.0 r t n.3))
      with_mirror (inl n) =
          a.there (t, pair r f)
          (inl (onward n (Contains-append_right (map (λ c. (f, with_first c (pair r t))) (upward (ids_of w) with_trait r)) (mirror (ids_of w) (f, pair r t)) (t, pair r f) (in_mirror w f r t both))))

      -- if the mirror gave way, so did the pair
      together : gone (f, pair r t) ≡ false → gone (t, pair r f) ≡ true → ⊥
      together stayed g =
          let by = gone_by (t, pair r f) g in
          let way = by.2 in
          elim way.what [
            | inl z ↦ let same = same_parts t by.0.0 r way.r f way.u z in
                let d = mirror_displaced w by.0.0 way.r way.t way.u way.only (rw (← same.1) both) way.held way.other in
                let q : gone (way.u, pair way.r by.0.0) ≡ true = goes (by.0.0, pair way.r way.t) (way.u, pair way.r by.0.0) (rw (way.is_pair) at by.1) d in
                true≢false (sym q ∙ (ap gone (λ j. (sym same.2 j, pair (sym same.1 j) (sym same.0 j))) ∙ stayed))
            | inr z ↦ let same = same_parts t way.u r way.r f by.0.0 z.1 in
                let d = other_displaced w by.0.0 way.r way.t way.u way.only way.held way.other in
                let q : gone (by.0.0, pair way.r way.u) ≡ true = goes (by.0.0, pair way.r way.t) (by.0.0, pair way.r way.u) (rw (way.is_pair) at by.1) d in
                true≢false (sym q ∙ (ap gone (λ j. (sym same.2 j, pair (sym same.1 j) (sym same.0 j))) ∙ stayed))
          ]

  traversable_acyclic : (r : ℕ) → holds after r (plain traversable) ≡ true → holds after r (plain acyclic) ≡ true
  traversable_acyclic r p =
      elim (came_or_stayed (r, plain traversable) p) [
        | inl (inr n) ↦ absurd (true≢false (no_trait w e i n.0 (plain traversable) n.3))
        | inl (inl n) ↦ a.there (r, plain acyclic)
            (inl (onward n (Contains-append_left (map (λ c. (r, with_first c (plain traversable))) (upward (ids_of w) with_trait traversable)) [] (r, plain acyclic)
            (in_map (λ c. (r, with_first c (plain traversable))) (upward (ids_of w) with_trait traversable) acyclic (holds_leads w with_trait traversable acyclic (with_acyclic w h))))))
        | inr s ↦ plain_stays r acyclic ((h.traits).traversable_acyclic r s.1)
      ]

  not_built_in : (q : Key) → IsNew q → is_built_in q.0 ≡ false
  not_built_in q (inl n) = may.own q n
  not_built_in q (inr n) = ap is_built_in n.2 ∙ may.own (e, i) itself

  built_in_facts : (f : ℕ) (j : Id) → is_built_in f ≡ true → value_at key_cmp facts (f, j) ≡ value_of w f j
  built_in_facts f j b = elim (a.each (f, j)) [ inl p ↦ absurd (true≢false (sym b ∙ not_built_in (f, j) p.0)) | inr p ↦ p ∙ ap (λ g. cond (not g) (value_of w f j) None) (refuted (gone (f, j)) none) ]
    where
      none : gone (f, j) ≡ true → ⊥
      none g =
          let by = gone_by (f, j) g in
          let way = by.2 in
          elim way.what [
            | inl z ↦ true≢false (sym b ∙ (ap (λ (k : Key). is_built_in k.0) z ∙ may.own by.0 by.1))
            | inr z ↦ let b2 : is_built_in way.u ≡ true = sym (ap (λ (k : Key). is_built_in k.0) z.1) ∙ b in
                true≢false (sym (built_in_mentions w h way.u (pair way.r by.0.0) b2 ((h.traits).mirrored by.0.0 way.r way.u z.0 way.held) by.0.0 (1, omega arith, refl)) ∙ may.own by.0 by.1)
          ]

  pub facts_live_after : (f : ℕ) (j : Id) → has_key key_cmp facts (f, j) ≡ true → (is_live w f ≡ true) × (list_all (is_live w) (mentioned j) ≡ true)
  facts_live_after f j held =
      elim (came_or_stayed (f, j) held) [
        | inl (inl n) ↦ let x = added_form w h e i may.mentions n in form_lives w e i x.0 (f, j) may.live may.mentions x.1 x.2
        | inl (inr n) ↦ (ap (is_live w) n.2 ∙ may.live, ((h.live).facts n.0 j (base_holds (f, j) n)).1)
        | inr s ↦ (h.live).facts f j s.1
      ]

  -- an id that came or was held keeps its type
  pub types_kept : (f : ℕ) (j : Id) → IsNew (f, j) ⊎ (holds w f j ≡ true) → type_of_id after j ≡ type_of_id w j
  types_kept f (plain c) held = refl
  types_kept f (pair r t) held =
      ap (λ b. if b then None else option_or (value_at nat_cmp w.schemas r) (value_at nat_cmp w.schemas t))
      (alike (has_key key_cmp facts (r, plain pair_is_tag)) (holds w r (plain pair_is_tag)) (trait_before f r t pair_is_tag refl held) (plain_stays r pair_is_tag))

  still_typed : (f : ℕ) (j : Id) (x : List ℤ) → value_at key_cmp facts (f, j) ≡ Some x → IsTyped (type_of_id w j) x
  still_typed f j x found = elim (a.each (f, j)) [ inl p ↦ p.1 x found | inr p ↦ by (gone (f, j)) (sym p ∙ found) ]
    where
      by : (b : Bool) → cond (not b) (value_of w f j) None ≡ Some x → IsTyped (type_of_id w j) x
      by true p = absurd cc
      by false p = of_some (IsTyped (type_of_id w j)) (value_of w f j) (h.typed f j) x p

  pub addition_keeps : is_spent w ≡ false → ((f : ℕ) → length (ids_of (with_facts w facts) f) ≤ 64)
      → ((r : ℕ) → has_key key_cmp facts (r, plain acyclic) ≡ true → IsAcyclic (ids_of (with_facts w facts)) r) → IsWellFormed (counted (with_facts w facts))
  addition_keeps spent few no_cycle = record {
    in_order = record {
      live = (h.in_order).live;
      facts = a.in_order;
      names = (h.in_order).names;
      schemas = (h.in_order).schemas;
      deletions = (h.in_order).deletions;
      pins = (h.in_order).pins;
    };
    indexes = record { given_out = (h.indexes).given_out; generation = (h.indexes).generation };
    built_in = record {
      live = (h.built_in).live;
      names = (h.built_in).names;
      facts = λ f j b. built_in_facts f j b ∙ (h.built_in).facts f j b;
      schemas = (h.built_in).schemas;
    };
    live = record { names = (h.live).names; names_differ = (h.live).names_differ; schemas = (h.live).schemas; pins = (h.live).pins; facts = facts_live_after };
    typed = λ f j.
        if_some (IsTyped (type_of_id after j)) (value_of after f j)
        (λ x found. subst (λ o. IsTyped o x) (sym (types_kept f j (came_or_was (f, j) (ap is_some found)))) (still_typed f j x found));
    few_ids = few;
    counted = not_spent w.accepted spent;
    traits = record { one_target = one_target; mirrored = mirrored; traversable_acyclic = traversable_acyclic; no_cycle = no_cycle };
  }
