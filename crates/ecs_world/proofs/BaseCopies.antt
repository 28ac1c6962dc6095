-- The copies of a base's facts, which get their values one after another.
use Rattle.std.proofs.Common.{◌≡◌, ℕ, ◌+◌, ◌<◌, ◌≤◌, ◌⊎◌, Bool, true, false, List, [], ◌∷◌, ◌++◌, length, get_or, take, drop, map, ℤ, refl, sym, ap, subst, ◌∙◌, inl, inr, arith, true≢false}
use Rattle.std.specs.Prelude.{Contains, Option, Some, None, fold, is_some, unwrap_or, IfSome, IsTrue, if◌then◌else◌}
use Rattle.std.specs.Option.{option_map_or}
use Rattle.std.specs.FinMap.Entries.{same_entries}
use Rattle.std.specs.List.{list_all}
use Rattle.std.proofs.lemmas.List.{take-append-drop, take-map, take_more}
use Rattle.std.proofs.lemmas.List.Elements.{Contains-append_left, Contains-append_right}
use Rattle.std.proofs.lemmas.List.Sums.{fold-append}
use Rattle.std.proofs.Math.Seq.{take-append_seam}
use Rattle.ecs_id.specs.declared.EntityId.{EntityId}
use Rattle.ecs_id.specs.Id.{Id, plain, pair, mentioned}
use Rattle.ecs_model.specs.steps.Outcomes.{with_facts}
use Rattle.ecs_model.specs.declared.Kind.{Kind}
use Rattle.ecs_model.specs.declared.Kind.TheVariants.{I8, U8, I16, U16, I32, U32, I64, U64}
use Rattle.ecs_model.specs.Map.{Map, IsMap, value_at, with_value}
use Rattle.ecs_model.specs.Refusal.{first_reason}
use Rattle.ecs_model.specs.Schema.{Schema, all_fit, width, zeros}
use Rattle.ecs_model.specs.World.{WorldState, Key, key_cmp, holds, is_alive, is_live, type_of_id, value_of}
use Rattle.ecs_model.specs.steps.FactChanges.{copied, facts_after_add, new_base}
use Rattle.ecs_model.specs.steps.Step.{Add, reasons}
use Rattle.ecs_model.specs.steps.WellFormed.{IsWellFormed}
use Rattle.ecs_model.proofs.Maps.{IsMap-with_value, fact_value_at, key_cmp_same, key_cmp_total, to_T}
use Rattle.ecs_model.proofs.steps.AcceptedFacts.{accepted_add}
use Rattle.ecs_model.proofs.steps.CopiedFacts.{base_read, facts_brought, partly_written, writing_keeps, written_is_added}
use Rattle.ecs_model.proofs.steps.CopiedIds.{base_value, of_base, some_value, with_each}
use Rattle.ecs_model.proofs.steps.AddedSets.{from_map}
use Rattle.ecs_schema.proofs.NumberPlaces.{size_of-first}
use Rattle.ecs_world.specs.Changes.{AreCopies, with_bytes, with_copies}
use Rattle.ecs_world.specs.State.{byte_count, value_in}
use Rattle.ecs_world.proofs.ChangedWorlds.{before_count}
use Rattle.ecs_world.proofs.JudgedCommands.{alive-add}

-- among the first there is what is among all
in_take : {X : Type 0} (n : ℕ) (xs : List X) (x : X) → Contains (take n xs) x → Contains xs x
in_take n xs x c = subst (λ ys. Contains ys x) (take-append-drop n xs) (Contains-append_left (take n xs) (drop n xs) x c)

-- a value that is there already changes nothing
same_value : (m : Map Key (List ℤ)) (k : Key) (v : List ℤ) → IsMap key_cmp m → value_at key_cmp m k ≡ Some v → with_value key_cmp m k v ≡ m
same_value m k v h is = same_entries key_cmp key_cmp_total key_cmp_same _ _ (to_T _ (IsMap-with_value key_cmp key_cmp_total m k v h)) (to_T _ h) each
  where
    each : (q : Key) → value_at key_cmp (with_value key_cmp m k v) q ≡ value_at key_cmp m q
    each q = elim (fact_value_at m k v q) [ inl p ↦ p.1 ∙ sym (ap (value_at key_cmp m) p.0 ∙ is) | inr p ↦ p.1 ]

-- facts with the values of a base's facts, one by one: the base's, or as it was
module _ (value : Id → List ℤ) where
  abbrev with_those : Map Key (List ℤ) → List Key → Map Key (List ℤ)
  with_those m ks = fold (λ m k. with_value key_cmp m k (value k.1)) m ks

  value-with_those : (ks : List Key) (m : Map Key (List ℤ)) (q : Key) → (value_at key_cmp (with_those m ks) q ≡ Some (value q.1)) ⊎ (value_at key_cmp (with_those m ks) q ≡ value_at key_cmp m q)
  value-with_those [] m q = inr refl
  value-with_those (k ∷ ks) m q =
      elim (value-with_those ks (with_value key_cmp m k (value k.1)) q) [
        | inl p ↦ inl p
        | inr p ↦ elim (fact_value_at m k (value k.1) q) [ inl n ↦ inl (p ∙ n.1 ∙ ap (λ (x : Key). Some (value x.1)) (sym n.0)) | inr n ↦ inr (p ∙ n.1) ]
      ]

-- copies are written as they are listed
copies_each : (e : ℕ) (f g : Id → List ℤ) (m : Map Key (List ℤ)) (cs : List Id) → ((c : Id) → Contains cs c → f c ≡ g c) → with_those f m (map (λ c. (e, c)) cs) ≡ with_each e g m cs
copies_each e f g m [] same = refl
copies_each e f g m (c ∷ cs) same =
    copies_each e f g (with_value key_cmp m (e, c) (f c)) cs (λ d n. same d (Contains-append_right (c ∷ []) cs d n))
    ∙ ap (λ v. with_each e g (with_value key_cmp m (e, c) v) cs) (same c (0, omega arith, refl))

pub some_width : (k : Kind) → 1 ≤ width k
some_width I8 = omega arith
some_width U8 = omega arith
some_width I16 = omega arith
some_width U16 = omega arith
some_width I32 = omega arith
some_width U32 = omega arith
some_width I64 = omega arith
some_width U64 = omega arith

-- a type of which values have no bytes has no fields
no_fields : (o : Option Schema) → byte_count o ≡ 0 → option_map_or zeros o [] ≡ []
no_fields None none = refl
no_fields (Some []) none = refl
no_fields (Some (f ∷ fs)) none = absurd (omega (arith, size_of-first f fs, some_width f.kind, none))

no_length : (v : List ℤ) → length v ≡ 0 → v ≡ []
no_length [] is = refl
no_length (x ∷ xs) is = absurd (omega (arith, is))

-- where the values of an id have no bytes, a fact that is held gets no other value
module _ (w : WorldState) (h : IsWellFormed w) (i : Id) (none : byte_count (type_of_id w i) ≡ 0) where
  empty_value : (x : ℕ) → holds w x i ≡ true → value_of w x i ≡ Some []
  empty_value x held = by (value_of w x i) (h.typed x i) held
    where
      by : (o : Option (List ℤ)) → IfSome o (λ v. (length v ≡ length (option_map_or zeros (type_of_id w i) [])) × IsTrue (option_map_or (λ fs. all_fit fs v) (type_of_id w i) true)) → is_some o ≡ true → o ≡ Some []
      by None typed held = absurd (true≢false (sym held))
      by (Some v) typed held = ap Some (no_length v (typed.0 ∙ ap (λ (z : List ℤ). length z) (no_fields (type_of_id w i) none)))

  pub nothing_written : (e b : ℕ) → holds w e i ≡ true → holds w b i ≡ true → w ≡ with_copies w b ((e, i) ∷ [])
  nothing_written e b held based =
      ap (with_facts w) (sym (ap (λ o. with_value key_cmp w.facts (e, i) (unwrap_or o [])) (empty_value b based) ∙ same_value w.facts (e, i) [] ((h.in_order).facts) (empty_value e held)))

-- bytes of the base's value are written, from the beginning of a buffer
pub copy_written : (v : WorldState) (e b : ℕ) (i : Id) (size : ℕ) (front rest bytes : List ℕ) → front ≡ bytes → length bytes ≡ size → Some (value_in (type_of_id v i) bytes) ≡ value_of v b i
    → with_bytes v e i (take size (front ++ rest)) ≡ with_copies v b ((e, i) ∷ [])
copy_written v e b i size front rest bytes same sized is =
    ap (with_bytes v e i) ((λ j. take (sym sized j) (same j ++ rest)) ∙ take-append_seam bytes rest) ∙ ap (λ o. with_facts v (with_value key_cmp v.facts (e, i) (unwrap_or o []))) is

-- one copy after others
module _ (u : WorldState) (e : EntityId) (b : ℕ) (ks : List Key) (copies : AreCopies u e b ks) (n : ℕ) (k : Key) (inside : n < length ks) (at : k ≡ get_or ks n k) (s : WorldState) (is : s ≡ with_copies u b (take n ks)) where
  abbrev those : Map Key (List ℤ)
  those = with_those (base_value u b) u.facts (take n ks)

  among : Contains ks k
  among = (n, inside, sym at)

  own : ◌≡◌ {A = Key} (e.index, k.1) k
  own = λ j. (sym (copies.own k among) j, k.1)

  -- all is still held, and the base's value is still there
  still_held : (q : Key) → holds u q.0 q.1 ≡ true → is_some (value_at key_cmp those q) ≡ true
  still_held q held = elim (value-with_those (base_value u b) (take n ks) u.facts q) [ inl p ↦ ap is_some p | inr p ↦ ap is_some p ∙ held ]

  still_there : value_at key_cmp those (b, k.1) ≡ value_of u b k.1
  still_there = elim (value-with_those (base_value u b) (take n ks) u.facts (b, k.1)) [ inl p ↦ p ∙ some_value (value_of u b k.1) (copies.of_base k among) | inr p ↦ p ]

  more : with_copies (with_copies u b (take n ks)) b ((e.index, k.1) ∷ []) ≡ with_copies u b (take (n + 1) ks)
  more =
      ap (with_facts u)
      ((λ j. with_value key_cmp those (own j) (unwrap_or (still_there j) []))
      ∙ sym (ap (with_those (base_value u b) u.facts) (take_more ks n k inside ∙ ap (λ x. take n ks ++ (x ∷ [])) (sym at)) ∙ fold-append (λ m q. with_value key_cmp m q (base_value u b q.1)) u.facts (take n ks) (k ∷ [])))

  pub copy_alive : is_alive s e ≡ true
  copy_alive = ap (λ v. is_alive v e) is ∙ copies.alive

  pub copy_held : holds s e.index k.1 ≡ true
  copy_held = ap (λ v. holds v e.index k.1) is ∙ still_held (e.index, k.1) (ap (λ (q : Key). holds u q.0 q.1) own ∙ copies.held k among)

  pub copy_of_base : holds s b k.1 ≡ true
  copy_of_base = ap (λ v. holds v b k.1) is ∙ still_held (b, k.1) (copies.of_base k among)

  pub copy_next : with_copies s b ((e.index, k.1) ∷ []) ≡ with_copies u b (take (n + 1) ks)
  copy_next = ap (λ v. with_copies v b ((e.index, k.1) ∷ [])) is ∙ more

  pub copy_sound : IsWellFormed (with_copies s b ((e.index, k.1) ∷ []))
  copy_sound = subst IsWellFormed (sym copy_next) (copies.sound (n + 1))

-- the base is the target
target_is : (p : Bool) (t b : ℕ) → (if p then Some t else None) ≡ Some b → t ≡ b
target_is true t b q = cc
target_is false t b q = absurd cc

-- what is copied can be read from the base where all has come
base_reads : (w : WorldState) (e : ℕ) (i : Id) (b : ℕ) → IsWellFormed w → list_all (is_live w) (mentioned i) ≡ true → new_base w e i ≡ Some b
    → (c : Id) → Contains (copied w e i b) c → value_at key_cmp (facts_brought w e i (Some b)) (b, c) ≡ value_of w b c
unfolding new_base
base_reads w e (plain d) b h m base c there = absurd cc
base_reads w e (pair r t) b h m base c there =
    subst (λ x. Contains (copied w e (pair r t) x) c → value_at key_cmp (facts_brought w e (pair r t) (Some x)) (x, c) ≡ value_of w x c) (target_is _ t b base) (λ n. base_read w e r t h m c n []) there

-- where all that comes has come, and a base is new, the copies get their values
module _ (w : WorldState) (e : EntityId) (i : Id) (b : ℕ) (h : IsWellFormed w) (none : first_reason (reasons w (Add e i)) ≡ None) (base : new_base w e.index i ≡ Some b) where
  abbrev ids : List Id
  ids = copied w e.index i b

  abbrev facts : Map Key (List ℤ)
  facts = facts_brought w e.index i (Some b)

  abbrev brought : WorldState
  brought = with_facts w facts

  mentions : list_all (is_live w) (mentioned i) ≡ true
  mentions = ((accepted_add w e i h none).may).mentions

  read_there : (c : Id) → Contains ids c → value_at key_cmp facts (b, c) ≡ value_of w b c
  read_there = base_reads w e.index i b h mentions base

  each_copy : (cs : List Id) → ((c : Id) → Contains cs c → Contains ids c) → with_copies brought b (map (λ c. (e.index, c)) cs) ≡ with_facts w (with_each e.index (base_value w b) facts cs)
  each_copy cs those = ap (with_facts w) (copies_each e.index (base_value brought b) (base_value w b) facts cs (λ c n. ap (λ o. unwrap_or o []) (read_there c (those c n))))

  are_copies : AreCopies brought e b (map (λ c. (e.index, c)) ids)
  are_copies = record {
    alive = alive-add w e i none;
    own = λ k n. let c = from_map (λ (c : Id). (e.index, c)) ids k n in sym (ap (λ (q : Key). q.0) c.2);
    held = λ k n. let c = from_map (λ (c : Id). (e.index, c)) ids k n in
        ap (λ (q : Key). holds brought q.0 q.1) (sym c.2) ∙ (partly_written w e.index i b h mentions [] (λ d m. absurd (omega (arith, m.1)))).there (e.index, c.0) (inr (b, refl, refl, c.1));
    of_base = λ k n. let c = from_map (λ (c : Id). (e.index, c)) ids k n in
        ap (λ (q : Key). holds brought b q.1) (sym c.2) ∙ ap is_some (read_there c.0 c.1) ∙ of_base w e.index i b c.0 c.1;
    sound = λ n.
        let those = λ (c : Id) (m : Contains (take n ids) c). in_take n ids c m in
        subst IsWellFormed (sym (ap (with_copies brought b) (take-map (λ (c : Id). (e.index, c)) n ids) ∙ each_copy (take n ids) those))
        (before_count _ (writing_keeps w e i b (take n ids) h none base those));
  }

  module _ (u : WorldState) (is : u ≡ with_facts w (facts_brought w e.index i (new_base w e.index i))) (ks : List Key) (are : ks ≡ option_map_or (λ b. map (λ c. (e.index, c)) (copied w e.index i b)) (new_base w e.index i) []) where
    seen : u ≡ brought
    seen = is ∙ ap (λ o. with_facts w (facts_brought w e.index i o)) base

    listed : ks ≡ map (λ c. (e.index, c)) ids
    listed = are ∙ ap (λ o. option_map_or (λ b. map (λ c. (e.index, c)) (copied w e.index i b)) o []) base

    pub copies_may : AreCopies u e b ks
    copies_may = subst (λ qs. AreCopies u e b qs) (sym listed) (subst (λ v. AreCopies v e b (map (λ c. (e.index, c)) ids)) (sym seen) are_copies)

    -- and then all is as the command leaves it
    pub copies_left : with_copies u b ks ≡ with_facts w (facts_after_add w e.index i)
    copies_left = (λ j. with_copies (seen j) b (listed j)) ∙ each_copy ids (λ c n. n) ∙ ap (with_facts w) (written_is_added w e.index i b h base)
