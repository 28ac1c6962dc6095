-- What a query's text names is mentioned by the query, and a query is current where its text asks it.
use Rattle.std.specs.Prelude.{◌≡◌, ℕ, ◌==◌, Bool, true, false, List, [], ◌∷◌, ◌++◌, fold, flat_map, is_none, option_map, option_to_list, Option, Some, None, if◌then◌else◌}
use Rattle.std.specs.Bool.{beq}
use Rattle.std.specs.Cmp.{booleans_Decides}
use Rattle.std.specs.List.{All, list_any}
use Rattle.std.specs.Option.{option_eq, option_map_or}
use Rattle.std.specs.Ordering.{nat_cmp}
use Rattle.std.proofs.Common.{◌⊎◌, inl, inr, ap, sym, ◌∙◌, refl, subst}
use Rattle.std.proofs.lemmas.Bool.{and_from, and_parts, eqb-true}
use Rattle.std.proofs.lemmas.List.Elements.{All-cons, All-nil}
use Rattle.std.proofs.lemmas.Option.{same_Some}
use Rattle.ecs_id.specs.declared.EntityId.{EntityId}
use Rattle.query_model.specs.declared.faults.Fault.{Fault}
use Rattle.query_model.specs.declared.query.Mention.{Mention}
use Rattle.query_model.specs.Syntax.{Part, Spoken, Word, Var, Any, AnyOnce, Syntax}
use Rattle.query_model.specs.Uses.{Use, uses_of}
use Rattle.query_model.specs.Check.{Known, faults, faults_of_use, when}
use Rattle.query_model.specs.Query.{Query, add_mention, checked_query, is_as_checked, is_current, mention_of, mentioned_by, mentions_of, named_by}
use Rattle.ecs_model.specs.Map.{value_at}
use Rattle.ecs_model.specs.Query.{known_of}
use Rattle.ecs_model.specs.World.{WorldState, entity_at, is_alive, named}
use Rattle.ecs_model.proofs.Members.{eq_itself, passing}
use Rattle.query_meaning.specs.Standing.{AskedQueriesAreCurrent}
use Rattle.query_model.proofs.SoundTerms.{left_nil, right_nil}
use Rattle.query_meaning.proofs.AskedQueries.{asked, checked_faultless}
use Rattle.query_meaning.proofs.LevelHolding.{list_all-from_In}
use Rattle.query_meaning.proofs.Lists.{In, In-append_cases, In-append_left, In-append_right, In-flat_map_from, In-from_place}

-- ---- an entity as it was at the check

module _ (k : Known) (m : Mention) where
  abbrev pub IsAsChecked : Type 0
  IsAsChecked =
      (k.alive m.entity ≡ true) × (k.traversable (m.entity).index ≡ m.traversable) × (k.transitive (m.entity).index ≡ m.transitive) × (k.reflexive (m.entity).index ≡ m.reflexive)
      × (k.inherited (m.entity).index ≡ m.inherited)

  pub from_checked : is_as_checked k m ≡ true → IsAsChecked
  from_checked h =
      let i = (m.entity).index in
      let four = and_parts _ (beq (k.inherited i) m.inherited) h in
      let three = and_parts _ (beq (k.reflexive i) m.reflexive) four.0 in
      let two = and_parts _ (beq (k.transitive i) m.transitive) three.0 in
      let one = and_parts (k.alive m.entity) (beq (k.traversable i) m.traversable) two.0 in
      (one.0, (booleans_Decides _ _).0 one.1, (booleans_Decides _ _).0 two.1, (booleans_Decides _ _).0 three.1, (booleans_Decides _ _).0 four.1)

  pub to_checked : IsAsChecked → is_as_checked k m ≡ true
  to_checked h = and_from _ _ (and_from _ _ (and_from _ _ (and_from _ _ h.0 ((booleans_Decides _ _).1 h.1)) ((booleans_Decides _ _).1 h.2)) ((booleans_Decides _ _).1 h.3)) ((booleans_Decides _ _).1 h.4)

-- ---- the mentions of entities in their order

module _ (k : Known) where
  abbrev is_at : EntityId → Mention → Bool
  is_at e m = (m.entity).index == e.index

  abbrev added_if : Bool → List Mention → EntityId → List Mention
  added_if b ms e = if b then ms else ms ++ mention_of k e ∷ []

  -- what is mentioned stays so
  kept_by_one : (b : Bool) (ms : List Mention) (e : EntityId) (m : Mention) → In m ms → In m (added_if b ms e)
  kept_by_one true ms e m i = i
  kept_by_one false ms e m i = In-append_left ms (mention_of k e ∷ []) m i

  kept : (es : List EntityId) (ms : List Mention) (m : Mention) → In m ms → In m (fold (add_mention k) ms es)
  kept [] ms m i = i
  kept (e ∷ es) ms m i = kept es (add_mention k ms e) m (kept_by_one (list_any (is_at e) ms) ms e m i)

  -- each of the entities is mentioned, by its index
  abbrev MentionsIndex : List Mention → ℕ → Type 0
  MentionsIndex ms i = (m : Mention) × In m ms × ((m.entity).index ≡ i)

  one_mentioned : (b : Bool) (ms : List Mention) (e : EntityId) → list_any (is_at e) ms ≡ b → MentionsIndex (added_if b ms e) e.index
  one_mentioned true ms e is =
      let m = passing (is_at e) ms is in
      let at = m.1 in
      (m.0, In-from_place ms at.0 m.0 at.1 at.2, eqb-true ((m.0).entity).index e.index m.2)
  one_mentioned false ms e is = (mention_of k e, In-append_right ms (mention_of k e ∷ []) (mention_of k e) (inl refl), refl)

  all_mentioned : (es : List EntityId) (ms : List Mention) (e : EntityId) → In e es → MentionsIndex (fold (add_mention k) ms es) e.index
  all_mentioned [] ms e i = absurd i
  all_mentioned (x ∷ es) ms e (inl is) =
      let m = one_mentioned (list_any (is_at x) ms) ms x refl in
      (m.0, kept es (add_mention k ms x) m.0 m.1, m.2 ∙ ap (λ (y : EntityId). y.index) is)
  all_mentioned (x ∷ es) ms e (inr i) = all_mentioned es (add_mention k ms x) e i

  -- each mention was one before, or is that of one of the entities
  abbrev IsOfSome : List EntityId → Mention → Type 0
  IsOfSome es m = (e : EntityId) × In e es × (mention_of k e ≡ m)

  of_one : (b : Bool) (ms : List Mention) (x : EntityId) (es : List EntityId) (m : Mention) → In m (added_if b ms x) → In m ms ⊎ IsOfSome (x ∷ es) m
  of_one true ms x es m i = inl i
  of_one false ms x es m i =
      elim (In-append_cases ms (mention_of k x ∷ []) m i) [
        | inl before ↦ inl before
        | inr (inl is) ↦ inr (x, inl refl, is)
        | inr (inr none) ↦ absurd none
      ]

  of_some : (es : List EntityId) (ms : List Mention) (m : Mention) → In m (fold (add_mention k) ms es) → In m ms ⊎ IsOfSome es m
  of_some [] ms m i = inl i
  of_some (x ∷ es) ms m i =
      elim (of_some es (add_mention k ms x) m i) [
        | inl before ↦ of_one (list_any (is_at x) ms) ms x es m before
        | inr o ↦ inr (o.0, inr o.1, o.2)
      ]

  -- ---- the references of a query

  -- the query mentions an entity at the index, with the traits that the check was given
  abbrev pub IsMentioned : List Mention → ℕ → Type 0
  IsMentioned ms i = (e : EntityId) × In (mention_of k e) ms × (e.index ≡ i)

  -- a reference has no faults, and whom it names is mentioned
  abbrev pub IsGood : List Mention → Use → Type 0
  IsGood ms u = (faults_of_use k u ≡ []) × ((e : EntityId) → In e (mentioned_by k u) → IsMentioned ms e.index)

  named_mentioned : (es : List EntityId) (e : EntityId) → In e es → IsMentioned (fold (add_mention k) [] es) e.index
  named_mentioned es e i =
      let m = all_mentioned es [] e i in
      elim (of_some es [] m.0 m.1) [
        | inl none ↦ absurd none
        | inr o ↦ (o.0, subst (λ x. In x (fold (add_mention k) [] es)) (sym o.2) m.1, ap (λ (x : Mention). (x.entity).index) o.2 ∙ m.2)
      ]

  good_uses : (ms : List Mention) (us : List Use) → flat_map (faults_of_use k) us ≡ [] → ((e : EntityId) → In e (flat_map (mentioned_by k) us) → IsMentioned ms e.index) → All (IsGood ms) us
  good_uses ms [] none each = All-nil (IsGood ms)
  good_uses ms (u ∷ us) none each =
      let here = faults_of_use k u in
      let rest = flat_map (faults_of_use k) us in
      All-cons (IsGood ms) u us (left_nil here rest none, λ e i. each e (In-append_left (mentioned_by k u) (flat_map (mentioned_by k) us) e i))
      (good_uses ms us (right_nil here rest none) (λ e i. each e (In-append_right (mentioned_by k u) (flat_map (mentioned_by k) us) e i)))

  first_faults : (ps : List Part) → faults k ps ≡ [] → flat_map (faults_of_use k) (flat_map uses_of ps) ≡ []
  unfolding faults
  first_faults ps e = left_nil _ _ (left_nil _ _ (left_nil _ _ (left_nil _ _ (left_nil _ _ e))))

  mentions_are : (s : Syntax) → (checked_query k s).mentions ≡ mentions_of k s.parts
  unfolding checked_query
  mentions_are s = refl

  -- the references of a checked query are good
  pub good_references : (s : Syntax) (q : Query) → faults k s.parts ≡ [] → checked_query k s ≡ q → All (IsGood q.mentions) (flat_map uses_of s.parts)
  good_references s q none is =
      let us = flat_map uses_of s.parts in
      let same : mentions_of k s.parts ≡ q.mentions = sym (mentions_are s) ∙ ap (λ (x : Query). x.mentions) is in
      good_uses q.mentions us (first_faults s.parts none) (λ e i. subst (λ ms. IsMentioned ms e.index) same (named_mentioned (flat_map (mentioned_by k) us) e i))

  -- so a word names who is mentioned
  pub word_mentioned : (ms : List Mention) (o : Option EntityId) (f : Fault) → when (is_none o) f ≡ [] → ((e : EntityId) → In e (option_to_list o) → IsMentioned ms e.index)
      → IsMentioned ms (option_map_or (λ (e : EntityId). e.index) o 0)
  word_mentioned ms None f none each = absurd (cc)
  word_mentioned ms (Some e) f none each = each e (inl refl)

-- ---- a query is current where its text asks it

module _ (w : WorldState) where
  -- the entity of a name is alive
  entity_alive : (i : ℕ) (g : Option ℕ) (x : EntityId) → value_at nat_cmp w.live i ≡ g → option_map (λ n. record { index = i; generation = n }) g ≡ Some x → is_alive w x ≡ true
  entity_alive i None x is e = absurd (cc)
  entity_alive i (Some n) x is e =
      let same : record { index = i; generation = n } ≡ x = same_Some (record { index = i; generation = n }) x e in
      subst (λ (y : EntityId). is_alive w y ≡ true) same (ap (λ o. option_eq ◌==◌ o (Some n)) is ∙ eq_itself n)

  found_alive : (o : Option ℕ) (x : EntityId) → option_map_or (entity_at w) o None ≡ Some x → is_alive w x ≡ true
  found_alive None x e = absurd (cc)
  found_alive (Some i) x e = entity_alive i (value_at nat_cmp w.live i) x refl e

  listed : (o : Option EntityId) (x : EntityId) → In x (option_to_list o) → o ≡ Some x
  listed None x i = absurd i
  listed (Some y) x (inl e) = ap Some e
  listed (Some y) x (inr i) = absurd i

  spoken_alive : (v : Spoken) (x : EntityId) → In x (named_by (known_of w) v) → is_alive w x ≡ true
  spoken_alive (Word n) x i = found_alive (named w n) x (listed ((known_of w).named n) x i)
  spoken_alive (Var v) x i = absurd i
  spoken_alive Any x i = absurd i
  spoken_alive AnyOnce x i = absurd i

  mention_checked : (e : EntityId) → is_alive w e ≡ true → is_as_checked (known_of w) (mention_of (known_of w) e) ≡ true
  mention_checked e alive = to_checked (known_of w) (mention_of (known_of w) e) (alive, refl, refl, refl, refl)

  fold_checked : (us : List Use) (m : Mention) → In m (fold (add_mention (known_of w)) [] (flat_map (mentioned_by (known_of w)) us)) → is_as_checked (known_of w) m ≡ true
  fold_checked us m i =
      elim (of_some (known_of w) (flat_map (mentioned_by (known_of w)) us) [] m i) [
        | inl none ↦ absurd none
        | inr o ↦
            let u = In-flat_map_from (mentioned_by (known_of w)) us o.0 o.1 in
            subst (λ x. is_as_checked (known_of w) x ≡ true) o.2 (mention_checked o.0 (spoken_alive ((u.0).reference).spoken o.0 u.2))
      ]

  syntax_current : (s : Syntax) → is_current (known_of w) (checked_query (known_of w) s) ≡ true
  unfolding checked_query
  syntax_current s = list_all-from_In (is_as_checked (known_of w)) (mentions_of (known_of w) s.parts) (fold_checked (flat_map uses_of s.parts))

pub asked_queries_are_current : AskedQueriesAreCurrent
asked_queries_are_current w text q e =
    let a = asked (known_of w) text q e in
    let c = checked_faultless (known_of w) a.1 q a.3 in
    record { asked = (w, text, e); current = subst (λ x. is_current (known_of w) x ≡ true) c.1 (syntax_current w a.1) }
