-- What an index of names says of its fields, and what a change does to its names.
pub use Rattle.name_index.proofs.EntityLemmas.{same_entity, entity_eq_true}
use Rattle.std.proofs.Common.{◌≡◌, ◌≢◌, ◌⊎◌, inl, inr, ⊎_elim, IfSome, get_or, length, option_map, position, slice_get, ℕ, Bool, true, false, cond, List, [], ◌∷◌, ◌++◌, Some, None, Option, is_some, true≢false, map, bytes_eq, ◌↔◌, refl, sym, ap, subst, ◌∙◌}
use Rattle.std.specs.Prelude.{nat_eq}
use Rattle.std.specs.Option.{option_or}
use Rattle.std.specs.declared.string.String.{String}
use Rattle.std.specs.String.{string_bytes, string_eq}
use Rattle.std.specs.Ordering.{nat_cmp}
use Rattle.std.specs.Cmp.Lexicographic.{pointwise, slice_cmp, nat_list_cmp_total, nat_list_eq_equiv}
use Rattle.std.specs.HashMap.{HashMap, IsUnique, get, get_by_text, Updates, UpdatesBy}
use Rattle.std.specs.Map.{keys_of, lookup}
use Rattle.std.specs.FinMap as finite
use Rattle.std.specs.FinMap.{find, slice_cmp-IsAntisymmetric, nat_cmp-IsAntisymmetric}
use Rattle.std.proofs.lemmas.Map.Text.{is_eq-slice_cmp, hash_map_updates_text}
use Rattle.std.proofs.lemmas.Slice.Eq.{bytes_eq-Decides}
use Rattle.ecs_id.specs.declared.EntityId.{EntityId}
use Rattle.name_index.specs.declared.texts.Texts.{Texts}
use Rattle.name_index.specs.Names.{Names, Tells, names_in, entity_eq, IsUnnamed, IsOneToOne, OthersKeepTheirs, AreApart, AreKept}
use Rattle.name_index.specs.Short.{is_short}
use Rattle.name_index.specs.Texts.{IsKept, entry_of, first_in, first_of, is_of, other_of, text_of}
use Rattle.std.proofs.lemmas.Option.{get_or_from_slice_get, none-some, same_Some, slice_get-get_or, slice_get-map, slice_get_cases}
use Rattle.std.proofs.lemmas.List.Quantifiers.{position-Some}
use Rattle.std.proofs.lemmas.Map.Entries.{hash_map_get_place}
use Rattle.name_index.proofs.NameWays.{Tells-insert, Tells-remove, told_names, told_once}
use Rattle.name_index.proofs.PlacesLemmas.{back_placed, back_unplaced, forth_placed, forth_unplaced, here_placed, place_of}

-- an answer that is changed under a test, beside another that comes before or after it
or_early : {X : Type 0} (b : Bool) (x : X) (o r : Option X) → option_or (cond b (Some x) o) r ≡ cond b (Some x) (option_or o r)
or_early true x o r = refl
or_early false x o r = refl

or_late : {X : Type 0} (b : Bool) (w o r : Option X) → (b ≡ true → o ≡ None) → option_or o (cond b w r) ≡ cond b w (option_or o r)
or_late true w o r n = ap (λ p. option_or p w) (n refl)
or_late false w o r n = refl

or_gone : {X : Type 0} (b : Bool) (o r : Option X) → (b ≡ true → r ≡ None) → option_or (cond b None o) r ≡ cond b None (option_or o r)
or_gone true o r n = n refl
or_gone false o r n = refl

module _ {K : Type 0} (text : K → List ℕ) (q : List ℕ) where
  find-named : (es : List (K × EntityId)) → find (slice_cmp nat_cmp) q (map (λ p. (text p.0, p.1)) es) ≡ lookup (λ k. bytes_eq q (text k)) es
  find-named [] = refl
  find-named (e ∷ es) = λ i. cond (is_eq-slice_cmp q (text e.0) i) (Some e.1) (find-named es i)

  find-before : (es : List (K × EntityId)) (rest : List (List ℕ × EntityId))
      → find (slice_cmp nat_cmp) q (map (λ p. (text p.0, p.1)) es ++ rest) ≡ option_or (lookup (λ k. bytes_eq q (text k)) es) (find (slice_cmp nat_cmp) q rest)
  find-before [] rest = refl
  find-before (e ∷ es) rest = (λ i. cond (is_eq-slice_cmp q (text e.0) i) (Some e.1) (find-before es rest i)) ∙ sym (or_early (bytes_eq q (text e.0)) e.1 _ _)

module _ {Y R S : Type 0} where
  pub get-names_in : (s : HashMap (List ℕ) EntityId R) (l : HashMap (String Y) EntityId S) (q : List ℕ) → finite.get (names_in s l) q ≡ option_or (get (pointwise nat_eq) s q) (get_by_text l q)
  get-names_in s l q = finite.get-from_entries nat_list_cmp_total _ q ∙ find-before (λ k. k) q s.entries (map (λ p. (string_bytes p.0, p.1)) l.entries)
      ∙ ap (option_or (get (pointwise nat_eq) s q)) (find-named string_bytes q l.entries)

  same_names : (names : Names) (s : HashMap (List ℕ) EntityId R) (l : HashMap (String Y) EntityId S) → ((q : List ℕ) → option_or (get (pointwise nat_eq) s q) (get_by_text l q) ≡ finite.get names q) → names_in s l ≡ names
  same_names names s l same = finite.same_map nat_list_cmp_total (slice_cmp-IsAntisymmetric nat_cmp-IsAntisymmetric) _ _ (λ q. get-names_in s l q ∙ same q)

  module _ (s s' : HashMap (List ℕ) EntityId R) (l l' : HashMap (String Y) EntityId S) (bs : List ℕ) where
    get-inserted : (e : EntityId) (q : List ℕ) → finite.get (finite.insert (names_in s l) bs e) q ≡ cond (bytes_eq bs q) (Some e) (option_or (get (pointwise nat_eq) s q) (get_by_text l q))
    get-inserted e q = finite.get-insert nat_list_cmp_total (names_in s l) bs e q ∙ (λ i. cond ((is_eq-slice_cmp q bs ∙ nat_list_eq_equiv.symm q bs) i) (Some e) (get-names_in s l q i))

    get-removed : (q : List ℕ) → finite.get (finite.remove (names_in s l) bs) q ≡ cond (bytes_eq bs q) None (option_or (get (pointwise nat_eq) s q) (get_by_text l q))
    get-removed q = finite.get-remove nat_list_cmp_total (names_in s l) bs q ∙ (λ i. cond ((is_eq-slice_cmp q bs ∙ nat_list_eq_equiv.symm q bs) i) None (get-names_in s l q i))

    none_at : {X : Type 0} (f : List ℕ → Option X) → f bs ≡ None → (q : List ℕ) → bytes_eq bs q ≡ true → f q ≡ None
    none_at f none q h = ap f (sym ((bytes_eq-Decides bs q).0 h)) ∙ none

    pub insert_short : (e : EntityId) → UpdatesBy (pointwise nat_eq) (pointwise nat_eq bs) s s' (Some e) → names_in s' l ≡ finite.insert (names_in s l) bs e
    insert_short e u = same_names _ s' l (λ q. ap (λ o. option_or o (get_by_text l q)) (u.0 q) ∙ or_early (bytes_eq bs q) e _ _ ∙ sym (get-inserted e q))

    pub remove_short : get_by_text l bs ≡ None → UpdatesBy (pointwise nat_eq) (pointwise nat_eq bs) s s' None → names_in s' l ≡ finite.remove (names_in s l) bs
    remove_short none u = same_names _ s' l (λ q. ap (λ o. option_or o (get_by_text l q)) (u.0 q) ∙ or_gone (bytes_eq bs q) _ _ (none_at (get_by_text l) none q) ∙ sym (get-removed q))

    pub insert_long : (e : EntityId) → get (pointwise nat_eq) s bs ≡ None → UpdatesBy string_eq (λ k. bytes_eq bs (string_bytes k)) l l' (Some e) → names_in s l' ≡ finite.insert (names_in s l) bs e
    insert_long e none u = same_names _ s l' (λ q. ap (option_or (get (pointwise nat_eq) s q)) (hash_map_updates_text bs l l' (Some e) u q)
        ∙ or_late (bytes_eq bs q) (Some e) _ _ (none_at (get (pointwise nat_eq) s) none q) ∙ sym (get-inserted e q))

    pub remove_long : get (pointwise nat_eq) s bs ≡ None → UpdatesBy string_eq (λ k. bytes_eq bs (string_bytes k)) l l' None → names_in s l' ≡ finite.remove (names_in s l) bs
    remove_long none u = same_names _ s l' (λ q. ap (option_or (get (pointwise nat_eq) s q)) (hash_map_updates_text bs l l' None u q)
        ∙ or_late (bytes_eq bs q) None _ _ (none_at (get (pointwise nat_eq) s) none q) ∙ sym (get-removed q))

    -- what isn't in a map isn't there after a change at another name either
    away : (b c d : Bool) (w o n : Option EntityId) → n ≡ cond b w o → (b ≡ true → c ≡ d) → d ≡ true → c ≡ false → o ≡ None → n ≡ None
    away true c d w o n is same has lacks none = absurd (true≢false (sym has ∙ sym (same refl) ∙ lacks))
    away false c d w o n is same has lacks none = is ∙ none

    away_not : (b c d : Bool) (w o n : Option EntityId) → n ≡ cond b w o → (b ≡ true → c ≡ d) → d ≡ false → c ≡ true → o ≡ None → n ≡ None
    away_not true c d w o n is same has lacks none = absurd (true≢false (sym lacks ∙ same refl ∙ has))
    away_not false c d w o n is same has lacks none = is ∙ none

    pub short_stays : (w : Option EntityId) → is_short bs ≡ true → UpdatesBy (pointwise nat_eq) (pointwise nat_eq bs) s s' w → ((q : List ℕ) → is_short q ≡ false → get (pointwise nat_eq) s q ≡ None)
        → (q : List ℕ) → is_short q ≡ false → get (pointwise nat_eq) s' q ≡ None
    short_stays w is u old q past = away (bytes_eq bs q) (is_short q) (is_short bs) w _ _ (u.0 q) (λ h. ap is_short (sym ((bytes_eq-Decides bs q).0 h))) is past (old q past)

    pub long_stays : (w : Option EntityId) → is_short bs ≡ false → UpdatesBy string_eq (λ k. bytes_eq bs (string_bytes k)) l l' w → ((q : List ℕ) → is_short q ≡ true → get_by_text l q ≡ None)
        → (q : List ℕ) → is_short q ≡ true → get_by_text l' q ≡ None
    long_stays w is u old q fits = away_not (bytes_eq bs q) (is_short q) (is_short bs) w _ _ (hash_map_updates_text bs l l' w u q) (λ h. ap is_short (sym ((bytes_eq-Decides bs q).0 h))) is fits (old q fits)

  pub names_unchanged : (s s' : HashMap (List ℕ) EntityId R) (l l' : HashMap (String Y) EntityId S) → s'.entries ≡ s.entries → l'.entries ≡ l.entries → names_in s' l' ≡ names_in s l
  names_unchanged s s' l l' e f = λ i. finite.from_entries (map (λ p. (p.0, p.1)) (e i) ++ map (λ p. (string_bytes p.0, p.1)) (f i))

-- what the index says of its fields
module _ {Y R S : Type 0} (names : Names) (s : HashMap (List ℕ) EntityId R) (l : HashMap (String Y) EntityId S) (texts : Texts Y) (view : names_in s l ≡ names) (kept : AreKept s l texts) where
  pub tells : Tells (first_of texts s.entries) (other_of texts) names
  tells = subst (Tells (first_of texts s.entries) (other_of texts)) view kept.tells

  pub at_names : (q : List ℕ) (e : EntityId) → (text_of texts s.entries e ≡ Some q) ↔ (finite.get names q ≡ Some e)
  at_names = told_names names (first_of texts s.entries) (other_of texts) tells

  pub found_short : (q : List ℕ) → is_short q ≡ true → finite.get names q ≡ get (pointwise nat_eq) s q
  found_short q is = ap (λ m. finite.get m q) (sym view) ∙ get-names_in s l q ∙ ap (option_or (get (pointwise nat_eq) s q)) (kept.apart.longs q is) ∙ or_none (get (pointwise nat_eq) s q)
    where
      or_none : (o : Option EntityId) → option_or o None ≡ o
      or_none None = refl
      or_none (Some x) = refl

  -- what the map of short names has at a key, by the text of that
  pub found_at : (k q : List ℕ) → k ≡ q → is_short q ≡ true → (o : Option EntityId) → get (pointwise nat_eq) s k ≡ o → finite.get names q ≡ o
  found_at k q same is o there = found_short q is ∙ ap (get (pointwise nat_eq) s) (sym same) ∙ there

  pub found_long : (q : List ℕ) → is_short q ≡ false → finite.get names q ≡ get_by_text l q
  found_long q is = ap (λ m. finite.get m q) (sym view) ∙ get-names_in s l q ∙ ap (λ o. option_or o (get_by_text l q)) (kept.apart.shorts q is)

  pub unnamed : (e : EntityId) → text_of texts s.entries e ≡ None → IsUnnamed names e
  unnamed e none q h = let no : None ≡ Some q = sym none ∙ (at_names q e).1 h in cc

  pub one_to_one : IsOneToOne names
  one_to_one = told_once names (first_of texts s.entries) (other_of texts) tells

-- what q names for another entity f, once bs names e where it named nothing, or nothing where it named e. b says whether q is bs
other_at : (b : Bool) (o new w was : Option EntityId) (e f : EntityId) → new ≡ cond b w o → (b ≡ true → o ≡ was) → (w ≡ Some f → ⊥) → (was ≡ Some f → ⊥) → (new ≡ Some f) ↔ (o ≡ Some f)
other_at true o new w was e f n had no_new no_old = (λ h. absurd (no_new (sym n ∙ h)), λ h. absurd (no_old (sym (had refl) ∙ h)))
other_at false o new w was e f n had no_new no_old = (λ h. sym n ∙ h, λ h. n ∙ h)

module _ (names : Names) (bs : List ℕ) (e : EntityId) where
  get-at : (q : List ℕ) (o : Option EntityId) → finite.get names bs ≡ o → bytes_eq q bs ≡ true → finite.get names q ≡ o
  get-at q o is b = subst (λ x. finite.get names x ≡ o) (sym ((bytes_eq-Decides q bs).0 b)) is

  -- an entity takes a free name
  pub OthersKeepTheirs-insert : finite.get names bs ≡ None → OthersKeepTheirs names (finite.insert names bs e) e
  OthersKeepTheirs-insert free q f differs =
      other_at (bytes_eq q bs) _ _ (Some e) None e f (finite.get-insert nat_list_cmp_total names bs e q ∙ (λ i. cond (is_eq-slice_cmp q bs i) (Some e) (finite.get names q)))
      (get-at q None free) (λ h. differs (let same : e ≡ f = cc in sym same)) (λ h. let no : None ≡ Some f = h in cc)

  pub others_bound : finite.get names bs ≡ None → (bound : Names) → bound ≡ finite.insert names bs e → OthersKeepTheirs names bound e
  others_bound free bound is = subst (λ m. OthersKeepTheirs names m e) (sym is) (OthersKeepTheirs-insert free)

  -- an entity's name goes
  pub OthersKeepTheirs-remove : finite.get names bs ≡ Some e → OthersKeepTheirs names (finite.remove names bs) e
  OthersKeepTheirs-remove is q f differs =
      other_at (bytes_eq q bs) _ _ None (Some e) e f (finite.get-remove nat_list_cmp_total names bs q ∙ (λ i. cond (is_eq-slice_cmp q bs i) None (finite.get names q)))
      (get-at q (Some e) is) (λ h. let no : None ≡ Some f = h in cc) (λ h. differs (let same : e ≡ f = cc in sym same))

  gone_at : (b : Bool) (q : List ℕ) → finite.get (finite.remove names bs) q ≡ cond b None (finite.get names q) → (finite.get names q ≡ Some e → b ≡ true) → finite.get (finite.remove names bs) q ≢ Some e
  gone_at true q n has h = let no : None ≡ Some e = sym n ∙ h in cc
  gone_at false q n has h = true≢false (sym (has (sym n ∙ h)))

  -- and then it has no other
  pub IsUnnamed-remove : IsOneToOne names → finite.get names bs ≡ Some e → IsUnnamed (finite.remove names bs) e
  IsUnnamed-remove one is q = gone_at (bytes_eq q bs) q (finite.get-remove nat_list_cmp_total names bs q ∙ (λ i. cond (is_eq-slice_cmp q bs i) None (finite.get names q)))
      (λ h. (bytes_eq-Decides q bs).1 (one q bs e h is))

pub is_none_of : {X : Type 0} (o : Option X) → is_some o ≡ false → o ≡ None
is_none_of None h = refl
is_none_of (Some x) h = absurd (true≢false h)

-- what is kept apart, once it has one more name
module _ (e : EntityId) (n : List ℕ) (old new : EntityId → Option (List ℕ)) (kept : (q : EntityId) → new q ≡ cond (entity_eq e q) (Some n) (old q)) where
  at_test : (f : EntityId) (b : Bool) → entity_eq e f ≡ b → new f ≡ cond b (Some n) (old f)
  at_test f b is = kept f ∙ ap (λ b. cond b (Some n) (old f)) is

  back_by : (q : List ℕ) (f : EntityId) (b : Bool) → entity_eq e f ≡ b → new f ≡ Some q → (old f ≡ Some q) ⊎ ((q ≡ n) × (f ≡ e))
  back_by q f true is h = inr (sym (same_Some n q (sym (at_test f true is) ∙ h)), sym (same_entity e f is))
  back_by q f false is h = inl (sym (at_test f false is) ∙ h)

  pub back_under : (q : List ℕ) (f : EntityId) → new f ≡ Some q → (old f ≡ Some q) ⊎ ((q ≡ n) × (f ≡ e))
  back_under q f h = back_by q f (entity_eq e f) refl h

  forth_by : ((q : List ℕ) → old e ≡ Some q → ⊥) → (q : List ℕ) (f : EntityId) (b : Bool) → entity_eq e f ≡ b → old f ≡ Some q → new f ≡ Some q
  forth_by none q f true is h = absurd (none q (ap old (same_entity e f is) ∙ h))
  forth_by none q f false is h = at_test f false is ∙ h

  pub forth_under : ((q : List ℕ) → old e ≡ Some q → ⊥) → (q : List ℕ) (f : EntityId) → old f ≡ Some q → new f ≡ Some q
  forth_under none q f h = forth_by none q f (entity_eq e f) refl h

  pub here_under : new e ≡ Some n
  here_under = at_test e true (entity_eq_true e e refl)

some_early : (a b : Option (List ℕ)) (n : List ℕ) → a ≡ Some n → is_some (option_or a b) ≡ true
some_early a b n h = ap (λ o. is_some (option_or o b)) h

some_late : (a b : Option (List ℕ)) (n : List ℕ) → b ≡ Some n → is_some (option_or a b) ≡ true
some_late None b n h = ap is_some h
some_late (Some x) b n h = refl

not_apart : {Y R S : Type 0} (names : Names) (s : HashMap (List ℕ) EntityId R) (l : HashMap (String Y) EntityId S) (texts : Texts Y) → names_in s l ≡ names → AreKept s l texts
    → (e : EntityId) → IsUnnamed names e → (q : List ℕ) → other_of texts e ≡ Some q → ⊥
not_apart names s l texts view kept e un q h = un q ((tells names s l texts view kept).apart q e h)

-- after a short name is bound
module _ {Y R S : Type 0} (names : Names) (s s' : HashMap (List ℕ) EntityId R) (l : HashMap (String Y) EntityId S) (old : Texts Y) (view : names_in s l ≡ names) (kept : AreKept s l old)
    (bs n : List ℕ) (named : bs ≡ n) (e : EntityId) (u : Updates (pointwise nat_eq) s s' bs (Some e)) where
  pub bound_short : names_in s' l ≡ finite.insert names n e
  bound_short = insert_short s s' l l bs e u ∙ (λ i. finite.insert (view i) (named i) e)

  module _ (new : Texts Y) (is : is_short n ≡ true) (free : finite.get names n ≡ None) (un : IsUnnamed names e) (more : s'.entries ≡ s.entries ++ (bs, e) ∷ []) where
    more_named : s'.entries ≡ s.entries ++ (n, e) ∷ []
    more_named = more ∙ ap (λ t. s.entries ++ (t, e) ∷ []) named

    told_short : (place : Option ℕ) → IfSome place (λ at. (at ≡ length s.entries) × (is_of e.index (entry_of old s.entries e.index) ≡ false)) → IsKept old new e n place
        → Tells (first_of new (s.entries ++ (n, e) ∷ [])) (other_of new) (finite.insert names n e)
    told_short None free_place k = Tells-insert names n e (first_of old s.entries) (other_of old) (first_of new (s.entries ++ (n, e) ∷ [])) (other_of new) (tells names s l old view kept) free un
        (back_unplaced old.places.items new.places.items s.entries n e k.0) (forth_unplaced old.places.items new.places.items s.entries n e k.0)
        (back_under e n (other_of old) (other_of new) k.1) (forth_under e n (other_of old) (other_of new) k.1 (not_apart names s l old view kept e un))
        (some_late (first_of new (s.entries ++ (n, e) ∷ []) e) (other_of new e) n (here_under e n (other_of old) (other_of new) k.1))
    told_short (Some at) p k = Tells-insert names n e (first_of old s.entries) (other_of old) (first_of new (s.entries ++ (n, e) ∷ [])) (other_of new) (tells names s l old view kept) free un
        (back_placed old.places.items new.places.items s.entries n e at p.0 k.0) (forth_placed old.places.items new.places.items s.entries n e at p.0 k.0 p.1)
        (λ q f h. inl (sym (k.1 f) ∙ h)) (λ q f h. k.1 f ∙ h)
        (some_early (first_of new (s.entries ++ (n, e) ∷ []) e) (other_of new e) n (here_placed old.places.items new.places.items s.entries n e at p.0 k.0))

    pub kept_short : IsUnique (pointwise nat_eq) s' → (place : Option ℕ) → IfSome place (λ at. (at ≡ length s.entries) × (is_of e.index (entry_of old s.entries e.index) ≡ false)) → IsKept old new e n place → AreKept s' l new
    kept_short unique place p k = record {
      apart = record { shorts = short_stays s s' l l bs (Some e) (ap is_short named ∙ is) u kept.apart.shorts; longs = kept.apart.longs };
      unique = unique;
      tells = subst (Tells (first_of new s'.entries) (other_of new)) (sym bound_short) (subst (λ es. Tells (first_of new es) (other_of new) (finite.insert names n e)) (sym more_named) (told_short place p k));
    }

-- after a long one is
module _ {Y R S : Type 0} (names : Names) (s : HashMap (List ℕ) EntityId R) (l l1 l' : HashMap (String Y) EntityId S) (old : Texts Y) (view : names_in s l ≡ names) (kept : AreKept s l old)
    (k0 : String Y) (n : List ℕ) (named : string_bytes k0 ≡ n) (is : is_short n ≡ false) (e : EntityId) (same : l1.entries ≡ l.entries) (u : Updates string_eq l1 l' k0 (Some e)) where
  pub bound_long : names_in s l' ≡ finite.insert names n e
  bound_long = insert_long s s l1 l' (string_bytes k0) e (kept.apart.shorts (string_bytes k0) (ap is_short named ∙ is)) u ∙ (λ i. finite.insert ((names_unchanged s s l l1 refl same ∙ view) i) (named i) e)

  pub kept_long : (new : Texts Y) → finite.get names n ≡ None → IsUnnamed names e → IsKept old new e n None → AreKept s l' new
  kept_long new free un k = record {
    apart = record {
      shorts = kept.apart.shorts;
      longs = long_stays s s l1 l' (string_bytes k0) (Some e) (ap is_short named ∙ is) u (λ q fits. ap (lookup (λ x. bytes_eq q (string_bytes x))) same ∙ kept.apart.longs q fits);
    };
    unique = kept.unique;
    tells = subst (Tells (first_of new s.entries) (other_of new)) (sym bound_long)
        (Tells-insert names n e (first_of old s.entries) (other_of old) (first_of new s.entries) (other_of new) (tells names s l old view kept) free un
        (λ q f h. inl (ap (λ ps. first_in ps s.entries f) (sym k.0) ∙ h)) (λ q f h. ap (λ ps. first_in ps s.entries f) k.0 ∙ h)
        (back_under e n (other_of old) (other_of new) k.1) (forth_under e n (other_of old) (other_of new) k.1 (not_apart names s l old view kept e un))
        (some_late (first_of new s.entries e) (other_of new e) n (here_under e n (other_of old) (other_of new) k.1)));
  }

-- after an entry of a short name is taken out
module _ {Y R S : Type 0} (s s' : HashMap (List ℕ) EntityId R) (l : HashMap (String Y) EntityId S) (apart : AreApart s l) (place : ℕ) (n : List ℕ) (e : EntityId)
    (has : get (pointwise nat_eq) s n ≡ Some e) (u : Updates (pointwise nat_eq) s s' n None) where
  fits : (b : Bool) → is_short n ≡ b → is_short n ≡ true
  fits true is = is
  fits false is = absurd (none-some e (sym (apart.shorts n is) ∙ has))

  pub taken : names_in s' l ≡ finite.remove (names_in s l) n
  taken = remove_short s s' l l n (apart.longs n (fits (is_short n) refl)) u

  pub apart_taken : AreApart s' l
  apart_taken = record { shorts = short_stays s s' l l n None (fits (is_short n) refl) u apart.shorts; longs = apart.longs }

-- a short name that the names have is in its map
pub held_short : {Y R S : Type 0} (s : HashMap (List ℕ) EntityId R) (l : HashMap (String Y) EntityId S) (n : List ℕ) → AreApart s l → is_short n ≡ true
    → is_some (finite.get (names_in s l) n) ≡ true → is_some (get (pointwise nat_eq) s n) ≡ true
held_short s l n apart short held = some_of (get (pointwise nat_eq) s n) (sym (ap is_some (get-names_in s l n ∙ ap (option_or (get (pointwise nat_eq) s n)) (apart.longs n short))) ∙ held)
  where
    some_of : (o : Option EntityId) → is_some (option_or o None) ≡ true → is_some o ≡ true
    some_of None h = h
    some_of (Some x) h = refl

-- the entry where a key was found
pub found_entry : (test : List ℕ → Bool) (es : List (List ℕ × EntityId)) (i : ℕ) → position test (keys_of es) ≡ Some i → (p : List ℕ × EntityId) × (slice_get es i ≡ Some p) × (test p.0 ≡ true)
found_entry test es i h =
    let at = position-Some test (keys_of es) i [] h in
    ⊎_elim
    (λ x. (x.0, x.2, ap test (sym (get_or_from_slice_get (keys_of es) i x.0.0 [] (slice_get-map (λ p. p.0) es i ∙ ap (option_map (λ p. p.0)) x.2))) ∙ at.1))
    (λ x. absurd (none-some (get_or (keys_of es) i []) (sym (slice_get-map (λ p. p.0) es i ∙ ap (option_map (λ p. p.0)) x.1) ∙ slice_get-get_or (keys_of es) i [] at.0)))
    (slice_get_cases es i).1

-- after a name goes
module _ {Y R S : Type 0} (names : Names) (s s' : HashMap (List ℕ) EntityId R) (l l' : HashMap (String Y) EntityId S) (old : Texts Y) (view : names_in s l ≡ names) (kept : AreKept s l old)
    (n : List ℕ) (e : EntityId) (is_e : finite.get names n ≡ Some e) (gone : names_in s' l' ≡ finite.remove (names_in s l) n) where
  left : names_in s' l' ≡ finite.remove names n
  left = gone ∙ ap (λ m. finite.remove m n) view

  -- an entry of the map is what the names have
  placed_left : IsUnique (pointwise nat_eq) s' → (new : Texts Y) → (q : List ℕ) (f : EntityId) → first_of new s'.entries f ≡ Some q → finite.get (finite.remove names n) q ≡ Some f
  placed_left unique new q f h =
      let p = place_of new.places.items s'.entries f q h in
      ap (λ m. finite.get m q) (sym left) ∙ get-names_in s' l' q
      ∙ ap (λ o. option_or o (get_by_text l' q)) (hash_map_get_place nat_list_eq_equiv s' p.0 q f unique p.2)

  pub kept_left : (new : Texts Y) → AreApart s' l' → IsUnique (pointwise nat_eq) s'
      → ((q : List ℕ) (f : EntityId) → q ≢ n → first_of old s.entries f ≡ Some q → first_of new s'.entries f ≡ Some q)
      → ((f : EntityId) → other_of new f ≡ cond (entity_eq e f) None (other_of old f)) → AreKept s' l' new
  kept_left new apart unique stay rest = record {
    apart = apart;
    unique = unique;
    tells = subst (Tells (first_of new s'.entries) (other_of new)) (sym left)
        (Tells-remove names n e (first_of old s.entries) (other_of old) (first_of new s'.entries) (other_of new) (tells names s l old view kept) is_e (placed_left unique new) stay rest);
  }

  pub freed : IsUnnamed (names_in s' l') e
  freed = subst (λ m. IsUnnamed m e) (sym left) (IsUnnamed-remove names n e (one_to_one names s l old view kept) is_e)

  pub others : OthersKeepTheirs names (names_in s' l') e
  others = subst (λ m. OthersKeepTheirs names m e) (sym left) (OthersKeepTheirs-remove names n e is_e)

  pub left_by : (q : List ℕ) → finite.get names q ≡ Some e → names_in s' l' ≡ finite.remove names q
  left_by q h = left ∙ ap (finite.remove names) (one_to_one names s l old view kept n q e is_e h)

  pub was_named : IsUnnamed names e → ⊥
  was_named un = un n is_e

-- without names
module _ {Y R S : Type 0} (s : HashMap (List ℕ) EntityId R) (l : HashMap (String Y) EntityId S) (no_short : s.entries ≡ []) (no_long : l.entries ≡ []) where
  none_at_all : (q : List ℕ) → finite.get (names_in s l) q ≡ None
  none_at_all q = get-names_in s l q ∙ (λ i. option_or (lookup (pointwise nat_eq q) (no_short i)) (lookup (λ k. bytes_eq q (string_bytes k)) (no_long i)))

  pub unnamed_all : (e : EntityId) → IsUnnamed (names_in s l) e
  unnamed_all e q h = let no : None ≡ Some e = sym (none_at_all q) ∙ h in cc

  pub kept_none : (texts : Texts Y) → IsUnique (pointwise nat_eq) s → ((q : EntityId) → first_of texts s.entries q ≡ None) → ((q : EntityId) → other_of texts q ≡ None) → AreKept s l texts
  kept_none texts unique first other = record {
    apart = record { shorts = λ q _. ap (lookup (pointwise nat_eq q)) no_short; longs = λ q _. ap (lookup (λ k. bytes_eq q (string_bytes k))) no_long };
    unique = unique;
    tells = record {
      placed = λ q e h. absurd (none-some q (sym (first e) ∙ h));
      apart = λ q e h. absurd (none-some q (sym (other e) ∙ h));
      told = λ q e h. absurd (none-some e (sym (none_at_all q) ∙ h));
    };
  }
