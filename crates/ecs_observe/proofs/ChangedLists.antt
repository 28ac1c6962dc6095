-- A session of which one kept query has another list of its tables.
use Rattle.std.specs.Prelude.{◌≡◌, ◌≢◌, ℕ, zero, suc, ◌<◌, cond, Bool, true, false, List, [], ◌∷◌, ◌++◌, All, length, map, flat_map, bytes_eq, slice_set, Option, None, Some, option_map, IfSome}
use Rattle.std.specs.List.{find, remove}
use Rattle.std.specs.Map.{remove_entry}
use Rattle.std.specs.Cmp.Lexicographic.{bytes_decides}
use Rattle.std.specs.declared.string.String.{String}
use Rattle.std.specs.String.{string_bytes}
use Rattle.std.proofs.Common.{refl, sym, ap, subst, ◌∙◌, arith, get_or}
use Rattle.std.proofs.lemmas.List.{get_or-map, length-map}
use Rattle.std.proofs.lemmas.List.Elements.{All-head, All-map, All-tail}
use Rattle.std.proofs.lemmas.List.Kept.{AllPairs-cons}
use Rattle.watch_index.specs.NameOrder as order
use Rattle.watch_index.specs.WatchOrder.{Boxed}
use Rattle.watch_index.specs.declared.watch_order.Watcher.{Watcher}
use Rattle.ecs_model.specs.steps.Outcomes.{Changed}
use Rattle.ecs_model.specs.World.{WorldState}
use Rattle.query_cache.specs.Kept.{Kept}
use Rattle.query_meaning.specs.declared.steps.Step.{Step}
use Rattle.watch_concerns.specs.Mentions.{times}
use Rattle.ecs_observe.specs.Following.{with_list, with_list_at}
use Rattle.ecs_observe.specs.Parts.{held_of}
use Rattle.watch_stored.specs.Held.{Held, IsHeld, IsNow, WasNow, told_to}
use Rattle.ecs_observe.specs.Standing.{IsSession, Standing, session_of, stored_of}
use Rattle.ecs_observe.specs.Stored.{entries_in}
use Rattle.watch_stored.specs.declared.stored.StoredQuery.{StoredQuery}
use Rattle.ecs_observe.proofs.NamedQueries.{is_key}
use Rattle.ecs_observe.proofs.DroppedQueries.{AreApart, differs, first_apart, rest_apart}

module _ (n : List ℕ) (l : Option Kept) (st : List Step) (serial : ℕ) where
  -- ---- what doesn't hang on lists
  same_stored : (hs : List Held) → map stored_of (map (with_list n l st serial) hs) ≡ map stored_of hs
  same_stored [] = refl
  same_stored (h ∷ hs) = ap (λ xs. stored_of h ∷ xs) (same_stored hs)

  same_queries : (hs : List Held) → map (λ h. h.query) (map (with_list n l st serial) hs) ≡ map (λ h. h.query) hs
  same_queries [] = refl
  same_queries (h ∷ hs) = ap (λ xs. h.query ∷ xs) (same_queries hs)

  same_told : (w : WorldState) (changed : Changed) (hs : List Held) → flat_map (told_to w changed) (map (with_list n l st serial) hs) ≡ flat_map (told_to w changed) hs
  same_told w changed [] = refl
  same_told w changed (h ∷ hs) = ap (λ es. told_to w changed h ++ es) (same_told w changed hs)

  same_waiting : (w : WorldState) (hs : List Held) (o : Option Changed)
      → option_map (λ changed. flat_map (told_to w changed) (map (with_list n l st serial) hs)) o ≡ option_map (λ changed. flat_map (told_to w changed) hs) o
  same_waiting w hs None = refl
  same_waiting w hs (Some changed) = ap Some (same_told w changed hs)

  still_apart : (hs : List Held) → AreApart hs → AreApart (map (with_list n l st serial) hs)
  still_apart [] apart = λ i j d low high. absurd (omega arith)
  still_apart (h ∷ hs) apart =
      AllPairs-cons (λ (a b : Held). a.name ≢ b.name) (with_list n l st serial h) (map (with_list n l st serial) hs)
      (All-map (λ (b : Held). h.name ≢ b.name) (with_list n l st serial) hs (first_apart h hs apart))
      (still_apart hs (rest_apart h hs apart))

  pub same_session : (s : Standing) → session_of (with_list_at n l st serial s) ≡ session_of s
  unfolding session_of
  same_session s = λ j. record {
    world = (s.world).state;
    stored = same_stored s.stored j;
    waiting = same_waiting (s.world).state s.stored s.waiting j;
  }

  module _ (s : Standing) (session : IsSession s) where
    abbrev listed : List Held
    listed = map (with_list n l st serial) s.stored

    still_now : All (IsNow (s.world).state) s.stored → All (IsNow (s.world).state) listed
    still_now all = All-map (IsNow (s.world).state) (with_list n l st serial) s.stored all

    was_still : (o : Option Changed) → IfSome o (λ changed. All (WasNow (s.world).state changed) s.stored) → IfSome o (λ changed. All (WasNow (s.world).state changed) listed)
    was_still None was = tt
    was_still (Some changed) was = All-map (WasNow (s.world).state changed) (with_list n l st serial) s.stored was

    pub still_session : IsSession (with_list_at n l st serial s)
    still_session = record {
      held = All-map (IsHeld (s.world).state) (with_list n l st serial) s.stored (λ k d low.
          let held = session.held k d low in
          record { current = held.current; fit = held.fit; ascends = held.ascends });
      pinned = λ i. session.pinned i ∙ ap (times i) (sym (same_queries s.stored));
      few = let same : length listed ≡ length s.stored = length-map s.stored (with_list n l st serial) in omega (arith, same, session.few);
      once = still_apart s.stored session.once;
      now = λ e. still_now (session.now e);
      after = session.after;
      before = was_still s.waiting session.before;
    }

  -- ---- the list of the name
  find_still : (hs : List Held) → find (λ h. bytes_eq n h.name) (map (with_list n l st serial) hs) ≡ option_map (with_list n l st serial) (find (λ h. bytes_eq n h.name) hs)
  find_still [] = refl
  find_still (h ∷ hs) = by (bytes_eq n h.name) (find_still hs)
    where
      by : (b : Bool) → find (λ h. bytes_eq n h.name) (map (with_list n l st serial) hs) ≡ option_map (with_list n l st serial) (find (λ h. bytes_eq n h.name) hs)
          → cond b (Some (with_list n l st serial h)) (find (λ h. bytes_eq n h.name) (map (with_list n l st serial) hs)) ≡ option_map (with_list n l st serial) (cond b (Some h) (find (λ h. bytes_eq n h.name) hs))
      by true rest = refl
      by false rest = rest

  -- where one has the name, it has this list then
  pub found_then : (s : Standing) (h : Held) → find (λ h. bytes_eq n h.name) s.stored ≡ Some h → h.name ≡ n → find (λ h. bytes_eq n h.name) (map (with_list n l st serial) s.stored) ≡ Some (record h { list = l; steps = st; planned_at = serial })
  found_then s h found name =
      find_still s.stored ∙ (ap (option_map (with_list n l st serial)) found
      ∙ ap (λ b. Some (record h { list = cond b l h.list; steps = cond b st h.steps; planned_at = cond b serial h.planned_at })) ((bytes_decides n h.name).1 (sym name)))

  -- ---- which of them has the name
  others_stay : (hs : List Held) → All (λ h. n ≢ h.name) hs → map (with_list n l st serial) hs ≡ hs
  others_stay [] all = refl
  others_stay (h ∷ hs) all =
      λ j. record h { list = cond (differs n h.name (All-head (λ x. n ≢ x.name) h hs all) j) l h.list; steps = cond (differs n h.name (All-head (λ x. n ≢ x.name) h hs all) j) st h.steps; planned_at = cond (differs n h.name (All-head (λ x. n ≢ x.name) h hs all) j) serial h.planned_at } ∷ others_stay hs (All-tail (λ x. n ≢ x.name) h hs all) j

  module _ {X : Type 0} (held : X → Held) where
    -- one of them is written, which has the name
    pub one_listed : (xs : List X) (i : ℕ) (y : X) → i < length xs → AreApart (map held xs)
        → ((d : X) → n ≡ (held (get_or xs i d)).name) → ((d : X) → held y ≡ record (held (get_or xs i d)) { list = l; steps = st; planned_at = serial })
        → map held (slice_set xs i y) ≡ map (with_list n l st serial) (map held xs)
    one_listed [] i y low apart named one = absurd (omega (arith, low))
    one_listed (x ∷ xs) zero y low apart named one =
        λ j. (one x ∙ ap (λ b. record (held x) { list = cond b l (held x).list; steps = cond b st (held x).steps; planned_at = cond b serial (held x).planned_at }) (sym ((bytes_decides n (held x).name).1 (named x)))) j
        ∷ sym (others_stay (map held xs) (subst (λ m. All (λ (h : Held). m ≢ h.name) (map held xs)) (sym (named x)) (first_apart (held x) (map held xs) apart))) j
    one_listed (x ∷ xs) (suc i) y low apart named one =
        let is : held x ≡ with_list n l st serial (held x) = ap (λ b. record (held x) { list = cond b l (held x).list; steps = cond b st (held x).steps; planned_at = cond b serial (held x).planned_at }) (sym (differs n (held x).name unlike)) in
        λ j. is j ∷ one_listed xs i y (omega (arith, low)) (rest_apart (held x) (map held xs) apart) (λ d. named d) (λ d. one d) j
      where
        unlike : n ≢ (held x).name
        unlike e =
            first_apart (held x) (map held xs) apart i (held x) (omega (arith, low, length-map xs held))
            (sym e ∙ (named x ∙ ap (λ (h : Held). h.name) (sym (get_or-map held xs i x (held x) (omega (arith, low))))))

-- with the list that it has a session is as it was
module _ (n : List ℕ) where
  as_they_were : (hs : List Held) (h : Held) → find (λ x. bytes_eq n x.name) hs ≡ Some h → AreApart hs → hs ≡ map (with_list n h.list h.steps h.planned_at) hs
  as_they_were [] h found apart = refl
  as_they_were (x ∷ hs) h found apart = by (bytes_eq n x.name) refl found (λ there. as_they_were hs h there (rest_apart x hs apart))
    where
      by : (b : Bool) → bytes_eq n x.name ≡ b → cond b (Some x) (find (λ x. bytes_eq n x.name) hs) ≡ Some h
          → (find (λ x. bytes_eq n x.name) hs ≡ Some h → hs ≡ map (with_list n h.list h.steps h.planned_at) hs) → x ∷ hs ≡ map (with_list n h.list h.steps h.planned_at) (x ∷ hs)
      by true is found rest =
          let same : Some x ≡ Some h = found in
          let one : x ≡ h = cc in
          let first : x ≡ with_list n h.list h.steps h.planned_at x = ap (λ (y : Held). record x { list = y.list; steps = y.steps; planned_at = y.planned_at }) one ∙ ap (λ b. record x { list = cond b h.list x.list; steps = cond b h.steps x.steps; planned_at = cond b h.planned_at x.planned_at }) (sym is) in
          let others = others_stay n h.list h.steps h.planned_at hs (subst (λ m. All (λ (y : Held). m ≢ y.name) hs) (sym ((bytes_decides n x.name).0 is)) (first_apart x hs apart)) in
          λ j. first j ∷ sym others j
      by false is found rest =
          let first : x ≡ with_list n h.list h.steps h.planned_at x = ap (λ b. record x { list = cond b h.list x.list; steps = cond b h.steps x.steps; planned_at = cond b h.planned_at x.planned_at }) (sym is) in
          λ j. first j ∷ rest found j

  pub as_it_was : (s : Standing) (h : Held) → find (λ x. bytes_eq n x.name) s.stored ≡ Some h → AreApart s.stored → s ≡ with_list_at n h.list h.steps h.planned_at s
  as_it_was s h found apart = ap (λ hs. record s { stored = hs }) (as_they_were s.stored h found apart)

-- ---- where the stored query of a name stands
module _ {A : Type 0} (n : List ℕ) where
  abbrev boxed_apart : List (Boxed (StoredQuery A) A) → Type 0
  boxed_apart bs = AreApart (map held_of (entries_in bs))

  -- the next has another name
  not_twice : (b : Boxed (StoredQuery A) A) (bs : List (Boxed (StoredQuery A) A)) (rest : List (String A × Watcher (StoredQuery A) A)) → boxed_apart (b ∷ bs)
      → order.entries_in bs ≡ (b.value.name, b.value.value) ∷ rest → ⊥
  not_twice b [] rest apart e = let no : [] ≡ (b.value.name, b.value.value) ∷ rest = e in cc
  not_twice b (a ∷ bs) rest apart e =
      let both : (a.value.name, a.value.value) ∷ order.entries_in bs ≡ (b.value.name, b.value.value) ∷ rest = e in
      let one : (a.value.name, a.value.value) ≡ (b.value.name, b.value.value) = cc in
      All-head (λ (h : Held). string_bytes b.value.name ≢ h.name) (held_of (a.value.name, a.value.value.value)) (map held_of (entries_in bs))
      (first_apart (held_of (b.value.name, b.value.value.value)) (map held_of (entries_in (a ∷ bs))) apart)
      (ap (λ (p : String A × Watcher (StoredQuery A) A). string_bytes p.0) (sym one))

  pub place_named : (bs : List (Boxed (StoredQuery A) A)) (i : ℕ) → i < length bs → boxed_apart bs
      → order.entries_in (remove bs i) ≡ remove_entry (is_key n) (order.entries_in bs) → (d : Boxed (StoredQuery A) A) → is_key n (get_or bs i d).value.name ≡ true
  place_named [] i low apart e d = absurd (omega (arith, low))
  place_named (b ∷ bs) zero low apart e d = by (is_key n b.value.name) refl e
    where
      by : (t : Bool) → is_key n b.value.name ≡ t → order.entries_in bs ≡ cond t (order.entries_in bs) ((b.value.name, b.value.value) ∷ remove_entry (is_key n) (order.entries_in bs))
          → is_key n b.value.name ≡ true
      by true is same = is
      by false is same = absurd (not_twice b bs _ apart same)
  place_named (b ∷ bs) (suc i) low apart e d =
      by (is_key n b.value.name) e (λ rest. place_named bs i (omega (arith, low)) (rest_apart (held_of (b.value.name, b.value.value.value)) (map held_of (entries_in bs)) apart) rest d)
    where
      by : (t : Bool) → (b.value.name, b.value.value) ∷ order.entries_in (remove bs i) ≡ cond t (order.entries_in bs) ((b.value.name, b.value.value) ∷ remove_entry (is_key n) (order.entries_in bs))
          → (order.entries_in (remove bs i) ≡ remove_entry (is_key n) (order.entries_in bs) → is_key n (get_or bs i d).value.name ≡ true)
          → is_key n (get_or bs i d).value.name ≡ true
      by true same rest = absurd (not_twice b bs (order.entries_in (remove bs i)) apart (sym same))
      by false same rest =
          let both : (b.value.name, b.value.value) ∷ order.entries_in (remove bs i) ≡ (b.value.name, b.value.value) ∷ remove_entry (is_key n) (order.entries_in bs) = same in
          rest cc
