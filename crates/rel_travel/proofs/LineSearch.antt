-- A search along a line that goes through no entity twice finds what the line with its repeats has first.
use Rattle.std.proofs.Common.{◌≡◌, ℕ, ◌+◌, ◌<◌, ◌≤◌, ◌⊎◌, Bool, true, false, List, Option, [], ◌∷◌, ◌++◌, length, get_or, take, drop, Some, None, refl, sym, ap, ◌∙◌, inl, inr, arith, add-one, drop-cons}
use Rattle.std.specs.List.{Contains, find, flat_map}
use Rattle.std.proofs.lemmas.List.{append-nil, append_assoc, drop_all, take_all}
use Rattle.std.proofs.lemmas.List.Elements.{Contains-append_left, Contains-append_right, Contains-push, Contains-push_cases}
use Rattle.std.proofs.lemmas.List.Folds.{find-append, length-flat_map-take}
use Rattle.ecs_model.proofs.LivePairs.{target_there}
use Rattle.rel_travel.proofs.Growth.{targets_more}
use Rattle.ecs_id.specs.Id.{Id}
use Rattle.ecs_model.specs.Links.{target_under, targets_in}
use Rattle.rel_travel.specs.UpWords.{AllFind}
use Rattle.rel_travel.specs.declared.path.Step.{Step}

module _ (ids : ℕ → List Id) (r : ℕ) (hit : ℕ → Bool) (line : ℕ → List ℕ) where
  -- an entity, followed by its line
  abbrev followed : ℕ → List ℕ
  followed t = t ∷ line t

  abbrev targets : ℕ → List ℕ
  targets s = targets_in (ids s) r

  -- what is still to come of the line of a step's entity, and of all steps
  abbrev pub to_come : Step → List ℕ
  to_come f = flat_map followed (targets_in (drop f.place (ids f.index)) r)

  abbrev pub all_to_come : List Step → List ℕ
  all_to_come fs = flat_map to_come fs

  -- how long an entity's line is: longer than that of each of its targets
  abbrev rank : ℕ → ℕ
  rank s = length (line s)

  abbrev pub IsOn : List Step → ℕ → Type 0
  IsOn [] v = ⊥
  IsOn (f ∷ fs) v = (f.index ≡ v) ⊎ IsOn fs v

  -- each step is from an entity with a longer line
  abbrev pub IsRising : List Step → Type 0
  IsRising [] = Unit {0}
  IsRising (f ∷ fs) = ((v : ℕ) → IsOn fs v → rank f.index < rank v) × IsRising fs

  -- the targets that the steps have passed are among these
  abbrev pub ArePassed : List ℕ → List Step → Type 0
  ArePassed items [] = Unit {0}
  ArePassed items (f ∷ fs) = ((t : ℕ) → Contains (targets_in (take f.place (ids f.index)) r) t → Contains items t) × ArePassed items fs

  -- nothing in the line is hit
  abbrev pub IsClear : ℕ → Type 0
  IsClear v = find hit (line v) ≡ None

  -- what is found in the line of each step's entity is the first of what is still to come of it and of the steps after it, of which front is to come
  abbrev pub IsLed : List ℕ → List Step → Type 0
  IsLed front [] = Unit {0}
  IsLed front (f ∷ fs) = (find hit (line f.index) ≡ find hit (front ++ to_come f)) × IsLed (front ++ to_come f) fs

  -- no entity that was entered is hit: the first step was entered last
  abbrev pub AreMissed : List Step → Type 0
  AreMissed [] = Unit {0}
  AreMissed (f ∷ []) = Unit {0}
  AreMissed (f ∷ g ∷ gs) = (hit f.index ≡ false) × AreMissed (g ∷ gs)

  pub record IsSearched (start : ℕ) (fs : List Step) (items : List ℕ) : Type 0 where
    pub same : find hit (line start) ≡ find hit (all_to_come fs)
    pub rising : IsRising fs
    pub passed : ArePassed items fs
    pub missed : (v : ℕ) → Contains items v → (hit v ≡ false) × (IsOn fs v ⊎ IsClear v)
    pub led : IsLed [] fs
    pub entered : AreMissed fs

  -- after one more id of the last step's entity
  abbrev pub onward : Step → Step
  onward f = record { index = f.index; place = f.place + 1 }

  -- the first step into an entity
  abbrev pub into : ℕ → Step
  into t = record { index = t; place = 0 }

  find_skip : (xs ys : List ℕ) → find hit xs ≡ None → find hit (xs ++ ys) ≡ find hit ys
  find_skip xs ys e = rw (find-append hit xs ys, e) refl

  found_first : (xs ys : List ℕ) (x : ℕ) → find hit xs ≡ Some x → find hit (xs ++ ys) ≡ Some x
  found_first xs ys x e = rw (find-append hit xs ys, e) refl

  find_onto : (a b xs : List ℕ) → find hit a ≡ find hit b → find hit (a ++ xs) ≡ find hit (b ++ xs)
  find_onto a b xs e = rw (find-append hit a xs, find-append hit b xs, e) refl

  -- only what is found in front counts
  IsLed-same : (a b : List ℕ) (fs : List Step) → find hit a ≡ find hit b → IsLed a fs → IsLed b fs
  IsLed-same a b [] e led = tt
  IsLed-same a b (f ∷ fs) e led =
      let onto = find_onto a b (to_come f) e in
      (led.0 ∙ onto, IsLed-same (a ++ to_come f) (b ++ to_come f) fs onto led.1)

  -- the last step goes on
  IsLed-on : (f g : Step) (fs : List Step) → f.index ≡ g.index → find hit (to_come f) ≡ find hit (to_come g) → IsLed [] (f ∷ fs) → IsLed [] (g ∷ fs)
  IsLed-on f g fs i e led = (ap (λ v. find hit (line v)) (sym i) ∙ led.0 ∙ e, IsLed-same (to_come f) (to_come g) fs e led.1)

  AreMissed-on : (f g : Step) (fs : List Step) → f.index ≡ g.index → AreMissed (f ∷ fs) → AreMissed (g ∷ fs)
  AreMissed-on f g [] i m = tt
  AreMissed-on f g (h ∷ hs) i m = (ap hit (sym i) ∙ m.0, m.1)

  AreMissed-back : (f : Step) (fs : List Step) → AreMissed (f ∷ fs) → AreMissed fs
  AreMissed-back f [] m = tt
  AreMissed-back f (g ∷ gs) m = m.1

  -- from an entity that isn't hit on, what its line has is found
  found_on : (v : ℕ) (x : Option ℕ) → hit v ≡ false → find hit (line v) ≡ x → find hit (followed v) ≡ x
  found_on v x miss e = rw miss e

  -- where something is found in front, that is found from each entity that was entered
  all_led : (x : ℕ) (front : List ℕ) (fs : List Step) → find hit front ≡ Some x → IsLed front fs → AreMissed fs → AllFind (λ e. find hit (followed e)) (Some x) fs
  all_led x front [] e led m = tt
  all_led x front (f ∷ []) e led m = tt
  all_led x front (f ∷ g ∷ gs) e led m =
      let onto : find hit (front ++ to_come f) ≡ Some x = rw (find-append hit front (to_come f), e) refl in
      (found_on f.index (Some x) m.0 (led.0 ∙ onto), all_led x (front ++ to_come f) (g ∷ gs) onto led.1 m.1)

  last_led : (x : ℕ) (f : Step) (fs : List Step) → find hit (to_come f) ≡ Some x → IsLed [] (f ∷ fs) → AreMissed (f ∷ fs) → AllFind (λ e. find hit (followed e)) (Some x) (f ∷ fs)
  last_led x f [] e led m = tt
  last_led x f (g ∷ gs) e led m = (found_on f.index (Some x) m.0 (led.0 ∙ e), all_led x (to_come f) (g ∷ gs) e led.1 m.1)

  -- an entity that isn't hit, with nothing in its line
  nothing_at : (t : ℕ) → hit t ≡ false → IsClear t → find hit (followed t) ≡ None
  nothing_at t e c = rw e c

  -- where nothing is found from an entity on, it isn't hit, and nothing is in its line
  none_on : (t : ℕ) → find hit (followed t) ≡ None → (hit t ≡ false) × IsClear t
  none_on t none = by_hit (hit t) refl none
    where
      by_hit : (b : Bool) → hit t ≡ b → find hit (followed t) ≡ None → (hit t ≡ false) × IsClear t
      by_hit true e none =
          let some : Some t ≡ None = rw e at none in
          absurd cc
      by_hit false e none = (e, rw e at none)

  nothing_in : (ts : List ℕ) → ((t : ℕ) → Contains ts t → (hit t ≡ false) × IsClear t) → find hit (flat_map followed ts) ≡ None
  nothing_in [] none = refl
  nothing_in (t ∷ ts) none =
      let here = none t (0, omega arith, refl) in
      find_skip (followed t) (flat_map followed ts) (nothing_at t here.0 here.1) ∙ nothing_in ts (λ u h. none u (Contains-append_right (t ∷ []) ts u h))

  -- the targets from a place on, by the id there
  rest_with : (xs : List Id) (p t : ℕ) (i : Id) → p < length xs → i ≡ get_or xs p i → target_under r i ≡ Some t → targets_in (drop p xs) r ≡ t ∷ targets_in (drop (p + 1) xs) r
  rest_with xs p t i l e is = rw (add-one, drop-cons xs p i l, ← e, is) refl

  rest_without : (xs : List Id) (p : ℕ) (i : Id) → p < length xs → i ≡ get_or xs p i → target_under r i ≡ None → targets_in (drop p xs) r ≡ targets_in (drop (p + 1) xs) r
  rest_without xs p i l e is = rw (add-one, drop-cons xs p i l, ← e, is) refl

  passed_more : (items : List ℕ) (y : ℕ) (fs : List Step) → ArePassed items fs → ArePassed (items ++ y ∷ []) fs
  passed_more items y [] p = tt
  passed_more items y (f ∷ fs) p = (λ t h. Contains-append_left items (y ∷ []) t (p.0 t h), passed_more items y fs p.1)

  -- the last step's entity goes on to its next id, which is no pair of the relationship
  pub IsSearched-skip : (start : ℕ) (f : Step) (fs : List Step) (items : List ℕ) (i : Id) → f.place < length (ids f.index) → i ≡ get_or (ids f.index) f.place i → target_under r i ≡ None
      → IsSearched start (f ∷ fs) items → IsSearched start (onward f ∷ fs) items
  IsSearched-skip start f fs items i l e is s = record {
    same = s.same ∙ ap (λ ts. find hit (flat_map followed ts ++ all_to_come fs)) (rest_without (ids f.index) f.place i l e is);
    rising = s.rising;
    passed = (λ t h. s.passed.0 t (passed_back t h), s.passed.1);
    missed = s.missed;
    led = IsLed-on f (onward f) fs refl (ap (λ ts. find hit (flat_map followed ts)) (rest_without (ids f.index) f.place i l e is)) s.led;
    entered = AreMissed-on f (onward f) fs refl s.entered;
  }
    where
      passed_back : (t : ℕ) → Contains (targets_in (take (f.place + 1) (ids f.index)) r) t → Contains (targets_in (take f.place (ids f.index)) r) t
      passed_back t h = rw (targets_more (ids f.index) r f.place i i l e, is, append-nil (targets_in (take f.place (ids f.index)) r)) at h

  -- something is found from the next target on
  pub IsSearched-hit : (start : ℕ) (f : Step) (fs : List Step) (items : List ℕ) (i : Id) (t x : ℕ) → f.place < length (ids f.index) → i ≡ get_or (ids f.index) f.place i → target_under r i ≡ Some t
      → find hit (followed t) ≡ Some x → IsSearched start (f ∷ fs) items → find hit (line start) ≡ Some x
  IsSearched-hit start f fs items i t x l e is h s =
      s.same ∙ ap (λ ts. find hit (flat_map followed ts ++ all_to_come fs)) (rest_with (ids f.index) f.place t i l e is)
      ∙ ap (find hit) (append_assoc (followed t) (to_come (onward f)) (all_to_come fs))
      ∙ found_first (followed t) (to_come (onward f) ++ all_to_come fs) x h

  -- and from each entity that was entered on the way
  pub IsSearched-way : (start : ℕ) (f : Step) (fs : List Step) (items : List ℕ) (i : Id) (t x : ℕ) → f.place < length (ids f.index) → i ≡ get_or (ids f.index) f.place i → target_under r i ≡ Some t
      → find hit (followed t) ≡ Some x → IsSearched start (f ∷ fs) items → AllFind (λ e. find hit (followed e)) (Some x) (onward f ∷ fs)
  IsSearched-way start f fs items i t x l e is h s = moved fs (last_led x f fs here s.led s.entered)
    where
      here : find hit (to_come f) ≡ Some x
      here = ap (λ ts. find hit (flat_map followed ts)) (rest_with (ids f.index) f.place t i l e is) ∙ found_first (followed t) (to_come (onward f)) x h

      moved : (gs : List Step) → AllFind (λ e. find hit (followed e)) (Some x) (f ∷ gs) → AllFind (λ e. find hit (followed e)) (Some x) (onward f ∷ gs)
      moved [] all = tt
      moved (g ∷ gs) all = all

  module _ (unfolds : (s : ℕ) → line s ≡ flat_map followed (targets s)) where
    line_longer : (ts : List ℕ) (t : ℕ) → Contains ts t → rank t < length (flat_map followed ts)
    line_longer ts t h = omega (arith, length-flat_map-take followed ts h.0 t h.1, ap rank h.2)

    rank_falls : (s t : ℕ) → Contains (targets s) t → rank t < rank s
    rank_falls s t h = rw (unfolds s) (line_longer (targets s) t h)

    -- no step is from a target of the last one's entity
    off_path : (f : Step) (fs : List Step) (t : ℕ) → Contains (targets f.index) t → IsRising (f ∷ fs) → IsOn (f ∷ fs) t → ⊥
    off_path f fs t h up (inl e) = omega (arith, rank_falls f.index t h, ap rank e)
    off_path f fs t h up (inr o) = omega (arith, rank_falls f.index t h, up.0 t o)

    -- what was found below the last step's entity has nothing in its line
    clear_below : (start : ℕ) (f : Step) (fs : List Step) (items : List ℕ) (t : ℕ) → IsSearched start (f ∷ fs) items → Contains (targets f.index) t → Contains items t → (hit t ≡ false) × IsClear t
    clear_below start f fs items t s there found =
        let m = s.missed t found in
        (m.0, elim m.1 [ inl on ↦ absurd (off_path f fs t there s.rising on) | inr clear ↦ clear ])

    pub IsSearched-begin : (start : ℕ) → IsSearched start (into start ∷ []) []
    IsSearched-begin start = record {
      same = ap (find hit) (unfolds start ∙ sym (append-nil (flat_map followed (targets start))));
      rising = (λ v h. absurd h, tt);
      passed = (λ t h. absurd (omega (arith, h.1)), tt);
      missed = λ v h. absurd (omega (arith, h.1));
      led = (ap (find hit) (unfolds start), tt);
      entered = tt;
    }

    -- nothing is found from the next target on
    passed_by : (start : ℕ) (f : Step) (fs : List Step) (items more : List ℕ) (i : Id) (t : ℕ) → f.place < length (ids f.index) → i ≡ get_or (ids f.index) f.place i → target_under r i ≡ Some t
        → (hit t ≡ false) × IsClear t → ((u : ℕ) → Contains items u → Contains more u) → Contains more t → ((v : ℕ) → Contains more v → Contains items v ⊎ (t ≡ v)) → ArePassed more fs
        → IsSearched start (f ∷ fs) items → IsSearched start (onward f ∷ fs) more
    passed_by start f fs items more i t l e is clear kept there within passed s = record {
      same = s.same ∙ ap (λ ts. find hit (flat_map followed ts ++ all_to_come fs)) (rest_with (ids f.index) f.place t i l e is)
          ∙ ap (find hit) (append_assoc (followed t) (to_come (onward f)) (all_to_come fs))
          ∙ find_skip (followed t) (to_come (onward f) ++ all_to_come fs) (nothing_at t clear.0 clear.1);
      rising = s.rising;
      passed = (λ u h. passed_one u (Contains-push_cases (targets_in (take f.place (ids f.index)) r) t u (rw (targets_more (ids f.index) r f.place i i l e, is) at h)), passed);
      missed = λ v h. missed_one v (within v h);
      led = IsLed-on f (onward f) fs refl (ap (λ ts. find hit (flat_map followed ts)) (rest_with (ids f.index) f.place t i l e is)
          ∙ find_skip (followed t) (to_come (onward f)) (nothing_at t clear.0 clear.1)) s.led;
      entered = AreMissed-on f (onward f) fs refl s.entered;
    }
      where
        passed_one : (u : ℕ) → Contains (targets_in (take f.place (ids f.index)) r) u ⊎ (t ≡ u) → Contains more u
        passed_one u (inl h) = kept u (s.passed.0 u h)
        passed_one u (inr q) = rw (← q) there

        missed_one : (v : ℕ) → Contains items v ⊎ (t ≡ v) → (hit v ≡ false) × (IsOn (onward f ∷ fs) v ⊎ IsClear v)
        missed_one v (inl h) = s.missed v h
        missed_one v (inr q) = rw (← q) (clear.0, inr clear.1)

    -- the next target was found before
    pub IsSearched-seen : (start : ℕ) (f : Step) (fs : List Step) (items : List ℕ) (i : Id) (t : ℕ) → f.place < length (ids f.index) → i ≡ get_or (ids f.index) f.place i → target_under r i ≡ Some t
        → Contains items t → IsSearched start (f ∷ fs) items → IsSearched start (onward f ∷ fs) items
    IsSearched-seen start f fs items i t l e is found s =
        let clear = clear_below start f fs items t s (target_there (ids f.index) r f.place t i l e is) found in
        passed_by start f fs items items i t l e is clear (λ u h. h) found (λ v h. inl h) s.passed.1 s

    -- it is known that nothing is found from the next target on
    pub IsSearched-known : (start : ℕ) (f : Step) (fs : List Step) (items : List ℕ) (i : Id) (t : ℕ) → f.place < length (ids f.index) → i ≡ get_or (ids f.index) f.place i → target_under r i ≡ Some t
        → find hit (followed t) ≡ None → IsSearched start (f ∷ fs) items → IsSearched start (onward f ∷ fs) (items ++ t ∷ [])
    IsSearched-known start f fs items i t l e is none s =
        passed_by start f fs items (items ++ t ∷ []) i t l e is (none_on t none) (λ u h. Contains-append_left items (t ∷ []) u h) (Contains-push items t)
        (λ v h. Contains-push_cases items t v h) (passed_more items t fs s.passed.1) s

    -- the next target is new, and isn't hit
    pub IsSearched-enter : (start : ℕ) (f : Step) (fs : List Step) (items : List ℕ) (i : Id) (t : ℕ) → f.place < length (ids f.index) → i ≡ get_or (ids f.index) f.place i → target_under r i ≡ Some t
        → hit t ≡ false → IsSearched start (f ∷ fs) items → IsSearched start (into t ∷ onward f ∷ fs) (items ++ t ∷ [])
    IsSearched-enter start f fs items i t l e is miss s = record {
      same = s.same ∙ ap (λ ts. find hit (flat_map followed ts ++ all_to_come fs)) (rest_with (ids f.index) f.place t i l e is)
          ∙ rw miss refl
          ∙ ap (find hit) (append_assoc (line t) (to_come (onward f)) (all_to_come fs))
          ∙ ap (λ ts. find hit (ts ++ (to_come (onward f) ++ all_to_come fs))) (unfolds t);
      rising = (λ v h. below v h, s.rising);
      passed = (λ u h. absurd (omega (arith, h.1)), (λ u h. passed_one u (Contains-push_cases (targets_in (take f.place (ids f.index)) r) t u (rw (targets_more (ids f.index) r f.place i i l e, is) at h)), passed_more items t fs s.passed.1));
      missed = λ v h. missed_one v (Contains-push_cases items t v h);
      led = (
        ap (find hit) (unfolds t),
        (
          led_here ∙ ap (λ ts. find hit (ts ++ to_come (onward f))) (unfolds t),
          IsLed-same (to_come f) (to_come (into t) ++ to_come (onward f)) fs (come_on ∙ ap (λ ts. find hit (ts ++ to_come (onward f))) (unfolds t)) s.led.1,
        ),
      );
      entered = (miss, AreMissed-on f (onward f) fs refl s.entered);
    }
      where
        come_on : find hit (to_come f) ≡ find hit (line t ++ to_come (onward f))
        come_on = ap (λ ts. find hit (flat_map followed ts)) (rest_with (ids f.index) f.place t i l e is) ∙ rw miss refl

        led_here : find hit (line f.index) ≡ find hit (line t ++ to_come (onward f))
        led_here = s.led.0 ∙ come_on

        there : Contains (targets f.index) t
        there = target_there (ids f.index) r f.place t i l e is

        below : (v : ℕ) → IsOn (onward f ∷ fs) v → rank t < rank v
        below v (inl q) = omega (arith, rank_falls f.index t there, ap rank q)
        below v (inr o) = omega (arith, rank_falls f.index t there, s.rising.0 v o)

        passed_one : (u : ℕ) → Contains (targets_in (take f.place (ids f.index)) r) u ⊎ (t ≡ u) → Contains (items ++ t ∷ []) u
        passed_one u (inl h) = Contains-append_left items (t ∷ []) u (s.passed.0 u h)
        passed_one u (inr q) = rw (← q) (Contains-push items t)

        missed_one : (v : ℕ) → Contains items v ⊎ (t ≡ v) → (hit v ≡ false) × (IsOn (into t ∷ onward f ∷ fs) v ⊎ IsClear v)
        missed_one v (inl h) = let m = s.missed v h in (m.0, elim m.1 [ inl on ↦ inl (inr on) | inr clear ↦ inr clear ])
        missed_one v (inr q) = (rw (← q) miss, inl (inl q))

    -- all ids of the last step's entity were gone through: nothing is in its line, and nothing is found from it on if it was entered
    IsSearched-clear : (start : ℕ) (f : Step) (fs : List Step) (items : List ℕ) → length (ids f.index) ≤ f.place → IsSearched start (f ∷ fs) items → IsClear f.index
    IsSearched-clear start f fs items l s =
        rw (unfolds f.index)
        (nothing_in (targets f.index) (λ t h. clear_below start f fs items t s h (s.passed.0 t (rw (take_all f.place (ids f.index) l) h))))

    pub IsSearched-left : (start : ℕ) (f : Step) (fs : List Step) (items : List ℕ) → length (ids f.index) ≤ f.place → IsSearched start (f ∷ fs) items → 0 < length fs → find hit (followed f.index) ≡ None
    IsSearched-left start f [] items l s some = absurd (omega (arith, some))
    IsSearched-left start f (g ∷ gs) items l s some = found_on f.index None (s.entered).0 (IsSearched-clear start f (g ∷ gs) items l s)

    pub IsSearched-leave : (start : ℕ) (f : Step) (fs : List Step) (items : List ℕ) → length (ids f.index) ≤ f.place → IsSearched start (f ∷ fs) items → IsSearched start fs items
    IsSearched-leave start f fs items l s = record {
      same = s.same ∙ ap (λ xs. find hit (flat_map followed (targets_in xs r) ++ all_to_come fs)) (drop_all f.place (ids f.index) l);
      rising = s.rising.1;
      passed = s.passed.1;
      missed = λ v h. missed_one v (s.missed v h);
      led = IsLed-same (to_come f) [] fs (ap (λ xs. find hit (flat_map followed (targets_in xs r))) (drop_all f.place (ids f.index) l)) s.led.1;
      entered = AreMissed-back f fs s.entered;
    }
      where
        nothing_left : IsClear f.index
        nothing_left = IsSearched-clear start f fs items l s

        missed_one : (v : ℕ) → (hit v ≡ false) × (IsOn (f ∷ fs) v ⊎ IsClear v) → (hit v ≡ false) × (IsOn fs v ⊎ IsClear v)
        missed_one v (miss, inr clear) = (miss, inr clear)
        missed_one v (miss, inl (inr on)) = (miss, inl on)
        missed_one v (miss, inl (inl q)) = (miss, inr (rw (← q) nothing_left))
