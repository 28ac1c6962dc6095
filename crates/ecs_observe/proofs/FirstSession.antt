-- The first session.
use Rattle.std.specs.Prelude.{◌≡◌, ℕ, List, [], All, AllPairs, map, length, None, IfSome, option_map, flat_map}
use Rattle.std.proofs.Common.{refl, ap, sym, subst, ◌∙◌, ◌≢◌, arith}
use Rattle.std.proofs.lemmas.List.Elements.{All-nil}
use Rattle.ecs_model.specs.Map.{count_at}
use Rattle.ecs_model.specs.World.{WorldState, first_world}
use Rattle.ecs_model.specs.stored.Session.{first_session}
use Rattle.watch_concerns.specs.Mentions.{times}
use Rattle.watch_concerns.specs.Since.{IsAfter}
use Rattle.watch_stored.specs.Held.{Held, IsHeld, IsNow, WasNow, told_to}
use Rattle.ecs_observe.specs.Standing.{IsSession, Standing, session_of, stored_of}

none_pinned : (i : ℕ) → count_at first_world.pins i ≡ 0
unfolding first_world
none_pinned i = refl

module _ (s : Standing) (first : (s.world).state ≡ first_world) (empty : s.stored ≡ []) (none : s.waiting ≡ None) where
  pub first_is_session : IsSession s
  first_is_session = record {
    held = subst (All (IsHeld (s.world).state)) (sym empty) (All-nil (IsHeld (s.world).state));
    pinned = λ i. ap (λ (w : WorldState). count_at w.pins i) first ∙ (none_pinned i ∙ ap (λ (hs : List Held). times i (map (λ h. h.query) hs)) (sym empty));
    few = let none_stored : length s.stored ≡ 0 = ap length empty in omega (arith, none_stored);
    once = subst (AllPairs (λ a b. a.name ≢ b.name)) (sym empty) (λ i j d low high. absurd (omega arith));
    now = λ e. subst (All (IsNow (s.world).state)) (sym empty) (All-nil (IsNow (s.world).state));
    after = subst (λ o. IfSome o (IsAfter (s.world).state)) (sym none) tt;
    before = subst (λ o. IfSome o (λ changed. All (WasNow (s.world).state changed) s.stored)) (sym none) tt;
  }

  pub first_is_first : session_of s ≡ first_session
  unfolding session_of
  first_is_first =
      let stored : map stored_of s.stored ≡ [] = ap (map stored_of) empty in
      let waiting : option_map (λ changed. flat_map (told_to (s.world).state changed) s.stored) s.waiting ≡ None
      = ap (option_map (λ changed. flat_map (told_to (s.world).state changed) s.stored)) none in
      λ j. record { world = first j; stored = stored j; waiting = waiting j }
