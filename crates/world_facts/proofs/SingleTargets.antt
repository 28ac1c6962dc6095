-- The way up where an entity has one target: its line is the target, followed by the target's own line.
use Rattle.std.proofs.Common.{◌≡◌, ℕ, ◌<◌, Bool, true, false, List, [], ◌∷◌, length, Some, None, if◌then◌else◌, refl, sym, ap, ◌∙◌, arith}
use Rattle.std.specs.List.{find}
use Rattle.std.proofs.lemmas.List.{append-nil}
use Rattle.ecs_id.specs.Id.{Id}
use Rattle.ecs_model.specs.Links.{AreLinks, IsAcyclic, ancestor_line, targets_in, upward}
use Rattle.ecs_model.proofs.ShortLines.{lines_unfold}
use Rattle.world_facts.specs.Climbing.{targets_as}
use Rattle.world_facts.specs.declared.climb.Targets.{Targets}
use Rattle.world_facts.specs.declared.climb.Targets.TheVariants.{Nothing, One, Several}
use Rattle.world_facts.proofs.LiveTargets.{source_lives}
use Rattle.world_facts.proofs.Targets.{no_target, one_target, several_targets}

module _ {n : ℕ} {entities : List ℕ} {ids : ℕ → List Id} (links : AreLinks n entities ids) (r : ℕ) where
  -- who has a target lives
  pub forks_inside : (s : ℕ) (own : List Id) → own ≡ ids s → Several ≡ targets_as (targets_in own r) → s < n
  forks_inside s own here e =
      let there = several_targets (upward ids r s) (rw (← here) e) in
      links.below s (source_lives links r s there.0 there.1)

  pub start_inside : (own : Bool) (s : ℕ) → Several ≡ targets_as (if own then [] else targets_in (ids s) r) → s < n
  start_inside true s e = absurd cc
  start_inside false s e = forks_inside s (ids s) refl e

  -- ids of which none is a hit give the targets
  pub seen : (hit : Bool) (targets all : Targets) → Some targets ≡ (if hit then None else Some all) → (false ≡ hit) × (targets ≡ all)
  seen true targets all e = absurd cc
  seen false targets all e = (refl, cc)

  module _ (acyclic : IsAcyclic ids r) where
    abbrev above : ℕ → List ℕ
    above s = ancestor_line ids entities r s

    -- no target ends the line
    ends : (s : ℕ) → upward ids r s ≡ [] → above s ≡ []
    ends s none = rw (lines_unfold n entities ids links r acyclic s, none) refl

    -- a single target begins it
    goes_on : (s t : ℕ) → upward ids r s ≡ t ∷ [] → above s ≡ t ∷ above t
    goes_on s t one = rw (lines_unfold n entities ids links r acyclic s, one) (ap (λ ts. t ∷ ts) (append-nil (above t)))

    pub falls : (s t : ℕ) (own : List Id) → own ≡ ids s → One t ≡ targets_as (targets_in own r) → length (above t) < length (above s)
    falls s t own here e = omega (arith, ap length (goes_on s t (rw (← here) (one_target (targets_in own r) t e))))

    -- what is met from an entity on
    abbrev from : ℕ → List ℕ
    from s = s ∷ above s

    -- the first step alone
    module _ (hit : ℕ → Bool) (s : ℕ) (own : List Id) (here : own ≡ ids s) where
      pub nothing_above : Nothing ≡ targets_as (targets_in own r) → None ≡ find hit (above s)
      nothing_above e = sym (ap (find hit) (ends s (rw (← here) (no_target (targets_in own r) e))))

      pub one_above : (t : ℕ) → One t ≡ targets_as (targets_in own r) → find hit (from t) ≡ find hit (above s)
      one_above t e = sym (ap (find hit) (goes_on s t (rw (← here) (one_target (targets_in own r) t e))))

    -- what is found from where the climb began is what is found from where it is
    module _ (hit : ℕ → Bool) (start s : ℕ) (climbed : find hit (from start) ≡ find hit (from s)) where
      pub hit_here : true ≡ hit s → Some s ≡ find hit (from start)
      hit_here h = sym (climbed ∙ rw (← h) refl)

      pub missed_here : false ≡ hit s → find hit (from start) ≡ find hit (above s)
      missed_here m = climbed ∙ rw (← m) refl

      module _ (own : List Id) (here : own ≡ ids s) (missed : false ≡ hit s) where
        pub none_above : Nothing ≡ targets_as (targets_in own r) → None ≡ find hit (from start)
        none_above e = nothing_above hit s own here e ∙ sym (missed_here missed)

        pub forked : (find hit (above s) ≡ find hit (from start)) × (find hit (above s) ≡ find hit (from s))
        forked = (sym (missed_here missed), rw (← missed) refl)

        pub onward : (t : ℕ) → One t ≡ targets_as (targets_in own r) → find hit (from start) ≡ find hit (from t)
        onward t e = missed_here missed ∙ sym (one_above hit s own here t e)
