-- What the world counts of stored queries.
use Rattle.std.specs.Prelude.{◌≡◌, ℕ, ◌+◌, ◌<◌, ◌≤◌, ◌==◌, Bool, true, false, cond, List, [], ◌∷◌, All, map}
use Rattle.std.proofs.Common.{arith, get_or}
use Rattle.std.proofs.lemmas.List.Elements.{All-cons, All-nil}
use Rattle.std.proofs.lemmas.List.Folds.{list_any_at}
use Rattle.std.proofs.lemmas.List.Sums.{sum_by-cons}
use Rattle.ecs_model.specs.Map.{count_at}
use Rattle.ecs_model.specs.World.{WorldState}
use Rattle.ecs_model.proofs.Members.{eq_itself}
use Rattle.query_model.specs.Query.{Query}
use Rattle.query_meaning.specs.Standing.{IsPinnedIn}
use Rattle.watch_concerns.specs.Mentions.{mentions_index, times}
use Rattle.watch_stored.specs.Held.{Held}

-- how many queries mention an entity, with one more before the others
pub times-cons : (i : ℕ) (q : Query) (qs : List Query) → times i (q ∷ qs) ≡ cond (mentions_index q.mentions i) 1 0 + times i qs
times-cons i q qs = sum_by-cons (λ x. cond (mentions_index x.mentions i) 1 0) q qs

-- what the first of them mentions, one of them mentions
first_counts : (i : ℕ) (q : Query) (qs : List Query) → mentions_index q.mentions i ≡ true → 0 < times i (q ∷ qs)
first_counts i q qs h = by (mentions_index q.mentions i) h (times-cons i q qs)
  where
    by : (b : Bool) → b ≡ true → times i (q ∷ qs) ≡ cond b 1 0 + times i qs → 0 < times i (q ∷ qs)
    by true e counted = omega (arith, counted)
    by false e counted = cc

-- where the world counts them all, it counts each of them
pub all_pinned : (w : WorldState) (hs : List Held) → ((i : ℕ) → times i (map (λ h. h.query) hs) ≤ count_at w.pins i) → All (λ h. IsPinnedIn w h.query) hs
all_pinned w [] enough = All-nil (λ h. IsPinnedIn w h.query)
all_pinned w (h ∷ hs) enough =
    let others = map (λ (x : Held). x.query) hs in
    All-cons (λ x. IsPinnedIn w x.query) h hs
    (λ k d l.
    let i = ((get_or (h.query).mentions k d).entity).index in
    omega (arith, enough i, first_counts i h.query others (list_any_at (λ m. (m.entity).index == i) (h.query).mentions k d l (eq_itself i))))
    (all_pinned w hs (λ i. omega (arith, enough i, times-cons i h.query others)))
