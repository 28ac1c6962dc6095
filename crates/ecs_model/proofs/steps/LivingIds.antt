-- What follows of the entities and ids of a well-formed world.
use Rattle.std.specs.List.{All, Contains, list_all, list_any}
use Rattle.std.proofs.Common.{◌≡◌, ℕ, suc, ◌<◌, Bool, true, false, ◌&&◌, ◌||◌, List, [], ◌∷◌, get_or, is_some, refl, sym, ap, ◌∙◌, inl, inr, arith}
use Rattle.std.proofs.lemmas.Bool.Decides.{nat_tests}
use Rattle.std.proofs.lemmas.List.Elements.{Contains-append_right, Contains-get_or}
pub use Rattle.std.proofs.lemmas.Bool.{false_from_ne_true as refuted}
use Rattle.ecs_id.specs.Id.{Id, IsIndex, mentioned, last_index}
use Rattle.ecs_model.specs.Links.{AreLinks}
use Rattle.ecs_model.specs.World.{WorldState, first_world, is_built_in, is_live, entities, holds, ids_of}
use Rattle.ecs_model.specs.steps.WellFormed.{IsWellFormed}
use Rattle.ecs_model.specs.steps.StepLaws.{ZeroIsNothing}
use Rattle.ecs_model.proofs.FirstWorld.{facts_live, live_is_built_in}
use Rattle.ecs_model.proofs.Members.{both, head_or_tail}
use Rattle.ecs_model.proofs.steps.Facts.{listed_live, live_listed, listed_held}

-- what all pass, each passes
pub each_passes : {A : Type 0} (p : A → Bool) (xs : List A) → list_all p xs ≡ true → (x : A) → Contains xs x → p x ≡ true
each_passes p [] h x c = absurd (omega (arith, c.1))
each_passes p (y ∷ ys) h x c =
    let parts = both (p y) (list_all p ys) h in elim (head_or_tail y x ys c) [ inl e ↦ rw (← e) parts.0 | inr t ↦ each_passes p ys parts.1 x t ]

all_are : {A : Type 0} (P : A → Type 0) (xs : List A) → ((x : A) → Contains xs x → P x) → All P xs
all_are P xs f k d l = f (get_or xs k d) (Contains-get_or xs k d l)

built_in_bounds : (e : ℕ) → is_built_in e ≡ true → IsIndex e
built_in_bounds e h = (grind (arith, nat_tests), grind (arith, nat_tests))

module _ (w : WorldState) (h : IsWellFormed w) where
  -- a live entity has an index that an id can have
  pub live_index : (e : ℕ) → is_live w e ≡ true → IsIndex e
  live_index e l = elim ((h.indexes).given_out e l) [ inl b ↦ built_in_bounds e b | inr p ↦ (omega (arith, p.0), p.1) ]

  -- who holds an id is live, and so is all that it mentions
  pub holder_lives : (e : ℕ) (i : Id) → holds w e i ≡ true → is_live w e ≡ true
  holder_lives e i p = ((h.live).facts e i p).0

  pub mentioned_lives : (e : ℕ) (i : Id) → holds w e i ≡ true → (x : ℕ) → Contains (mentioned i) x → is_live w x ≡ true
  mentioned_lives e i p x c = each_passes (is_live w) (mentioned i) ((h.live).facts e i p).1 x c

  -- the live entities and the ids of each fit together, below any size that is above them
  pub links_below : (n : ℕ) → ((e : ℕ) → is_live w e ≡ true → e < n) → AreLinks n (entities w) (ids_of w)
  links_below n small = record {
    indexes = λ e c. live_index e (listed_live w e c);
    below = λ e c. small e (listed_live w e c);
    held = λ e i c. live_listed w e (holder_lives e i (listed_held w e i c));
    live = λ e i c. all_are (Contains (entities w)) (mentioned i) (λ x m. live_listed w x (mentioned_lives e i (listed_held w e i c) x m));
  }

  pub are_links : AreLinks (suc last_index) (entities w) (ids_of w)
  are_links = links_below (suc last_index) (λ e l. let i = live_index e l in omega (arith, i.1))

-- what a built-in entity holds mentions built-in entities alone
pub built_in_mentions : (w : WorldState) → IsWellFormed w → (e : ℕ) (i : Id) → is_built_in e ≡ true → holds w e i ≡ true → (x : ℕ) → Contains (mentioned i) x → is_built_in x ≡ true
built_in_mentions w h e i b held x c =
    let first = facts_live e i (sym (ap is_some ((h.built_in).facts e i b)) ∙ held) in
    live_is_built_in x (each_passes (is_live first_world) (mentioned i) first.1 x c)

-- a list of which each passes
pub all_pass : {A : Type 0} (p : A → Bool) (xs : List A) → ((x : A) → Contains xs x → p x ≡ true) → list_all p xs ≡ true
all_pass p [] f = refl
all_pass p (x ∷ xs) f = λ k. f x (0, omega arith, refl) k && all_pass p xs (λ y c. f y (Contains-append_right (x ∷ []) xs y c)) k

-- and one of which none does
pub none_pass : {A : Type 0} (p : A → Bool) (xs : List A) → ((x : A) → Contains xs x → p x ≡ false) → list_any p xs ≡ false
none_pass p [] f = refl
none_pass p (x ∷ xs) f = λ k. f x (0, omega arith, refl) k || none_pass p xs (λ y c. f y (Contains-append_right (x ∷ []) xs y c)) k

pub zero_is_nothing : ZeroIsNothing
zero_is_nothing w h = (refuted (is_live w 0) none, λ e i p c. elim (head_or_tail e 0 (mentioned i) c) [ inl q ↦ none (rw q at (holder_lives w h e i p)) | inr m ↦ none (mentioned_lives w h e i p 0 m) ])
  where
    none : is_live w 0 ≡ true → ⊥
    none l = let i = live_index w h 0 l in omega (arith, i.0)
