-- Who isn't live holds nothing.
use Rattle.std.proofs.Common.{◌≡◌, ℕ, false, List, [], ◌∷◌, Option, None, Some, refl, sym, ◌∙◌, arith, true≢false}
use Rattle.std.specs.Prelude.{is_some, option_map}
use Rattle.std.specs.List.{Contains}
use Rattle.std.specs.Ordering.{nat_cmp}
use Rattle.ecs_id.specs.Id.{Id}
use Rattle.ecs_model.specs.Links.{AreLinks}
use Rattle.ecs_model.specs.Map.{Map, has_key, keys}
use Rattle.std.specs.Cmp.{nat_cmp_total}
use Rattle.ecs_model.proofs.steps.Facts.{there_key}

pub none_in : {X : Type 0} (xs : List X) → ((x : X) → Contains xs x → ⊥) → xs ≡ []
none_in [] none = refl
none_in (x ∷ xs) none = absurd (none x (0, omega arith, refl))

pub nothing_held : (n : ℕ) (live : Map ℕ ℕ) (ids : ℕ → List Id) → AreLinks n (keys live) ids → (e : ℕ) → has_key nat_cmp live e ≡ false → ids e ≡ []
nothing_held n live ids all e dead = none_in (ids e) (λ i c. true≢false (sym (there_key nat_cmp nat_cmp_total live e (all.held e i c)) ∙ dead))

pub is_none : {X Y : Type 0} (f : X → Y) (o : Option X) → None ≡ option_map f o → is_some o ≡ false
is_none f None e = refl
is_none f (Some x) e = absurd cc
