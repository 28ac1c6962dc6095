-- The order of facts is one, and what the comparisons of facts show.
use Rattle.std.specs.Prelude.{◌≡◌, ℕ, refl}
use Rattle.std.specs.Cmp.{IsEquivalence, IsTotalOrder}
use Rattle.std.specs.Ordering.{nat_cmp, ordering_then}
use Rattle.std.proofs.lemmas.Cmp.{nat_cmp_total, on_total, then_total, eq_by_cmp_equiv}
use Rattle.ecs_id.specs.Id.{Id, id_cmp, id_cmp_total}
use Rattle.ecs_model.specs.World.{Key, key_cmp, key_eq}

pub key_cmp_total : IsTotalOrder key_cmp
unfolding key_cmp
key_cmp_total = then_total (on_total (λ (k : Key). k.0) nat_cmp_total) (on_total (λ (k : Key). k.1) id_cmp_total)

pub key_eq_equiv : IsEquivalence key_eq
key_eq_equiv = eq_by_cmp_equiv key_cmp_total

pub key_cmp_seen : (e f : ℕ) (i j : Id) → ordering_then (nat_cmp e f) (id_cmp i j) ≡ key_cmp (e, i) (f, j)
unfolding key_cmp
key_cmp_seen e f i j = refl
