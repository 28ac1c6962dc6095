-- The test of entities.
use Rattle.std.proofs.Common.{◌≡◌, ◌==◌, true, ap}
use Rattle.std.specs.Cmp.Derive.{both_true}
use Rattle.std.proofs.lemmas.Bool.Decides.{Decides-eqb}
use Rattle.std.proofs.lemmas.Bool.{and_parts}
use Rattle.ecs_id.specs.declared.EntityId.{EntityId}
use Rattle.name_index.specs.Names.{entity_eq}

-- the test of entities decides whether they are one
pub same_entity : (x y : EntityId) → entity_eq x y ≡ true → x ≡ y
same_entity x y h =
    let tests = and_parts (x.index == y.index) (x.generation == y.generation) h in
    λ i. record { index = (Decides-eqb x.index y.index).0 tests.0 i; generation = (Decides-eqb x.generation y.generation).0 tests.1 i }

pub entity_eq_true : (x y : EntityId) → x ≡ y → entity_eq x y ≡ true
entity_eq_true x y e = both_true ((Decides-eqb x.index y.index).1 (ap (λ v. v.index) e)) ((Decides-eqb x.generation y.generation).1 (ap (λ v. v.generation) e))
