-- Values and the types of their ids.
use Rattle.std.specs.Prelude.{◌≡◌, ℕ, Bool, true, ◌&&◌, List, [], ◌∷◌, length, ℤ, pos, Option, Some, None, IsTrue, if◌then◌else◌}
use Rattle.std.specs.List.{list_all}
use Rattle.std.specs.Option.{option_map_or, option_or}
use Rattle.std.specs.Ordering.{nat_cmp}
use Rattle.std.proofs.Common.{refl}
use Rattle.ecs_id.specs.Id.{Id, plain, pair, mentioned}
use Rattle.ecs_model.specs.declared.Kind.{Kind}
use Rattle.ecs_model.specs.declared.Kind.TheVariants.{I8, U8, I16, U16, I32, U32, I64, U64}
use Rattle.ecs_model.specs.Map.{value_at}
use Rattle.ecs_model.specs.Schema.{Schema, zeros, all_fit, fits_kind}
use Rattle.ecs_model.specs.World.{WorldState, holds, type_of_id, pair_is_tag}
use Rattle.ecs_model.proofs.Maps.{both_true}

-- the value is one of this type
abbrev pub IsTyped : Option Schema → List ℤ → Type 0
IsTyped o v = (length v ≡ length (option_map_or zeros o [])) × IsTrue (option_map_or (λ fs. all_fit fs v) o true)

zero_fits : (k : Kind) → fits_kind k (pos 0) ≡ true
zero_fits I8 = refl
zero_fits U8 = refl
zero_fits I16 = refl
zero_fits U16 = refl
zero_fits I32 = refl
zero_fits U32 = refl
zero_fits I64 = refl
zero_fits U64 = refl

zeros_fit : (fs : Schema) → all_fit fs (zeros fs) ≡ true
zeros_fit [] = refl
zeros_fit (f ∷ fs) = λ i. zero_fits f.kind i && zeros_fit fs i

-- a new value is one of its type
pub zeros_typed : (o : Option Schema) → IsTyped o (option_map_or zeros o [])
zeros_typed None = (refl, refl)
zeros_typed (Some fs) = (refl, zeros_fit fs)

-- where the indexes of an id have the same fields, and the same relationships have `PairIsTag`, the id has the same type
pub same_type : (w v : WorldState) (p : ℕ → Bool) (id : Id) → list_all p (mentioned id) ≡ true
    → ((j : ℕ) → p j ≡ true → value_at nat_cmp v.schemas j ≡ value_at nat_cmp w.schemas j)
    → ((r : ℕ) → holds v r (plain pair_is_tag) ≡ holds w r (plain pair_is_tag)) → type_of_id v id ≡ type_of_id w id
same_type w v p (plain c) h s k = s c (both_true (p c) true h).0
same_type w v p (pair r t) h s k =
    let first = both_true (p r) (p t && true) h in
    let second = both_true (p t) true first.1 in
    λ i. if k r i then None else option_or (s r first.0 i) (s t second.0 i)
