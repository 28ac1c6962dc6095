use Rattle.std.proofs.Common.{rules, ◌≡◌, ℕ, zero, suc, ◌+◌, ◌<◌, List, [], ◌∷◌, ◌++◌, take, set, length, ℤ, Some, refl, sym, ap, ◌∙◌, arith, add-one, to_z, of_z}
use Rattle.std.specs.Int.{w128}
use Rattle.std.specs.List.{slice_get}
use Rattle.std.proofs.lemmas.List.{length-set, take_more_set}
use Rattle.ecs_model.specs.Bytes.{values_in}
use Rattle.ecs_schema.proofs.UnwrittenBytes.{length-values_in}
use Rattle.ecs_world.proofs.readers.decoded.Goals as goal

take_more_get : {X : Type 0} (xs : List X) (i : ℕ) (x : X) → slice_get xs i ≡ Some x → take (i + 1) xs ≡ take i xs ++ x ∷ []
take_more_get [] i x h = cc
take_more_get (y ∷ xs) zero x h = let same : y ≡ x = cc in ap (λ z. z ∷ []) same
take_more_get (y ∷ xs) (suc i) x h = rw add-one (ap (λ zs. y ∷ zs) (rw add-one at (take_more_get xs i x h)))

take_all : {X : Type 0} (xs : List X) (n : ℕ) → n ≡ length xs → take n xs ≡ xs
take_all [] zero h = refl
take_all [] (suc n) h = refl
take_all (x ∷ xs) zero h = absurd (omega arith)
take_all (x ∷ xs) (suc n) h = ap (λ zs. x ∷ zs) (take_all xs n (omega arith))

one_more : (numbers vs : List ℤ) (i : ℕ) (x y : ℤ) → i < 8 → length numbers ≡ 8 → take i numbers ≡ take i vs → slice_get vs i ≡ Some x → y ≡ x
    → (length (set numbers i y) ≡ 8) × (take (i + 1) (set numbers i y) ≡ take (i + 1) vs)
one_more numbers vs i x y lt long front at same =
    (length-set numbers i y ∙ long, take_more_set numbers i y (omega (arith, lt, long)) ∙ (λ k. front k ++ same k ∷ []) ∙ sym (take_more_get vs i x at))

pub loop-field-init : goal.loop-field-init
loop-field-init g c = (refl, refl)

pub loop-field-preserved : goal.loop-field-preserved
loop-field-preserved g c =
    let kept : to_z w128 (of_z w128 c.decode.result) ≡ c.decode.result = search rules in
    one_more c.loop-field.numbers (values_in c.args.schema.now c.args.bytes.now) c.loop-field.field c.decode.result _ (omega (arith, c.loop-field-test.true, c.field_count-count.ensures.few)) c.loop-field.invariant.0 c.loop-field.invariant.1 c.decode.ensures kept

pub returns : goal.returns
returns g c =
    let end : c.loop-field.field ≡ c.field_count-count.result = omega (arith, c.loop-field-test.false, c.loop-field.auto.field-end) in
    c.new.ensures ∙ ap (λ n. take n c.loop-field.numbers) (sym end) ∙ c.loop-field.invariant.1 ∙ take_all (values_in c.args.schema.now c.args.bytes.now) c.loop-field.field (end ∙ c.field_count-count.ensures.value ∙ sym (length-values_in c.args.schema.now c.args.bytes.now))
