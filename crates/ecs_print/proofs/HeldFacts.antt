-- The facts of an entity as they are printed, from the bytes of their values.
use Rattle.std.specs.Prelude.{◌≡◌, ℕ, codes, zero, suc, ◌+◌, Bool, true, false, List, [], ◌∷◌, ◌++◌, flat_map, take, length, slice_get, if◌then◌else◌, IfSome, IsTrue, Option, Some, None, option_map}
use Rattle.std.specs.Option.{option_or}
use Rattle.std.specs.Ordering.{nat_cmp}
use Rattle.std.proofs.Common.{refl, ap, sym, ◌∙◌, add-one, append_assoc, arith}
use Rattle.std.proofs.Math.Seq.{take-suc}
use Rattle.std.proofs.lemmas.List.{flat_map_more}
use Rattle.std.proofs.lemmas.Option.{get_or_from_slice_get, slice_get_within}
use Rattle.ecs_id.specs.Id.{Id, plain, pair, id_cmp}
use Rattle.ecs_model.specs.Map.{keys, value_at}
use Rattle.ecs_model.specs.Output.{fact_text}
use Rattle.ecs_model.specs.Print.{id_text, value_text}
use Rattle.ecs_model.specs.Schema.{Schema, schema_fault}
use Rattle.ecs_model.specs.steps.WellFormed.{IsWellFormed}
use Rattle.ecs_model.specs.World.{WorldState, holds, ids_of, is_live, pair_is_tag, type_of_id, value_of}
use Rattle.ecs_schema.proofs.NumberPlaces.{size_of-first}
use Rattle.ecs_archetypes.specs.Holdings.{Cells}
use Rattle.ecs_world.specs.State.{AreFactsOf, byte_count, value_in}
use Rattle.ecs_world.proofs.BaseCopies.{some_width}
use Rattle.ecs_print.specs.Stops.{StopsWithin}
use Rattle.ecs_print.specs.Values.{ended_text, held_text}
use Rattle.ecs_print.proofs.Pieces.{stops_in_item}
use Rattle.ecs_print.proofs.Stops.{stops_behind, stops_sooner}

-- a fact is printed by the bytes of its value
fact_by_bytes : (w : WorldState) (e : ℕ) (cells : Cells) (i : Id) (bytes : List ℕ) → AreFactsOf w e cells → value_at id_cmp cells i ≡ Some bytes → codes " [" ++ held_text w i bytes ≡ fact_text w e i ++ codes " ["
fact_by_bytes w e cells i bytes are at =
    let value = value_text (value_of w e i) in
    ap (λ v. codes " [" ++ (id_text w i ++ (value_text v ++ codes "] ["))) (sym (ap (option_map (value_in (type_of_id w i))) at) ∙ are.value i)
    ∙ sym (append_assoc (codes " [" ++ id_text w i ++ value) (codes "]") (codes " [") ∙ append_assoc (codes " [" ++ id_text w i) value (codes "] ["))

abbrev pair_of : Id → List ℕ → Id × List ℕ
pair_of i bytes = (i, bytes)

key_at : (cells : Cells) (k : ℕ) (i : Id) (bytes : List ℕ) → slice_get cells k ≡ Some (pair_of i bytes) → slice_get (keys cells) k ≡ Some i
key_at [] k i bytes h = cc
key_at (c ∷ cells) zero i bytes h = let same : c ≡ pair_of i bytes = cc in ap (λ z. Some z.0) same
key_at (c ∷ cells) (suc k) i bytes h = key_at cells k i bytes h

-- one more fact
pub fact_more : (w : WorldState) (e : ℕ) (cells : Cells) (k : ℕ) (i : Id) (bytes start old new : List ℕ) → AreFactsOf w e cells → slice_get cells k ≡ Some (pair_of i bytes) → value_at id_cmp cells i ≡ Some bytes
    → old ≡ start ++ flat_map (fact_text w e) (take k (ids_of w e)) ++ codes " [" → new ≡ old ++ held_text w i bytes → new ≡ start ++ flat_map (fact_text w e) (take (k + 1) (ids_of w e)) ++ codes " ["
fact_more w e cells k i bytes start old new are here at before now =
    let ids = ids_of w e in
    let text = fact_text w e in
    let done = flat_map text (take k ids) in
    let listed : slice_get ids k ≡ Some i = ap (λ z. slice_get z k) (sym are.ids) ∙ key_at cells k i bytes here in
    let more : start ++ done ++ text i ≡ start ++ flat_map text (take (k + 1) ids) =
    flat_map_more text start (take k ids) i
    ∙ ap (λ t. start ++ flat_map text t)
    (ap (λ x. take k ids ++ x ∷ []) (sym (get_or_from_slice_get ids k i i listed)) ∙ sym (take-suc ids k i (slice_get_within ids k i listed)) ∙ ap (λ n. take n ids) (sym (add-one k))) in
    now ∙ ap (λ t. t ++ held_text w i bytes) before ∙ append_assoc (start ++ done) (codes " [") (held_text w i bytes)
    ∙ ap (λ t. start ++ done ++ t) (fact_by_bytes w e cells i bytes are at) ∙ sym (append_assoc (start ++ done) (text i) (codes " [")) ∙ ap (λ t. t ++ codes " [") more

-- one that stops in the midst of its id
pub fact_stops : (w : WorldState) (e : ℕ) (cells : Cells) (k : ℕ) (i : Id) (bytes start mid now : List ℕ) → AreFactsOf w e cells → slice_get cells k ≡ Some (pair_of i bytes)
    → mid ≡ start ++ flat_map (fact_text w e) (take k (ids_of w e)) ++ codes " [" → StopsWithin mid now (id_text w i) → StopsWithin start now (flat_map (fact_text w e) (ids_of w e))
fact_stops w e cells k i bytes start mid now are here before stops =
    let ids = ids_of w e in
    let done = start ++ flat_map (fact_text w e) (take k ids) in
    let value = value_text (value_of w e i) in
    let listed : slice_get ids k ≡ Some i = ap (λ z. slice_get z k) (sym are.ids) ∙ key_at cells k i bytes here in
    let begun : StopsWithin done now (codes " [" ++ id_text w i) = stops_behind done (codes " [") mid now (id_text w i) before stops in
    let whole : StopsWithin done now (fact_text w e i) = stops_sooner done now (codes " [" ++ id_text w i ++ value) (codes "]") (stops_sooner done now (codes " [" ++ id_text w i) value begun) in
    stops_in_item (fact_text w e) ids k i start done now (slice_get_within ids k i listed) listed refl whole

-- the fields of a type are no fault
sound_at : (w : WorldState) → IsWellFormed w → (c : ℕ) → IfSome (value_at nat_cmp w.schemas c) (λ fs. schema_fault fs ≡ None)
sound_at w is c = second (value_at nat_cmp w.schemas c) (IsTrue (is_live w c)) ((is.live).schemas c)
  where
    second : (o : Option Schema) (L : Type 0) → IfSome o (λ fs. L × (schema_fault fs ≡ None)) → IfSome o (λ fs. schema_fault fs ≡ None)
    second None L h = tt
    second (Some fs) L h = h.1

sound_type : (w : WorldState) → IsWellFormed w → (i : Id) → IfSome (type_of_id w i) (λ fs. schema_fault fs ≡ None)
sound_type w is (plain c) = sound_at w is c
sound_type w is (pair r t) = by (holds w r (plain pair_is_tag)) (value_at nat_cmp w.schemas r) (value_at nat_cmp w.schemas t) (sound_at w is r) (sound_at w is t)
  where
    by : (b : Bool) (o p : Option Schema) → IfSome o (λ fs. schema_fault fs ≡ None) → IfSome p (λ fs. schema_fault fs ≡ None) → IfSome (if b then None else option_or o p) (λ fs. schema_fault fs ≡ None)
    by true o p h k = tt
    by false None p h k = k
    by false (Some fs) p h k = h

-- an id whose values have no bytes has no type
pub no_type : (w : WorldState) → IsWellFormed w → (i : Id) → byte_count (type_of_id w i) ≡ 0 → type_of_id w i ≡ None
no_type w is i none = by (type_of_id w i) (sound_type w is i) none
  where
    by : (o : Option Schema) → IfSome o (λ fs. schema_fault fs ≡ None) → byte_count o ≡ 0 → o ≡ None
    by None h n = refl
    by (Some []) h n = cc
    by (Some (f ∷ fs)) h n = absurd (omega (arith, size_of-first f fs, some_width f.kind))

-- and its value is printed as nothing
pub nothing_printed : (w : WorldState) → IsWellFormed w → (i : Id) (bytes : List ℕ) → length bytes ≡ byte_count (type_of_id w i) → length bytes ≡ 0 → codes "] [" ≡ ended_text w i bytes
nothing_printed w is i bytes size none = sym (ap (λ o. value_text (Some (value_in o bytes)) ++ codes "] [") (no_type w is i (sym size ∙ none)))
