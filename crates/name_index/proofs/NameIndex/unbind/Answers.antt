use Rattle.std.proofs.Common.{◌≡◌, Some, None, List, ℕ, cond, option_map, is_some, sym, ap, subst, ◌∙◌, rules}
use Rattle.std.specs.Prelude.{nat_eq}
use Rattle.std.specs.Cmp.Lexicographic.{nat_list_eq_equiv, pointwise}
use Rattle.std.specs.HashMap.{get}
use Rattle.std.specs.Option.{option_or}
use Rattle.std.specs.String.{string_bytes}
use Rattle.std.proofs.lemmas.Map.Entries.{hash_map_get_place}
use Rattle.std.proofs.lemmas.Option.{slice_get_within}
use Rattle.name_index.specs.Names.{IsUnnamed, entity_eq}
use Rattle.name_index.specs.Texts.{first_in, first_of, other_of}
use Rattle.name_index.proofs.NamesLemmas.{apart_taken, freed, kept_left, left_by, others, taken, tells, unnamed, was_named}
use Rattle.name_index.proofs.NameIndex.unbind.Goals as goal

pub take-requires : goal.take-requires
take-requires g c = slice_get_within c.self.inside.short.entries c.in-Some.place (c.in-Some.field-0-1.now, c.args.entity) c.in-Some.ensures.1

pub take_out-requires-clause-apart : goal.take_out-requires-clause-apart
take_out-requires-clause-apart g c = c.self.invariant.apart

pub take_out-requires-clause-unique : goal.take_out-requires-clause-unique
take_out-requires-clause-unique g c = c.self.invariant.unique

pub take_out-requires-clause-held : goal.take_out-requires-clause-held
take_out-requires-clause-held g c =
    let n : List ℕ = c.as_str.result.now in
    let kept : other_of c.self.inside.texts c.args.entity ≡ Some n = sym c.remove.ensures.value ∙ ap (option_map string_bytes) c.in-Some-remove.is ∙ ap Some (sym c.as_str.ensures.value) in
    ap is_some (c.self.invariant.tells.apart n c.args.entity kept)

pub invariant_of-self : goal.invariant_of-self
invariant_of-self g c =
    let n : List ℕ = c.in-Some.field-0-1.now in
    let place : ℕ = c.in-Some.place in
    let has : get (pointwise nat_eq) c.self.inside.short n ≡ Some c.args.entity = hash_map_get_place nat_list_eq_equiv c.self.inside.short place n c.args.entity c.self.invariant.unique c.in-Some.ensures.1 in
    let u = c.take.ensures.removed (n, c.args.entity) c.in-Some.ensures.1 in
    let is_e = (tells c.args.self.now c.self.inside.short c.self.inside.long c.self.inside.texts c.self.view_is c.self.invariant).placed n c.args.entity c.in-Some.ensures.0 in
    let gone = taken c.self.inside.short c.take.new.short c.self.inside.long c.self.invariant.apart place n c.args.entity has u in
    kept_left c.args.self.now c.self.inside.short c.take.new.short c.self.inside.long c.self.inside.long c.self.inside.texts c.self.view_is c.self.invariant n c.args.entity is_e gone c.forget.new.self (apart_taken c.self.inside.short c.take.new.short c.self.inside.long c.self.invariant.apart place n c.args.entity has u) c.take.ensures.unique
    (λ q f differs h. ap (λ ps. first_in ps c.take.new.short.entries f) c.forget.ensures.places ∙ c.take.ensures.stay (n, c.args.entity) c.in-Some.ensures.1 q f differs h)
    (λ f. c.forget.ensures.others f ∙ ap (cond (entity_eq c.args.entity f) None) (c.take.ensures.others f))

pub returns-in-Some-clause-freed : goal.returns-in-Some-clause-freed
returns-in-Some-clause-freed g c =
    let n : List ℕ = c.in-Some.field-0-1.now in
    let place : ℕ = c.in-Some.place in
    let has : get (pointwise nat_eq) c.self.inside.short n ≡ Some c.args.entity = hash_map_get_place nat_list_eq_equiv c.self.inside.short place n c.args.entity c.self.invariant.unique c.in-Some.ensures.1 in
    let u = c.take.ensures.removed (n, c.args.entity) c.in-Some.ensures.1 in
    let is_e = (tells c.args.self.now c.self.inside.short c.self.inside.long c.self.inside.texts c.self.view_is c.self.invariant).placed n c.args.entity c.in-Some.ensures.0 in
    let gone = taken c.self.inside.short c.take.new.short c.self.inside.long c.self.invariant.apart place n c.args.entity has u in
    freed c.args.self.now c.self.inside.short c.take.new.short c.self.inside.long c.self.inside.long c.self.inside.texts c.self.view_is c.self.invariant n c.args.entity is_e gone

pub returns-in-Some-clause-others : goal.returns-in-Some-clause-others
returns-in-Some-clause-others g c =
    let n : List ℕ = c.in-Some.field-0-1.now in
    let place : ℕ = c.in-Some.place in
    let has : get (pointwise nat_eq) c.self.inside.short n ≡ Some c.args.entity = hash_map_get_place nat_list_eq_equiv c.self.inside.short place n c.args.entity c.self.invariant.unique c.in-Some.ensures.1 in
    let u = c.take.ensures.removed (n, c.args.entity) c.in-Some.ensures.1 in
    let is_e = (tells c.args.self.now c.self.inside.short c.self.inside.long c.self.inside.texts c.self.view_is c.self.invariant).placed n c.args.entity c.in-Some.ensures.0 in
    let gone = taken c.self.inside.short c.take.new.short c.self.inside.long c.self.invariant.apart place n c.args.entity has u in
    others c.args.self.now c.self.inside.short c.take.new.short c.self.inside.long c.self.inside.long c.self.inside.texts c.self.view_is c.self.invariant n c.args.entity is_e gone

pub returns-in-Some-clause-named : goal.returns-in-Some-clause-named
returns-in-Some-clause-named g c =
    let n : List ℕ = c.in-Some.field-0-1.now in
    let place : ℕ = c.in-Some.place in
    let has : get (pointwise nat_eq) c.self.inside.short n ≡ Some c.args.entity = hash_map_get_place nat_list_eq_equiv c.self.inside.short place n c.args.entity c.self.invariant.unique c.in-Some.ensures.1 in
    let u = c.take.ensures.removed (n, c.args.entity) c.in-Some.ensures.1 in
    let is_e = (tells c.args.self.now c.self.inside.short c.self.inside.long c.self.inside.texts c.self.view_is c.self.invariant).placed n c.args.entity c.in-Some.ensures.0 in
    let gone = taken c.self.inside.short c.take.new.short c.self.inside.long c.self.invariant.apart place n c.args.entity has u in
    left_by c.args.self.now c.self.inside.short c.take.new.short c.self.inside.long c.self.inside.long c.self.inside.texts c.self.view_is c.self.invariant n c.args.entity is_e gone

pub returns-in-Some-clause-unnamed : goal.returns-in-Some-clause-unnamed
returns-in-Some-clause-unnamed g c =
    let n : List ℕ = c.in-Some.field-0-1.now in
    let place : ℕ = c.in-Some.place in
    let has : get (pointwise nat_eq) c.self.inside.short n ≡ Some c.args.entity = hash_map_get_place nat_list_eq_equiv c.self.inside.short place n c.args.entity c.self.invariant.unique c.in-Some.ensures.1 in
    let u = c.take.ensures.removed (n, c.args.entity) c.in-Some.ensures.1 in
    let is_e = (tells c.args.self.now c.self.inside.short c.self.inside.long c.self.inside.texts c.self.view_is c.self.invariant).placed n c.args.entity c.in-Some.ensures.0 in
    let gone = taken c.self.inside.short c.take.new.short c.self.inside.long c.self.invariant.apart place n c.args.entity has u in
    λ un. absurd (was_named c.args.self.now c.self.inside.short c.take.new.short c.self.inside.long c.self.inside.long c.self.inside.texts c.self.view_is c.self.invariant n c.args.entity is_e gone un)

pub invariant_of-self-in-None : goal.invariant_of-self-in-None
invariant_of-self-in-None g c =
    let n : List ℕ = c.as_str.result.now in
    let kept : other_of c.self.inside.texts c.args.entity ≡ Some n = sym c.remove.ensures.value ∙ ap (option_map string_bytes) c.in-Some-remove.is ∙ ap Some (sym c.as_str.ensures.value) in
    let is_e = (tells c.args.self.now c.self.inside.short c.self.inside.long c.self.inside.texts c.self.view_is c.self.invariant).apart n c.args.entity kept in
    kept_left c.args.self.now c.self.inside.short c.take_out.new.short c.self.inside.long c.take_out.new.long c.self.inside.texts c.self.view_is c.self.invariant n c.args.entity is_e c.take_out.ensures.removed c.take_out.new.texts c.take_out.ensures.apart c.take_out.ensures.unique
    (λ q f differs h. c.take_out.ensures.stay q f differs (ap (λ ps. first_in ps c.self.inside.short.entries f) c.remove.ensures.places ∙ h))
    (λ f. c.take_out.ensures.others f ∙ c.remove.ensures.others f)

pub returns-in-Some-remove-clause-freed : goal.returns-in-Some-remove-clause-freed
returns-in-Some-remove-clause-freed g c =
    let n : List ℕ = c.as_str.result.now in
    let kept : other_of c.self.inside.texts c.args.entity ≡ Some n = sym c.remove.ensures.value ∙ ap (option_map string_bytes) c.in-Some-remove.is ∙ ap Some (sym c.as_str.ensures.value) in
    let is_e = (tells c.args.self.now c.self.inside.short c.self.inside.long c.self.inside.texts c.self.view_is c.self.invariant).apart n c.args.entity kept in
    freed c.args.self.now c.self.inside.short c.take_out.new.short c.self.inside.long c.take_out.new.long c.self.inside.texts c.self.view_is c.self.invariant n c.args.entity is_e c.take_out.ensures.removed

pub returns-in-Some-remove-clause-others : goal.returns-in-Some-remove-clause-others
returns-in-Some-remove-clause-others g c =
    let n : List ℕ = c.as_str.result.now in
    let kept : other_of c.self.inside.texts c.args.entity ≡ Some n = sym c.remove.ensures.value ∙ ap (option_map string_bytes) c.in-Some-remove.is ∙ ap Some (sym c.as_str.ensures.value) in
    let is_e = (tells c.args.self.now c.self.inside.short c.self.inside.long c.self.inside.texts c.self.view_is c.self.invariant).apart n c.args.entity kept in
    others c.args.self.now c.self.inside.short c.take_out.new.short c.self.inside.long c.take_out.new.long c.self.inside.texts c.self.view_is c.self.invariant n c.args.entity is_e c.take_out.ensures.removed

pub returns-in-Some-remove-clause-named : goal.returns-in-Some-remove-clause-named
returns-in-Some-remove-clause-named g c =
    let n : List ℕ = c.as_str.result.now in
    let kept : other_of c.self.inside.texts c.args.entity ≡ Some n = sym c.remove.ensures.value ∙ ap (option_map string_bytes) c.in-Some-remove.is ∙ ap Some (sym c.as_str.ensures.value) in
    let is_e = (tells c.args.self.now c.self.inside.short c.self.inside.long c.self.inside.texts c.self.view_is c.self.invariant).apart n c.args.entity kept in
    left_by c.args.self.now c.self.inside.short c.take_out.new.short c.self.inside.long c.take_out.new.long c.self.inside.texts c.self.view_is c.self.invariant n c.args.entity is_e c.take_out.ensures.removed

pub returns-in-Some-remove-clause-unnamed : goal.returns-in-Some-remove-clause-unnamed
returns-in-Some-remove-clause-unnamed g c =
    let n : List ℕ = c.as_str.result.now in
    let kept : other_of c.self.inside.texts c.args.entity ≡ Some n = sym c.remove.ensures.value ∙ ap (option_map string_bytes) c.in-Some-remove.is ∙ ap Some (sym c.as_str.ensures.value) in
    let is_e = (tells c.args.self.now c.self.inside.short c.self.inside.long c.self.inside.texts c.self.view_is c.self.invariant).apart n c.args.entity kept in
    λ un. absurd (was_named c.args.self.now c.self.inside.short c.take_out.new.short c.self.inside.long c.take_out.new.long c.self.inside.texts c.self.view_is c.self.invariant n c.args.entity is_e c.take_out.ensures.removed un)

pub returns-in_default-clause-freed : goal.returns-in_default-clause-freed
returns-in_default-clause-freed g c =
    let first : first_of c.self.inside.texts c.self.inside.short.entries c.args.entity ≡ None = search rules in
    let other : other_of c.self.inside.texts c.args.entity ≡ None = sym c.remove.ensures.value ∙ ap (option_map string_bytes) c.in_default.is in
    let un : IsUnnamed c.args.self.now c.args.entity = unnamed c.args.self.now c.self.inside.short c.self.inside.long c.self.inside.texts c.self.view_is c.self.invariant c.args.entity
    (ap (λ o. option_or o (other_of c.self.inside.texts c.args.entity)) first ∙ other) in
    subst (λ m. IsUnnamed m c.args.entity) (sym c.self.view_is) un

pub returns-in_default-clause-named : goal.returns-in_default-clause-named
returns-in_default-clause-named g c =
    let first : first_of c.self.inside.texts c.self.inside.short.entries c.args.entity ≡ None = search rules in
    let other : other_of c.self.inside.texts c.args.entity ≡ None = sym c.remove.ensures.value ∙ ap (option_map string_bytes) c.in_default.is in
    let un : IsUnnamed c.args.self.now c.args.entity = unnamed c.args.self.now c.self.inside.short c.self.inside.long c.self.inside.texts c.self.view_is c.self.invariant c.args.entity
    (ap (λ o. option_or o (other_of c.self.inside.texts c.args.entity)) first ∙ other) in
    λ q h. absurd (un q h)
