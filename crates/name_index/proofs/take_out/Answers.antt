use Rattle.std.proofs.Common.{◌≡◌, None, Some, List, ℕ, position, true, false, true≢false, ap, sym, subst, ◌∙◌, rules}
use Rattle.std.specs.Prelude.{nat_eq, is_some, slice_get}
use Rattle.std.specs.Cmp.Lexicographic.{bytes_decides, nat_list_eq_equiv, pointwise}
use Rattle.std.specs.HashMap.{get, Updates}
use Rattle.std.specs.Map.{keys_of}
use Rattle.std.proofs.lemmas.Map.Entries.{hash_map_get_place}
use Rattle.ecs_id.specs.declared.EntityId.{EntityId}
use Rattle.name_index.specs.Short.{is_short}
use Rattle.name_index.proofs.NamesLemmas.{apart_taken, found_entry, held_short, long_stays, remove_long, taken}
use Rattle.name_index.proofs.take_out.Goals as goal

-- the entry that was found is the name's
module _ (es : List (List ℕ × EntityId)) (key name : List ℕ) (is_key : key ≡ name) (place : ℕ) (index : position (pointwise nat_eq key) (keys_of es) ≡ Some place) where
  entry : List ℕ × EntityId
  entry = (found_entry (pointwise nat_eq key) es place index).0

  same : name ≡ entry.0
  unfolding entry
  same = sym is_key ∙ (bytes_decides key (found_entry (pointwise nat_eq key) es place index).0.0).0 (found_entry (pointwise nat_eq key) es place index).2

  there : slice_get es place ≡ Some entry
  unfolding entry
  there = (found_entry (pointwise nat_eq key) es place index).1

  named : slice_get es place ≡ Some (name, entry.1)
  named = there ∙ ap (λ n. Some (n, entry.1)) (sym same)

pub returns-in-Some-get_index_of-clause-removed : goal.returns-in-Some-get_index_of-clause-removed
returns-in-Some-get_index_of-clause-removed g c =
    let is_key : c.in-Some.key ≡ c.args.name.now = search rules in
    let es = c.args.short.now.entries in
    let place : ℕ = c.in-Some-get_index_of.place in
    let index : position (pointwise nat_eq c.in-Some.key) (keys_of es) ≡ Some place = sym c.get_index_of.ensures.index ∙ c.in-Some-get_index_of.is in
    let is : c.args.name.now ≡ (entry es c.in-Some.key c.args.name.now is_key place index).0 = same es c.in-Some.key c.args.name.now is_key place index in
    let u : Updates (pointwise nat_eq) c.args.short.now c.take.new.short c.args.name.now None =
    subst (λ n. Updates (pointwise nat_eq) c.args.short.now c.take.new.short n None) (sym is) (c.take.ensures.removed _ (there es c.in-Some.key c.args.name.now is_key place index)) in
    taken c.args.short.now c.take.new.short c.args.long.now c.requires.apart place c.args.name.now (entry es c.in-Some.key c.args.name.now is_key place index).1
    (hash_map_get_place nat_list_eq_equiv c.args.short.now place c.args.name.now _ c.requires.unique (named es c.in-Some.key c.args.name.now is_key place index)) u

pub returns-in-Some-get_index_of-clause-apart : goal.returns-in-Some-get_index_of-clause-apart
returns-in-Some-get_index_of-clause-apart g c =
    let is_key : c.in-Some.key ≡ c.args.name.now = search rules in
    let es = c.args.short.now.entries in
    let place : ℕ = c.in-Some-get_index_of.place in
    let index : position (pointwise nat_eq c.in-Some.key) (keys_of es) ≡ Some place = sym c.get_index_of.ensures.index ∙ c.in-Some-get_index_of.is in
    let is : c.args.name.now ≡ (entry es c.in-Some.key c.args.name.now is_key place index).0 = same es c.in-Some.key c.args.name.now is_key place index in
    let u : Updates (pointwise nat_eq) c.args.short.now c.take.new.short c.args.name.now None =
    subst (λ n. Updates (pointwise nat_eq) c.args.short.now c.take.new.short n None) (sym is) (c.take.ensures.removed _ (there es c.in-Some.key c.args.name.now is_key place index)) in
    apart_taken c.args.short.now c.take.new.short c.args.long.now c.requires.apart place c.args.name.now (entry es c.in-Some.key c.args.name.now is_key place index).1
    (hash_map_get_place nat_list_eq_equiv c.args.short.now place c.args.name.now _ c.requires.unique (named es c.in-Some.key c.args.name.now is_key place index)) u

pub returns-in-Some-get_index_of-clause-stay : goal.returns-in-Some-get_index_of-clause-stay
returns-in-Some-get_index_of-clause-stay g c = λ q f differs h.
    let is_key : c.in-Some.key ≡ c.args.name.now = search rules in
    let es = c.args.short.now.entries in
    let place : ℕ = c.in-Some-get_index_of.place in
    let index : position (pointwise nat_eq c.in-Some.key) (keys_of es) ≡ Some place = sym c.get_index_of.ensures.index ∙ c.in-Some-get_index_of.is in
    c.take.ensures.stay _ (there es c.in-Some.key c.args.name.now is_key place index) q f (λ x. differs (x ∙ sym (same es c.in-Some.key c.args.name.now is_key place index))) h

pub returns-in_default-clause-removed : goal.returns-in_default-clause-removed
returns-in_default-clause-removed g c =
    let is_key : c.in-Some.key ≡ c.args.name.now = search rules in
    let is : is_short c.args.name.now ≡ true = search rules in
    let held = held_short c.args.short.now c.args.long.now c.args.name.now c.requires.apart is c.requires.held in
    absurd (true≢false (sym held ∙ ap (λ n. is_some (get (pointwise nat_eq) c.args.short.now n)) (sym is_key) ∙ sym c.get_index_of.ensures.found ∙ ap is_some c.in_default.is))

pub returns-in-None-clause-removed : goal.returns-in-None-clause-removed
returns-in-None-clause-removed g c =
    let is : is_short c.args.name.now ≡ false = search rules in
    remove_long c.args.short.now c.args.short.now c.args.long.now c.swap_remove.new.self c.args.name.now (c.requires.apart.shorts c.args.name.now is) (search rules)

pub returns-in-None-clause-apart : goal.returns-in-None-clause-apart
returns-in-None-clause-apart g c =
    let is : is_short c.args.name.now ≡ false = search rules in
    record { shorts = c.requires.apart.shorts; longs = long_stays c.args.short.now c.args.short.now c.args.long.now c.swap_remove.new.self c.args.name.now None is (search rules) c.requires.apart.longs }
