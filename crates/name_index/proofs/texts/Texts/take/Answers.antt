use Rattle.std.proofs.Common.{◌≡◌, ◌+◌, ◌-◌, ℕ, List, Option, Some, None, IfSome, arith, is_some, if◌then◌else◌, length, option_map, slice_get, swap_remove, ap, subst, sym, ◌∙◌}
use Rattle.std.specs.Map.Iter.{deref_pair}
use Rattle.ecs_id.specs.declared.EntityId.{EntityId}
use Rattle.name_index.specs.Texts.{first_in, moved}
use Rattle.name_index.proofs.PlacesLemmas.{stays}
use Rattle.name_index.proofs.texts.Texts.take.Goals as goal

-- the entries, once one is taken out of them
gone : (es es' : List (List ℕ × EntityId)) (place end : ℕ) (r : Option (List ℕ × EntityId)) (p : List ℕ × EntityId) → r ≡ slice_get es place → slice_get es place ≡ Some p
    → IfSome r (λ p. es' ≡ swap_remove es place p) → length es' + (if is_some r then 1 else 0) ≡ length es → end ≡ length es' → (es' ≡ swap_remove es place p) × (end ≡ length es - 1)
gone es es' place end r p entry there entries len is_end =
    let one : length es' + 1 ≡ length es = ap (λ r. length es' + (if is_some r then 1 else 0)) (sym (entry ∙ there)) ∙ len in
    (subst (λ r. IfSome r (λ p. es' ≡ swap_remove es place p)) (entry ∙ there) entries, omega (arith, one, is_end))

pub returns-in-Some-clause-stay : goal.returns-in-Some-clause-stay
returns-in-Some-clause-stay g c = λ p there q f differs h.
    let ps = c.args.self.now.places.items in
    let es = c.args.short.now.entries in
    let es' = c.swap_remove_index.new.self.entries in
    let end : ℕ = c.len-last.result in
    let left = gone es es' c.args.place end c.swap_remove_index.result p c.swap_remove_index.ensures.entry there c.swap_remove_index.ensures.entries c.swap_remove_index.ensures.len c.len-last.ensures.len in
    let came : Some (c.in-Some.field-0-0.now, c.in-Some.holder.now) ≡ slice_get es' c.args.place = sym (ap (option_map deref_pair) c.in-Some.is) ∙ c.get_index.ensures.entry in
    let places : c.move_place.new.places.items ≡ moved ps (slice_get es' c.args.place) end c.args.place =
    c.move_place.ensures ∙ ap (λ o. moved ps o end c.args.place) came in
    subst (λ l. first_in l es' f ≡ Some q) (sym places) (stays ps es es' c.args.place end p there left.0 left.1 q f differs h)

pub returns-in_default-clause-stay : goal.returns-in_default-clause-stay
returns-in_default-clause-stay g c = λ p there q f differs h.
    let ps = c.args.self.now.places.items in
    let es = c.args.short.now.entries in
    let es' = c.swap_remove_index.new.self.entries in
    let end : ℕ = c.len-last.result in
    let left = gone es es' c.args.place end c.swap_remove_index.result p c.swap_remove_index.ensures.entry there c.swap_remove_index.ensures.entries c.swap_remove_index.ensures.len c.len-last.ensures.len in
    let none : slice_get es' c.args.place ≡ None = sym c.get_index.ensures.entry ∙ ap (option_map deref_pair) c.in_default.is in
    subst (λ o. first_in (moved ps o end c.args.place) es' f ≡ Some q) none (stays ps es es' c.args.place end p there left.0 left.1 q f differs h)
