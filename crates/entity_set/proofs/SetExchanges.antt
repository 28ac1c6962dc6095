-- A set that some leave and others enter, in the words that it has.
use Rattle.std.specs.Prelude.{◌==◌, ◌&&◌, ◌||◌, not, filter}
use Rattle.std.specs.List.{All, Contains, list_any, range_with_len}
use Rattle.std.specs.List.Sorted.{IsStrictlyIncreasing}
use Rattle.std.proofs.Common.{◌≡◌, ℕ, ◌*◌, ◌/◌, ◌<◌, ◌≤◌, Bool, true, List, length, get_or, sym, ap, subst, ◌∙◌, inl, inr, arith}
use Rattle.std.proofs.lemmas.Bool.{ne_eqb, or_cases, and_parts}
use Rattle.std.proofs.lemmas.List.Elements.{Contains-get_or}
use Rattle.std.proofs.lemmas.List.Kept.{IsStrictlyIncreasing-filter}
use Rattle.ecs_model.proofs.Members.{alike, any_passes, eq_itself, eq_same, filtered, passing}
use Rattle.ecs_model.proofs.Ranges.{filter_alike}
use Rattle.ecs_model.specs.BitWords.{has_bit}
use Rattle.entity_set.specs.Members.{Entities, entities_in, exchanged, members}
use Rattle.entity_set.proofs.SetBits.{any_members, has_word, in_members, in_range, range_rises}

-- who is in a set has a word in it
pub members_low : (words : List ℕ) → All (λ e. e < 64 * length words) (members words)
members_low words = λ k d low. has_word words (get_or (members words) k d) ((in_members words (get_or (members words) k d)).0 (Contains-get_or (members words) k d low))

-- by its bits
pub exchanged_bits : (old new left entered : List ℕ) → length new ≡ length old
    → ((e : ℕ) → e < 64 * length old → has_bit new e ≡ ((has_bit old e && not (list_any (λ x. x == e) left)) || list_any (λ x. x == e) entered))
    → entities_in new ≡ exchanged left entered (entities_in old)
unfolding exchanged members
exchanged_bits old new left entered same bits =
    let stands : ℕ → Bool = λ e. (list_any (λ x. x == e) (members old) && not (list_any (λ x. x == e) left)) || list_any (λ x. x == e) entered in
    let items : filter (has_bit new) (range_with_len 0 (64 * length new)) ≡ filter stands (range_with_len 0 (64 * length old))
    = ap (λ n. filter (has_bit new) (range_with_len 0 (64 * n))) same
    ∙ filter_alike (has_bit new) stands 0 (64 * length old) (λ e low high. bits e (omega (arith, high)) ∙ (λ i. (sym (any_members old e) i && not (list_any (λ x. x == e) left)) || list_any (λ x. x == e) entered)) in
    λ i. record { items = items i; room = 64 * same i }

-- as it is seen
pub exchanged_rises : (left entered : List ℕ) (these : Entities) → IsStrictlyIncreasing (exchanged left entered these).items
unfolding exchanged
exchanged_rises left entered these =
    IsStrictlyIncreasing-filter (λ e. (list_any (λ x. x == e) these.items && not (list_any (λ x. x == e) left)) || list_any (λ x. x == e) entered) (range_with_len 0 these.room) (range_rises 0 these.room)

within : (room : ℕ) (es : List ℕ) (e : ℕ) → All (λ x. x < room) es → list_any (λ x. x == e) es ≡ true → e < room
within room es e all among =
    let x = passing (λ x. x == e) es among in
    let there : Contains es e = subst (Contains es) (eq_same x.0 e x.2) x.1 in
    subst (λ y. y < room) there.2 (all there.0 e there.1)

pub exchanged_members : (left entered : List ℕ) (these : Entities) → All (λ e. e < these.room) these.items → All (λ e. e < these.room) entered → (e : ℕ)
    → list_any (λ x. x == e) (exchanged left entered these).items ≡ ((list_any (λ x. x == e) these.items && not (list_any (λ x. x == e) left)) || list_any (λ x. x == e) entered)
unfolding exchanged
exchanged_members left entered these own all e =
    let stands : ℕ → Bool = λ e. (list_any (λ x. x == e) these.items && not (list_any (λ x. x == e) left)) || list_any (λ x. x == e) entered in
    let range : List ℕ = range_with_len 0 these.room in
    alike (list_any (λ x. x == e) (filter stands range)) (stands e)
    (λ t. let x = passing (λ x. x == e) (filter stands range) t in ((filtered stands range e).0 (subst (Contains (filter stands range)) (eq_same x.0 e x.2) x.1)).1)
    (λ h.
    let low : e < these.room = elim (or_cases (list_any (λ x. x == e) these.items && not (list_any (λ x. x == e) left)) (list_any (λ x. x == e) entered) h) [
      | inl stays ↦ within these.room these.items e own (and_parts (list_any (λ x. x == e) these.items) (not (list_any (λ x. x == e) left)) stays).0
      | inr enters ↦ within these.room entered e all enters
    ] in
    any_passes (λ x. x == e) (filter stands range) e ((filtered stands range e).1 (in_range these.room e low, h)) (eq_itself e))

-- a bit that has no word isn't that of one who has
pub set_elsewhere : (words : List ℕ) (k e : ℕ) → length words ≤ k / 64 → e < 64 * length words → has_bit words e ≡ (e == k || has_bit words e)
set_elsewhere words k e past low = sym (ap (λ b. b || has_bit words e) (ne_eqb e k (λ same. omega (arith, past, low, same))))
