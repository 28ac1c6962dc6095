-- Which ids concern a query for others, or for those below, concern it.
use Rattle.std.specs.Prelude.{◌≡◌, ◌==◌, true}
use Rattle.std.specs.List.{list_any}
use Rattle.std.proofs.Common.{inl, inr}
use Rattle.std.proofs.lemmas.Bool.{and_parts, false≢true, or_left, or_right}
use Rattle.ecs_id.specs.Id.{Id, plain, pair}
use Rattle.ecs_model.specs.BuiltIns.{transitive, reflexive}
use Rattle.ecs_model.proofs.Members.{from_or}
use Rattle.query_model.specs.Query.{Query}
use Rattle.query_check.specs.Terms.{terms}
use Rattle.watch_concerns.specs.Concerns.{concerns, is_asked_by_all, term_concerns}
use Rattle.watch_concerns.specs.Others.{concerns_below, concerns_others, says_how_far, term_concerns_below, term_concerns_others}
use Rattle.watch_concerns.proofs.UnaskedVariables.{any_wider}

asked_by_all : (i : Id) → says_how_far i ≡ true → is_asked_by_all i ≡ true
asked_by_all (plain c) h = elim (from_or (c == transitive) (c == reflexive) h) [
  | inl t ↦ search (or_left, or_right)
  | inr r ↦ search (or_left, or_right)
]
asked_by_all (pair r t) h = absurd (false≢true h)

pub others_concern : (q : Query) (i : Id) → concerns_others q i ≡ true → concerns q i ≡ true
unfolding concerns concerns_others
others_concern q i h = elim (from_or (says_how_far i) _ h) [
  | inl far ↦ or_left (is_asked_by_all i) (list_any (term_concerns i) (terms q)) (asked_by_all i far)
  | inr some ↦ or_right (is_asked_by_all i) (list_any (term_concerns i) (terms q)) (any_wider (term_concerns_others i) (term_concerns i) (λ t k. (and_parts _ _ k).1) (terms q) some)
]

pub below_concern : (q : Query) (i : Id) → concerns_below q i ≡ true → concerns q i ≡ true
unfolding concerns concerns_below
below_concern q i h = or_right (is_asked_by_all i) (list_any (term_concerns i) (terms q)) (any_wider (term_concerns_below i) (term_concerns i) (λ t k. (and_parts _ _ k).1) (terms q) h)
