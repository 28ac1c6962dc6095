use Rattle.std.proofs.Common.{arith}
use Rattle.std.proofs.Common.{◌==◌, ◌∙◌, inl, inr, not, refl, rules, subst, sym, ap, true≢false}
use Rattle.std.proofs.lemmas.Bool.Decides.{Decides-eqb}
use Rattle.std.proofs.lemmas.Fn.{filter_same}
use Rattle.std.specs.List.{Contains}
use Rattle.table_store.proofs.Order.{passed, to_filter}
use Rattle.table_store.proofs.Slots.{differ}
use Rattle.table_store.specs.ByIds.{is_first_of, is_slot}
use Rattle.table_store.proofs.by_ids.ByIds.remove.Goals as goal

pub returns-else-is_first-clause-others : goal.returns-else-is_first-clause-others
returns-else-is_first-clause-others g c hash other apart has =
    let kept = filter_same _ (λ s. not (s == c.args.slot)) _ (λ x b f' k. search rules) _ _ c.retain.ensures.filtered in
    elim has [
      | inl first ↦ inl first
      | inr among ↦ inr (subst (λ l. Contains l other) (sym kept) (to_filter (λ s. not (s == c.args.slot)) c.args.self.now.others.items other among.0 among.1 among.2 (ap not (differ other c.args.slot apart))))
    ]

pub returns-else-is_first-clause-gone : goal.returns-else-is_first-clause-gone
returns-else-is_first-clause-gone g c has =
    let kept = filter_same _ (λ s. not (s == c.args.slot)) _ (λ x b f' k. search rules) _ _ c.retain.ensures.filtered in
    elim has [
      | inl first ↦ absurd (true≢false (sym (ap (is_slot c.args.slot) first ∙ (Decides-eqb c.args.slot c.args.slot).1 refl) ∙ ap (λ h. is_first_of c.args.self.now h c.args.slot) (sym c.hash_of-hash.ensures) ∙ sym c.is_first.ensures ∙ c.if-is_first.false))
      | inr among ↦ absurd (true≢false (sym (passed (λ s. not (s == c.args.slot)) c.args.self.now.others.items c.args.slot (subst (λ l. Contains l c.args.slot) kept among)).1 ∙ ap not ((Decides-eqb _ _).1 refl)))
    ]

pub returns-then-is_first-clause-gone : goal.returns-then-is_first-clause-gone
returns-then-is_first-clause-gone g c = grind arith

pub returns-then-is_first-clause-others : goal.returns-then-is_first-clause-others
returns-then-is_first-clause-others g c = grind arith

pub returns-then-is_first-clause-hashing : goal.returns-then-is_first-clause-hashing
returns-then-is_first-clause-hashing g c = grind arith

pub returns-else-is_first-clause-hashing : goal.returns-else-is_first-clause-hashing
returns-else-is_first-clause-hashing g c = grind arith
