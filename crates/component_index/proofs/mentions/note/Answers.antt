use Rattle.std.proofs.Common.{◌≡◌, ℕ, Bool, true, false, List, None, Some, slice_index_or, sym, subst, ◌∙◌}
use Rattle.std.specs.Prelude.{Result, Ok, Err, OnOk}
use Rattle.ecs_id.specs.Id.{Id, first_of, second_of}
use Rattle.id_pattern.specs.declared.Pattern.{Pattern}
use Rattle.component_index.specs.Mentions.{Keeps, may_match}
use Rattle.id_pattern.specs.Patterns.{matches}
use Rattle.component_index.proofs.MentionLemmas.{Keeps-steps, noted}
use Rattle.component_index.proofs.mentions.note.Goals as goal

if_ok : {T E P Q : Type 0} (r : Result T E) → (P → Q) → OnOk r P → OnOk r Q
if_ok (Ok x) f p = f p
if_ok (Err e) f p = p

-- the component alone, and with a target
plain_noted : (marks : List Bool) (id : Id) (first : ℕ) → first ≡ first_of id → None ≡ second_of id → slice_index_or marks first false ≡ true → (p : Pattern) → matches p id ≡ true → may_match marks p ≡ true
plain_noted marks id first is none marked p h =
    noted marks id (subst (λ n. slice_index_or marks n false ≡ true) is marked) (λ t e. absurd (let no : None ≡ Some t = none ∙ e in cc)) p h

pair_noted : (mid new : List Bool) (id : Id) (first target : ℕ) → first ≡ first_of id → Some target ≡ second_of id → slice_index_or mid first false ≡ true → Keeps mid new → slice_index_or new target false ≡ true
    → (p : Pattern) → matches p id ≡ true → may_match new p ≡ true
pair_noted mid new id first target is some marked kept last p h =
    noted new id (subst (λ n. slice_index_or new n false ≡ true) is (kept first marked))
    (λ t e. let both : Some target ≡ Some t = some ∙ e in let same : target ≡ t = cc in subst (λ n. slice_index_or new n false ≡ true) same last) p h

pub returns-in-None-clause-noted : goal.returns-in-None-clause-noted
returns-in-None-clause-noted g c = plain_noted c.mark.new.marks.items c.args.id c.first.result c.first.ensures.value (sym c.in-None.is ∙ c.second.ensures.value) c.in_ok-mark.ensures.marked

pub returns-in-Some-clause-noted : goal.returns-in-Some-clause-noted
returns-in-Some-clause-noted g c =
    if_ok c.mark-in-Some.result
    (pair_noted c.mark.new.marks.items c.mark-in-Some.new.marks.items c.args.id c.first.result c.in-Some.target c.first.ensures.value (sym c.in-Some.is ∙ c.second.ensures.value) c.in_ok-mark.ensures.marked c.mark-in-Some.ensures.kept)
    c.mark-in-Some.ensures.marked

pub returns-in-Some-clause-kept : goal.returns-in-Some-clause-kept
returns-in-Some-clause-kept g c = Keeps-steps c.args.marks.now.items c.mark.new.marks.items c.mark-in-Some.new.marks.items c.mark.ensures.kept c.mark-in-Some.ensures.kept
