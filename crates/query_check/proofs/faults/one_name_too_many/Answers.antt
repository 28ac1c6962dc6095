-- One more occurrence at each turn.
use Rattle.std.proofs.lemmas.Grind.{common_steps}
use Rattle.std.proofs.Common.{◌≡◌, ◌<◌, ◌∙◌, [], ap, sym, get_or, length, map, List, ℕ, Bor, arith, subst}
use Rattle.std.proofs.lemmas.List.{length-map, get_or-map}
use Rattle.std.specs.Prelude.{bytes_eq, ◌+◌}
use Rattle.std.specs.List.{list_any}
use Rattle.query_check.specs.declared.scope.Occurrence.{Occurrence}
use Rattle.query_check.specs.Seen.{seen_occurrence}
use Rattle.query_check.proofs.VariableNames.{IsNaming, names_more, one_known, one_new, one_too_many}
use Rattle.query_check.proofs.faults.one_name_too_many.Goals as goal
use Rattle.query_check.proofs.faults.one_name_too_many.Goals.{then-not-is_among+else-len-gt-MOST_NAMES+in_ok-push-2, else-not-is_among}

nobody : Occurrence
nobody = record { name = record { ref_ptr = (0, 0); now = [] }; level = 0; span = record { start = 0; end = 0 } }

pub returns-then-len-gt-MOST_NAMES : goal.returns-then-len-gt-MOST_NAMES
unfolding nobody
returns-then-len-gt-MOST_NAMES g c =
    let found = c.args.occurrences.now in
    let i = c.loop-occurrence.occurrence-index in
    let within : i < length (map seen_occurrence found) = rw length-map c.loop-occurrence-test.true in
    one_too_many (map seen_occurrence found) i _ (seen_occurrence (get_or found i nobody)) c.loop-occurrence.invariant within (get_or-map seen_occurrence found i nobody _ c.loop-occurrence-test.true)
    (sym c.if-not-is_among.true ∙ c.is_among.ensures ∙ ap (λ (l : List (Bor (List ℕ))). list_any (bytes_eq (get_or found i nobody).name.now) (map (λ n. n.now) l)) c.as_slice.ensures.value)
    (rw length-map (omega (arith, c.len.ensures, c.if-len-gt-MOST_NAMES.true)))

pub loop-occurrence-preserved : goal.loop-occurrence-preserved
unfolding nobody
loop-occurrence-preserved g c =
    let found = c.args.occurrences.now in
    let i = c.loop-occurrence.occurrence-index in
    let within : i < length (map seen_occurrence found) = rw length-map c.loop-occurrence-test.true in
    let same : get_or (map seen_occurrence found) i (seen_occurrence (get_or found i nobody)) ≡ seen_occurrence (get_or found i nobody) = get_or-map seen_occurrence found i nobody _ c.loop-occurrence-test.true in
    let seen = c.loop-occurrence.seen.items in
    let names : List (Bor (List ℕ)) → List (List ℕ) = λ l. map (λ n. n.now) l in
    let among : c.is_among.result ≡ list_any (bytes_eq (get_or found i nobody).name.now) (names seen) =
    c.is_among.ensures ∙ ap (λ l. list_any (bytes_eq (get_or found i nobody).name.now) (names l)) c.as_slice.ensures.value in
    let P : List (List ℕ) → Type 0 = λ l. IsNaming (map seen_occurrence found) (i + 1) l in
    elim c.if-not-is_among.branch [
      | then-not-is_among+else-len-gt-MOST_NAMES+in_ok-push-2 w ↦
          subst P (sym (names_more seen _ (get_or found i nobody).name (ap (λ v. v.items) w.seen-is ∙ w.in_ok-push-2.ensures.items)))
          (one_new (map seen_occurrence found) i (names seen) (seen_occurrence (get_or found i nobody)) c.loop-occurrence.invariant within same (sym w.if-not-is_among.true ∙ among) (rw length-map (omega (arith, w.len.ensures, w.if-len-gt-MOST_NAMES.false))))
      | else-not-is_among w ↦
          subst P (ap names (sym (ap (λ v. v.items) w.seen-is)))
          (one_known (map seen_occurrence found) i (names seen) (seen_occurrence (get_or found i nobody)) c.loop-occurrence.invariant within same (sym w.if-not-is_among.false ∙ among))
    ]

pub returns-in_err-push : goal.returns-in_err-push
returns-in_err-push g c = grind arith

pub loop-occurrence-init : goal.loop-occurrence-init
loop-occurrence-init g c = grind arith

pub offset_bounds-occurrences-occurrence-index : goal.offset_bounds-occurrences-occurrence-index
offset_bounds-occurrences-occurrence-index g c = grind arith

pub returns-in_err-push-2 : goal.returns-in_err-push-2
returns-in_err-push-2 g c = grind arith

pub returns : goal.returns
returns g c = grind (arith, common_steps)
