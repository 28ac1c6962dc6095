-- One more variable at each turn.
use Rattle.std.proofs.Common.{arith}
use Rattle.std.proofs.lemmas.Grind.{common_steps}
use Rattle.std.proofs.Common.{◌≡◌, ◌<◌, ◌+◌, ◌∙◌, [], ap, get_or, length, map, subst, sym, List}
use Rattle.std.proofs.lemmas.List.{length-map, get_or-map, map-append}
use Rattle.std.specs.List.{list_any}
use Rattle.query_check.specs.declared.numbers.Variable as code
use Rattle.query_check.specs.Seen.{seen_variable}
use Rattle.query_model.specs.Numbers.{Variable, same_variable}
use Rattle.query_check.proofs.VariableNumbers.{IsAdding, known_one, new_one, other_kind}
use Rattle.query_check.proofs.numbers.add_new.Goals as goal
use Rattle.query_check.proofs.numbers.add_new.Goals.{then-is_whole+then-not-is_among+in_ok-push, else-is_whole, else-is_whole-via-then-is_whole+else-not-is_among, else-is_whole-via-else-is_whole}

abbrev nobody : code.Variable
nobody = record { name = record { ref_ptr = (0, 0); now = [] }; level = 0 }

pub loop-variable-preserved : goal.loop-variable-preserved
loop-variable-preserved g c =
    let vs = c.args.owned.now in
    let i = c.loop-variable.variable-index in
    let v = seen_variable (get_or vs i nobody) in
    let now = map seen_variable c.loop-variable.numbered.items in
    let within : i < length (map seen_variable vs) = rw length-map c.loop-variable-test.true in
    let same : get_or (map seen_variable vs) i v ≡ v = get_or-map seen_variable vs i nobody _ c.loop-variable-test.true in
    let P : List Variable → Type 0 = λ l. IsAdding c.args.whole (map seen_variable vs) (i + 1) (map seen_variable c.args.numbered.now.items) l in
    elim c.if-is_whole.branch [
      | then-is_whole+then-not-is_among+in_ok-push w ↦
          subst P (sym (ap (λ n. map seen_variable n.items) w.numbered-is ∙ ap (map seen_variable) w.in_ok-push.ensures.items ∙ map-append seen_variable c.loop-variable.numbered.items _))
          (new_one c.args.whole (map seen_variable vs) _ i now v c.loop-variable.invariant within same (sym w.if-is_whole.true ∙ c.is_whole.ensures) (sym w.if-not-is_among.true ∙ w.is_among.ensures ∙ ap (λ l. list_any (same_variable v) (map seen_variable l)) w.as_slice.ensures.value))
      | else-is_whole w ↦
          subst P (sym (ap (λ n. map seen_variable n.items) w.numbered-is))
          (elim w.else-is_whole.branch [
            | else-is_whole-via-then-is_whole+else-not-is_among u ↦
                known_one c.args.whole (map seen_variable vs) _ i now v c.loop-variable.invariant within same (sym u.if-is_whole.true ∙ c.is_whole.ensures) (sym u.if-not-is_among.false ∙ u.is_among.ensures ∙ ap (λ l. list_any (same_variable v) (map seen_variable l)) u.as_slice.ensures.value)
            | else-is_whole-via-else-is_whole u ↦ other_kind c.args.whole (map seen_variable vs) _ i now v c.loop-variable.invariant within same (sym u.if-is_whole.false ∙ c.is_whole.ensures)
          ])
    ]

pub loop-variable-init : goal.loop-variable-init
loop-variable-init g c = grind arith

pub offset_bounds-owned-variable-index : goal.offset_bounds-owned-variable-index
offset_bounds-owned-variable-index g c = grind arith

pub returns-in_err-push : goal.returns-in_err-push
returns-in_err-push g c = grind arith

pub returns : goal.returns
returns g c = grind (arith, common_steps)
