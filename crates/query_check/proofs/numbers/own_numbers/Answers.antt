-- One more variable at each turn.
use Rattle.std.proofs.Common.{arith}
use Rattle.std.proofs.lemmas.Grind.{common_steps}
use Rattle.std.proofs.Common.{◌≡◌, ◌<◌, ◌+◌, ◌∙◌, [], ap, get_or, length, map, subst, sym, List, ℕ}
use Rattle.std.proofs.lemmas.List.{length-map, get_or-map}
use Rattle.query_check.specs.declared.numbers.Variable as code
use Rattle.query_check.specs.Seen.{seen_variable}
use Rattle.query_check.proofs.VariableNumbers.{IsListing, not_listed, one_listed}
use Rattle.query_check.proofs.numbers.own_numbers.Goals as goal
use Rattle.query_check.proofs.numbers.own_numbers.Goals.{then-variable-level+in_ok-push, else-variable-level}

abbrev nobody : code.Variable
nobody = record { name = record { ref_ptr = (0, 0); now = [] }; level = 0 }

pub loop-i-preserved : goal.loop-i-preserved
loop-i-preserved g c =
    let vs = c.args.numbered.now in
    let i = c.loop-i.i in
    let v = seen_variable (get_or vs i nobody) in
    let within : i < length (map seen_variable vs) = rw length-map c.loop-i-test.true in
    let same : get_or (map seen_variable vs) i v ≡ v = get_or-map seen_variable vs i nobody _ c.loop-i-test.true in
    let P : List ℕ → Type 0 = λ own. IsListing c.args.level (map seen_variable vs) (i + 1) own in
    elim c.if-variable-level.branch [
      | then-variable-level+in_ok-push w ↦ subst P (sym (ap (λ o. o.items) w.own-is ∙ w.in_ok-push.ensures.items)) (one_listed c.args.level (map seen_variable vs) i c.loop-i.own.items v c.loop-i.invariant within same w.if-variable-level.true)
      | else-variable-level w ↦ subst P (sym (ap (λ o. o.items) w.own-is)) (not_listed c.args.level (map seen_variable vs) i c.loop-i.own.items v c.loop-i.invariant within same w.if-variable-level.false)
    ]

pub loop-i-init : goal.loop-i-init
loop-i-init g c = grind arith

pub offset_bounds-numbered-i : goal.offset_bounds-numbered-i
offset_bounds-numbered-i g c = grind arith

pub bounds-numbered-i : goal.bounds-numbered-i
bounds-numbered-i g c = grind arith

pub returns-in_err-push : goal.returns-in_err-push
returns-in_err-push g c = grind arith

pub returns : goal.returns
returns g c = grind (arith, common_steps)
