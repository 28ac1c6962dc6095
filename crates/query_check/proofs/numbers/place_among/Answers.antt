-- One more variable at each turn.
use Rattle.std.proofs.Common.{◌∙◌, [], get_or, map, sym}
use Rattle.std.proofs.lemmas.List.{length-map, get_or-map}
use Rattle.query_check.specs.declared.numbers.Variable as code
use Rattle.query_check.specs.Seen.{seen_variable}
use Rattle.query_check.proofs.VariableNumbers.{is_further, is_there}
use Rattle.query_check.proofs.numbers.place_among.Goals as goal

abbrev nobody : code.Variable
nobody = record { name = record { ref_ptr = (0, 0); now = [] }; level = 0 }

pub returns-then-is_same : goal.returns-then-is_same
returns-then-is_same c =
    let vs = c.args.numbered.now in
    let i = c.loop-i.i in
    is_there (seen_variable c.args.variable.now) (map seen_variable vs) i (seen_variable (get_or vs i nobody)) c.loop-i.invariant (rw length-map c.loop-i-test.true) (get_or-map seen_variable vs i nobody _ c.loop-i-test.true)
    (sym c.if-is_same.true ∙ c.is_same.ensures)

pub loop-i-preserved : goal.loop-i-preserved
loop-i-preserved c =
    let vs = c.args.numbered.now in
    let i = c.loop-i.i in
    is_further (seen_variable c.args.variable.now) (map seen_variable vs) i (seen_variable (get_or vs i nobody)) c.loop-i.invariant (rw length-map c.loop-i-test.true) (get_or-map seen_variable vs i nobody _ c.loop-i-test.true)
    (sym c.if-is_same.false ∙ c.is_same.ensures)
