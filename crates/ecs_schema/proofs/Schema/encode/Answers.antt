use Rattle.std.proofs.Common.{arith}
use Rattle.std.proofs.Common.{◌≡◌, ◌∙◌, ap, rules}
use Rattle.ecs_model.specs.Bytes.{value_bytes, values_in}
use Rattle.ecs_schema.proofs.NumberPlaces.{values_in-value_bytes}
use Rattle.ecs_schema.proofs.Schema.encode.Goals as goal

pub returns-clause-read_back : goal.returns-clause-read_back
returns-clause-read_back g c =
    let schema = c.args.self.now in
    let values = c.args.values.now in
    let written : c.write_value.new.bytes ≡ value_bytes schema values = search rules in
    let fits = c.in_ok-check.ensures.fits in
    ap (values_in schema) written ∙ values_in-value_bytes schema values fits.0 fits.1

pub returns-in_err-check-clause-written : goal.returns-in_err-check-clause-written
returns-in_err-check-clause-written g c = grind arith

pub returns-in_err-check-clause-read_back : goal.returns-in_err-check-clause-read_back
returns-in_err-check-clause-read_back g c = grind arith

pub returns-in_err-check-clause-fits : goal.returns-in_err-check-clause-fits
returns-in_err-check-clause-fits g c = grind arith

pub returns-in_err-check-clause-count : goal.returns-in_err-check-clause-count
returns-in_err-check-clause-count g c = grind arith

pub returns-in_err-check-clause-range : goal.returns-in_err-check-clause-range
returns-in_err-check-clause-range g c = grind arith

pub returns-in_err-check-clause-unchanged : goal.returns-in_err-check-clause-unchanged
returns-in_err-check-clause-unchanged g c = grind arith

pub write_value-requires-clause-few : goal.write_value-requires-clause-few
write_value-requires-clause-few g c = grind arith

pub write_value-requires-clause-value : goal.write_value-requires-clause-value
write_value-requires-clause-value g c = grind arith

pub write_value-requires-clause-size : goal.write_value-requires-clause-size
write_value-requires-clause-size g c = grind arith

pub returns-clause-written : goal.returns-clause-written
returns-clause-written g c = grind arith

pub returns-clause-fits : goal.returns-clause-fits
returns-clause-fits g c = grind arith

pub returns-clause-count : goal.returns-clause-count
returns-clause-count g c = grind arith

pub returns-clause-range : goal.returns-clause-range
returns-clause-range g c = grind arith
