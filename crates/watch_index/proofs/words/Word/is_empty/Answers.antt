use Rattle.std.proofs.Common.{arith, eq-eqb, eqb-true}
use Rattle.watch_index.proofs.WordNumbers.{no_bits, some_bits}
use Rattle.watch_index.proofs.words.Word.is_empty.Goals as goal

pub returns : goal.returns
returns c =
    let w = c.args.self in
    (λ h. no_bits w.block w.bits (eqb-true w.bits 0 h), λ e. eq-eqb w.bits 0 (some_bits w.block w.bits (omega (arith, c.well_formed)) e))
