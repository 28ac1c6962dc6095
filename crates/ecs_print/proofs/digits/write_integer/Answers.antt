use Rattle.std.proofs.Common.{◌≡◌, ◌+◌, ◌-◌, ◌^◌, ◌<◌, ◌++◌, ap, drop, arith, to_z-of_z}
use Rattle.std.proofs.lemmas.List.{drop-set}
use Rattle.ecs_print.proofs.Fields.{digits_fit, minus_first}
use Rattle.ecs_print.proofs.digits.write_integer.Goals as goal

pub write_digits-start-requires : goal.write_digits-start-requires
write_digits-start-requires c =
    let word : c.unsigned_abs.result < 2 ^ 64 = rw (c.unsigned_abs.ensures.value, to_z-of_z c.ranges.number) c.requires.word in
    (omega (arith, digits_fit c.unsigned_abs.result word), c.requires.within)

pub returns-then-number-ge0-clause-room : goal.returns-then-number-ge0-clause-room
returns-then-number-ge0-clause-room c =
    let word : c.unsigned_abs.result < 2 ^ 64 = rw (c.unsigned_abs.ensures.value, to_z-of_z c.ranges.number) c.requires.word in
    omega (arith, digits_fit c.unsigned_abs.result word)

pub overflow_sub-text : goal.overflow_sub-text
overflow_sub-text c =
    let word : c.unsigned_abs.result < 2 ^ 64 = rw (c.unsigned_abs.ensures.value, to_z-of_z c.ranges.number) c.requires.word in
    omega (arith, digits_fit c.unsigned_abs.result word)

pub overflow_sub-result : goal.overflow_sub-result
overflow_sub-result c =
    let word : c.unsigned_abs.result < 2 ^ 64 = rw (c.unsigned_abs.ensures.value, to_z-of_z c.ranges.number) c.requires.word in
    omega (arith, digits_fit c.unsigned_abs.result word)

pub returns-clause-room : goal.returns-clause-room
returns-clause-room c =
    let word : c.unsigned_abs.result < 2 ^ 64 = rw (c.unsigned_abs.ensures.value, to_z-of_z c.ranges.number) c.requires.word in
    omega (arith, digits_fit c.unsigned_abs.result word)

pub returns-clause-written : goal.returns-clause-written
returns-clause-written c =
    let w = c.write_digits-start in
    let word : c.unsigned_abs.result < 2 ^ 64 = rw (c.unsigned_abs.ensures.value, to_z-of_z c.ranges.number) c.requires.word in
    let fit = digits_fit c.unsigned_abs.result word in
    let e : w.result - 1 + 1 ≡ w.result = omega arith in
    let back = to_z-of_z c.ranges.number in
    rw (drop-set w.new.buf (w.result - 1) 45 (omega arith), e, w.ensures.written, c.unsigned_abs.ensures.value, back)
    (ap (λ t. t ++ drop c.args.end c.args.text.now) (minus_first c.args.number (rw back at c.if-number-ge0.false)))
