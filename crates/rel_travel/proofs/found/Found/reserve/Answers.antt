use Rattle.std.proofs.Common.{◌≡◌, ◌≤◌, ◌-◌, ◌++◌, ◌∙◌, ap, arith, length, replicate, vec_capacity, vec_len}
use Rattle.std.specs.Int.{div_ceil}
use Rattle.rel_travel.proofs.Marks.{AreMarked-wider, finds_fit, words_within}
use Rattle.rel_travel.proofs.found.Found.reserve.Goals as goal

pub overflow_sub-size : goal.overflow_sub-size
overflow_sub-size g c =
    let s = c.self.inside in
    let fit = finds_fit s.size s.words.items s.order.items c.self.invariant.0 in
    omega (arith, fit, c.len.ensures, c.if-self-size.true)

pub overflow_sub-words : goal.overflow_sub-words
overflow_sub-words g c =
    let s = c.self.inside in
    let within = words_within s.size s.words.items s.order.items c.args.size c.self.invariant.0 (omega (arith, c.if-self-size.true)) in
    omega (arith, within, s.words.ok.0, c.div_ceil-words.ensures, c.len-then-self-size.ensures)

pub add_blank-requires : goal.add_blank-requires
add_blank-requires g c =
    let s = c.self.inside in
    let within = words_within s.size s.words.items s.order.items c.args.size c.self.invariant.0 (omega (arith, c.if-self-size.true)) in
    let long : vec_len s.words ≤ c.div_ceil-words.result = omega (arith, within, s.words.ok.0, c.div_ceil-words.ensures) in
    record {
      longer = omega (arith, long, c.reserve-then-self-size.ensures.len);
      room = omega (arith, long, c.len-then-self-size.ensures, c.reserve-then-self-size.ensures.len, c.in_ok-reserve-2.ensures.ok);
    }

pub invariant_of-self-then-self-size : goal.invariant_of-self-then-self-size
invariant_of-self-then-self-size g c =
    let s = c.self.inside in
    let words = c.reserve-then-self-size.new.self in
    let fit = finds_fit s.size s.words.items s.order.items c.self.invariant.0 in
    let wider = AreMarked-wider s.size s.words.items s.order.items c.args.size c.self.invariant.0 (omega (arith, c.if-self-size.true)) in
    let missing : c.div_ceil-words.result - vec_len words ≡ div_ceil c.args.size 64 - length s.words.items =
    omega (arith, c.div_ceil-words.ensures, c.reserve-then-self-size.ensures.len, s.words.ok.0) in
    let grown : c.add_blank.new.words.items ≡ s.words.items ++ replicate (div_ceil c.args.size 64 - length s.words.items) 0 =
    c.add_blank.ensures ∙ ap (λ ws. ws ++ replicate (c.div_ceil-words.result - vec_len words) 0) c.reserve-then-self-size.ensures.items ∙ ap (λ n. s.words.items ++ replicate n 0) missing in
    let room : c.args.size ≤ vec_capacity c.reserve.new.self = omega (arith, fit, c.len.ensures, c.if-self-size.true, c.in_ok-reserve.ensures.ok) in
    (rw (grown, c.reserve.ensures.items) wider, room)

pub overflow_cast-div_ceil : goal.overflow_cast-div_ceil
overflow_cast-div_ceil g c = grind arith

pub div_ceil-words-requires : goal.div_ceil-words-requires
div_ceil-words-requires g c = grind arith

pub invariant_of-self : goal.invariant_of-self
invariant_of-self g c = grind arith

pub returns-in_err-reserve-clause-items : goal.returns-in_err-reserve-clause-items
returns-in_err-reserve-clause-items g c = grind arith

pub returns-in_err-reserve-clause-ok : goal.returns-in_err-reserve-clause-ok
returns-in_err-reserve-clause-ok g c = grind arith

pub returns-in_err-reserve-clause-err : goal.returns-in_err-reserve-clause-err
returns-in_err-reserve-clause-err g c = grind arith

pub invariant_of-self-in_err-reserve-2 : goal.invariant_of-self-in_err-reserve-2
invariant_of-self-in_err-reserve-2 g c = grind arith

pub returns-in_err-reserve-2-clause-items : goal.returns-in_err-reserve-2-clause-items
returns-in_err-reserve-2-clause-items g c = grind arith

pub returns-in_err-reserve-2-clause-ok : goal.returns-in_err-reserve-2-clause-ok
returns-in_err-reserve-2-clause-ok g c = grind arith

pub returns-in_err-reserve-2-clause-err : goal.returns-in_err-reserve-2-clause-err
returns-in_err-reserve-2-clause-err g c = grind arith

pub returns-in_ok-reserve-2-clause-items : goal.returns-in_ok-reserve-2-clause-items
returns-in_ok-reserve-2-clause-items g c = grind arith

pub returns-in_ok-reserve-2-clause-ok : goal.returns-in_ok-reserve-2-clause-ok
returns-in_ok-reserve-2-clause-ok g c = grind arith

pub returns-else-self-size-clause-items : goal.returns-else-self-size-clause-items
returns-else-self-size-clause-items g c = grind arith

pub returns-else-self-size-clause-ok : goal.returns-else-self-size-clause-ok
returns-else-self-size-clause-ok g c = grind arith
