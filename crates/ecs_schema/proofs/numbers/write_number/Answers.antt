use Rattle.std.proofs.Common.{arith}
use Rattle.std.proofs.Common.{sym, ap, ◌∙◌, [], ◌∷◌, of_z}
use Rattle.std.specs.Int.{w8, w16, w32, w64, to_le_bytes}
use Rattle.ecs_model.specs.Bytes.{number_bytes}
use Rattle.ecs_schema.proofs.Words.{written_signed, written_unsigned, byte_signed, byte_unsigned, first_true, SFits-I8, SFits-I16, SFits-I32, SFits-I64}
use Rattle.ecs_schema.proofs.numbers.write_number.Goals as goal

pub returns-in-I8 : goal.returns-in-I8
unfolding number_bytes
returns-in-I8 c =
    let fits = rw c.in-I8.is at c.requires.fits in
    c.copy_from_slice.ensures.after ∙ c.to_le_bytes.ensures
    ∙ ap (λ x. of_z w8 x ∷ []) (written_signed w8 c.args.number (SFits-I8 c.args.number fits) c.ranges.number)
    ∙ byte_signed c.args.number (SFits-I8 c.args.number fits)
    ∙ ap (λ k. number_bytes k c.args.number) (sym c.in-I8.is)

pub returns-in-U8 : goal.returns-in-U8
unfolding number_bytes
returns-in-U8 c =
    let fits = rw c.in-U8.is at c.requires.fits in
    c.copy_from_slice-in-U8.ensures.after ∙ c.to_le_bytes-in-U8.ensures
    ∙ ap (λ n. n ∷ []) (written_unsigned w8 c.args.number (first_true _ _ fits) c.ranges.number)
    ∙ byte_unsigned c.args.number fits
    ∙ ap (λ k. number_bytes k c.args.number) (sym c.in-U8.is)

pub returns-in-I16 : goal.returns-in-I16
unfolding number_bytes
returns-in-I16 c =
    let fits = rw c.in-I16.is at c.requires.fits in
    c.copy_from_slice-in-I16.ensures.after ∙ c.to_le_bytes-in-I16.ensures
    ∙ ap (λ x. to_le_bytes w16 (of_z w16 x)) (written_signed w16 c.args.number (SFits-I16 c.args.number fits) c.ranges.number)
    ∙ ap (λ k. number_bytes k c.args.number) (sym c.in-I16.is)

pub returns-in-U16 : goal.returns-in-U16
unfolding number_bytes
returns-in-U16 c =
    let fits = rw c.in-U16.is at c.requires.fits in
    c.copy_from_slice-in-U16.ensures.after ∙ c.to_le_bytes-in-U16.ensures
    ∙ ap (to_le_bytes w16) (written_unsigned w16 c.args.number (first_true _ _ fits) c.ranges.number)
    ∙ ap (λ k. number_bytes k c.args.number) (sym c.in-U16.is)

pub returns-in-I32 : goal.returns-in-I32
unfolding number_bytes
returns-in-I32 c =
    let fits = rw c.in-I32.is at c.requires.fits in
    c.copy_from_slice-in-I32.ensures.after ∙ c.to_le_bytes-in-I32.ensures
    ∙ ap (λ x. to_le_bytes w32 (of_z w32 x)) (written_signed w32 c.args.number (SFits-I32 c.args.number fits) c.ranges.number)
    ∙ ap (λ k. number_bytes k c.args.number) (sym c.in-I32.is)

pub returns-in-U32 : goal.returns-in-U32
unfolding number_bytes
returns-in-U32 c =
    let fits = rw c.in-U32.is at c.requires.fits in
    c.copy_from_slice-in-U32.ensures.after ∙ c.to_le_bytes-in-U32.ensures
    ∙ ap (to_le_bytes w32) (written_unsigned w32 c.args.number (first_true _ _ fits) c.ranges.number)
    ∙ ap (λ k. number_bytes k c.args.number) (sym c.in-U32.is)

pub returns-in-I64 : goal.returns-in-I64
unfolding number_bytes
returns-in-I64 c =
    let fits = rw c.in-I64.is at c.requires.fits in
    c.copy_from_slice-in-I64.ensures.after ∙ c.to_le_bytes-in-I64.ensures
    ∙ ap (λ x. to_le_bytes w64 (of_z w64 x)) (written_signed w64 c.args.number (SFits-I64 c.args.number fits) c.ranges.number)
    ∙ ap (λ k. number_bytes k c.args.number) (sym c.in-I64.is)

pub returns-in-U64 : goal.returns-in-U64
unfolding number_bytes
returns-in-U64 c =
    let fits = rw c.in-U64.is at c.requires.fits in
    c.copy_from_slice-in-U64.ensures.after ∙ c.to_le_bytes-in-U64.ensures
    ∙ ap (to_le_bytes w64) (written_unsigned w64 c.args.number (first_true _ _ fits) c.ranges.number)
    ∙ ap (λ k. number_bytes k c.args.number) (sym c.in-U64.is)

pub overflow_cast-number : goal.overflow_cast-number
overflow_cast-number c = grind arith

pub slice_bounds-copy_from_slice-end : goal.slice_bounds-copy_from_slice-end
slice_bounds-copy_from_slice-end c = grind arith

pub copy_from_slice-requires : goal.copy_from_slice-requires
copy_from_slice-requires c = grind arith

pub overflow_cast-number-in-U8 : goal.overflow_cast-number-in-U8
overflow_cast-number-in-U8 c = grind arith

pub slice_bounds-copy_from_slice-end-in-U8 : goal.slice_bounds-copy_from_slice-end-in-U8
slice_bounds-copy_from_slice-end-in-U8 c = grind arith

pub copy_from_slice-requires-in-U8 : goal.copy_from_slice-requires-in-U8
copy_from_slice-requires-in-U8 c = grind arith

pub overflow_cast-number-in-I16 : goal.overflow_cast-number-in-I16
overflow_cast-number-in-I16 c = grind arith

pub slice_bounds-copy_from_slice-end-in-I16 : goal.slice_bounds-copy_from_slice-end-in-I16
slice_bounds-copy_from_slice-end-in-I16 c = grind arith

pub copy_from_slice-requires-in-I16 : goal.copy_from_slice-requires-in-I16
copy_from_slice-requires-in-I16 c = grind arith

pub overflow_cast-number-in-U16 : goal.overflow_cast-number-in-U16
overflow_cast-number-in-U16 c = grind arith

pub slice_bounds-copy_from_slice-end-in-U16 : goal.slice_bounds-copy_from_slice-end-in-U16
slice_bounds-copy_from_slice-end-in-U16 c = grind arith

pub copy_from_slice-requires-in-U16 : goal.copy_from_slice-requires-in-U16
copy_from_slice-requires-in-U16 c = grind arith

pub overflow_cast-number-in-I32 : goal.overflow_cast-number-in-I32
overflow_cast-number-in-I32 c = grind arith

pub slice_bounds-copy_from_slice-end-in-I32 : goal.slice_bounds-copy_from_slice-end-in-I32
slice_bounds-copy_from_slice-end-in-I32 c = grind arith

pub copy_from_slice-requires-in-I32 : goal.copy_from_slice-requires-in-I32
copy_from_slice-requires-in-I32 c = grind arith

pub overflow_cast-number-in-U32 : goal.overflow_cast-number-in-U32
overflow_cast-number-in-U32 c = grind arith

pub slice_bounds-copy_from_slice-end-in-U32 : goal.slice_bounds-copy_from_slice-end-in-U32
slice_bounds-copy_from_slice-end-in-U32 c = grind arith

pub copy_from_slice-requires-in-U32 : goal.copy_from_slice-requires-in-U32
copy_from_slice-requires-in-U32 c = grind arith

pub overflow_cast-number-in-I64 : goal.overflow_cast-number-in-I64
overflow_cast-number-in-I64 c = grind arith

pub slice_bounds-copy_from_slice-end-in-I64 : goal.slice_bounds-copy_from_slice-end-in-I64
slice_bounds-copy_from_slice-end-in-I64 c = grind arith

pub copy_from_slice-requires-in-I64 : goal.copy_from_slice-requires-in-I64
copy_from_slice-requires-in-I64 c = grind arith

pub overflow_cast-number-in-U64 : goal.overflow_cast-number-in-U64
overflow_cast-number-in-U64 c = grind arith

pub slice_bounds-copy_from_slice-end-in-U64 : goal.slice_bounds-copy_from_slice-end-in-U64
slice_bounds-copy_from_slice-end-in-U64 c = grind arith

pub copy_from_slice-requires-in-U64 : goal.copy_from_slice-requires-in-U64
copy_from_slice-requires-in-U64 c = grind arith
