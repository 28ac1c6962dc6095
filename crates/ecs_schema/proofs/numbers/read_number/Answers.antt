use Rattle.std.proofs.Common.{sym, ap, ◌∙◌, pos, to_z}
use Rattle.std.specs.Int.{w8, w16, w32, w64, from_le_bytes}
use Rattle.ecs_model.specs.Bytes.{number_in}
use Rattle.ecs_schema.proofs.Words.{read_signed, read_unsigned}
use Rattle.ecs_schema.proofs.numbers.read_number.Goals as goal

pub returns-in-I8 : goal.returns-in-I8
unfolding number_in
returns-in-I8 c =
    read_signed w8 _ _ _ c.from_le_bytes.type_inv c.from.type_inv c.from.ensures c.from_le_bytes.ensures
    ∙ ap (λ k. number_in k c.args.bytes.now) (sym c.in-I8.is)

pub returns-in-U8 : goal.returns-in-U8
unfolding number_in
returns-in-U8 c =
    read_unsigned _ _ c.from-in-U8.type_inv c.from-in-U8.ensures ∙ ap (λ k. number_in k c.args.bytes.now) (sym c.in-U8.is)

pub returns-in-I16 : goal.returns-in-I16
unfolding number_in
returns-in-I16 c =
    read_signed w16 _ _ _ c.from_le_bytes-in-I16.type_inv c.from-in-I16.type_inv c.from-in-I16.ensures c.from_le_bytes-in-I16.ensures
    ∙ ap (λ k. number_in k c.args.bytes.now) (sym c.in-I16.is)

pub returns-in-U16 : goal.returns-in-U16
unfolding number_in
returns-in-U16 c =
    read_unsigned _ _ c.from-in-U16.type_inv c.from-in-U16.ensures ∙ ap pos c.from_le_bytes-in-U16.ensures
    ∙ ap (λ k. number_in k c.args.bytes.now) (sym c.in-U16.is)

pub returns-in-I32 : goal.returns-in-I32
unfolding number_in
returns-in-I32 c =
    read_signed w32 _ _ _ c.from_le_bytes-in-I32.type_inv c.from-in-I32.type_inv c.from-in-I32.ensures c.from_le_bytes-in-I32.ensures
    ∙ ap (λ bs. to_z w32 (from_le_bytes w32 bs)) c.four.ensures
    ∙ ap (λ k. number_in k c.args.bytes.now) (sym c.in-I32.is)

pub returns-in-U32 : goal.returns-in-U32
unfolding number_in
returns-in-U32 c =
    read_unsigned _ _ c.from-in-U32.type_inv c.from-in-U32.ensures ∙ ap pos c.from_le_bytes-in-U32.ensures
    ∙ ap (λ bs. pos (from_le_bytes w32 bs)) c.four-in-U32.ensures
    ∙ ap (λ k. number_in k c.args.bytes.now) (sym c.in-U32.is)

pub returns-in-I64 : goal.returns-in-I64
unfolding number_in
returns-in-I64 c =
    read_signed w64 _ _ _ c.from_le_bytes-in-I64.type_inv c.from-in-I64.type_inv c.from-in-I64.ensures c.from_le_bytes-in-I64.ensures
    ∙ ap (λ bs. to_z w64 (from_le_bytes w64 bs)) c.eight.ensures
    ∙ ap (λ k. number_in k c.args.bytes.now) (sym c.in-I64.is)

pub returns-in-U64 : goal.returns-in-U64
unfolding number_in
returns-in-U64 c =
    read_unsigned _ _ c.from-in-U64.type_inv c.from-in-U64.ensures ∙ ap pos c.from_le_bytes-in-U64.ensures
    ∙ ap (λ bs. pos (from_le_bytes w64 bs)) c.eight-in-U64.ensures
    ∙ ap (λ k. number_in k c.args.bytes.now) (sym c.in-U64.is)
