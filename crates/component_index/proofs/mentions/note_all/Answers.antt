use Rattle.std.proofs.Common.{arith, sym, true≢false}
use Rattle.component_index.proofs.MentionLemmas.{Keeps-steps, noted_end, noted_more}
use Rattle.component_index.proofs.mentions.note_all.Goals as goal

pub loop-id-init : goal.loop-id-init
loop-id-init g c = (λ p h. absurd (true≢false (sym h)), λ i h. h)

pub returns-in_err-note-clause-kept : goal.returns-in_err-note-clause-kept
returns-in_err-note-clause-kept g c = Keeps-steps c.args.marks.now.items c.loop-id.marks.items c.note.new.marks.items c.loop-id.invariant.1 c.note.ensures.kept

pub loop-id-preserved : goal.loop-id-preserved
loop-id-preserved g c = (
  noted_more c.loop-id.marks.items c.note.new.marks.items c.args.ids.now c.loop-id.id-index c.id-item.result c.id-item.result c.id-item.is (omega arith) c.note.ensures.kept c.loop-id.invariant.0 c.in_ok-note.ensures.noted,
  Keeps-steps c.args.marks.now.items c.loop-id.marks.items c.note.new.marks.items c.loop-id.invariant.1 c.note.ensures.kept,
)

pub returns-clause-noted : goal.returns-clause-noted
returns-clause-noted g c = noted_end c.loop-id.marks.items c.args.ids.now c.loop-id.id-index (omega arith) c.loop-id.invariant.0

pub returns-clause-kept : goal.returns-clause-kept
returns-clause-kept g c = c.loop-id.invariant.1
