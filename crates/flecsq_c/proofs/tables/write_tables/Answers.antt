-- One table more was written, or there was no place for it.
use Rattle.std.proofs.Common.{◌≡◌, ◌+◌, ◌≤◌, length, min, refl, sym, ◌∙◌, ap, subst, arith}
use Rattle.flecsq_c.specs.Tables.{most_counted, told_chunk, told_of}
use Rattle.flecsq_c.proofs.Written.{IsWriting, writing_more, writing_past}
use Rattle.flecsq_c.proofs.tables.write_tables.Goals as goal
use Rattle.flecsq_c.proofs.tables.write_tables.Goals.{then-count-tables, else-count-tables}

pub written-preserved : goal.written-preserved
written-preserved c =
    let all = c.start-chunks.result.chunks in
    let before = c.args.tables.now in
    let chunk = c.in-Some.chunk in
    let later = c.next_chunk.new.self.chunks in
    let tables = c.written.tables in
    let count = c.written.count in
    let next = c.saturating_add-count.result in
    let is : next ≡ min (count + 1) most_counted = c.saturating_add-count.ensures in
    elim c.if-count-tables.branch [
      | then-count-tables w ↦
          let low = w.if-count-tables.true in
          let few : length tables ≤ most_counted = omega arith in
          let same : told_of w.of.result ≡ told_chunk chunk = λ i. ((w.of.ensures.key ∙ w.table.ensures) i, (w.of.ensures.count ∙ ap length w.entities.ensures) i) in
          subst (λ ts. IsWriting all before later ts next) (sym w.tables-is)
          (writing_more all before chunk c.written.chunks.chunks later tables count w.of.result c.written.invariant c.in-Some.ensures.given same low few next is)
      | else-count-tables w ↦
          subst (λ ts. IsWriting all before later ts next) (sym w.tables-is)
          (writing_past all before chunk c.written.chunks.chunks later tables count c.written.invariant c.in-Some.ensures.given w.if-count-tables.false next is)
    ]
