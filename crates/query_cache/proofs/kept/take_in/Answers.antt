use Rattle.std.proofs.Common.{ap, append-nil, arith, false, filter, length, max, nat_le, subst, sym, take, true, ◌≡◌, ◌+◌, ◌++◌, ◌∷◌, [], ◌∙◌}
use Rattle.std.proofs.lemmas.List.{take_all, take_more}
use Rattle.query_cache.specs.Kept.{Counts, is_kept as kept_there, stands}
use Rattle.query_cache.proofs.TakenTables.{all_taken_in, from_front, on_err, on_ok, one_judged, one_taken, only_before, refused}
use Rattle.query_cache.proofs.kept.take_in.Goals as goal
use Rattle.query_cache.proofs.kept.take_in.Goals.{else-is_kept-via-else-is_kept, else-is_kept-via-then-is_kept+else-is_err}

pub returns-then-is_err : goal.returns-then-is_err
returns-then-is_err g c =
    let s = c.args.tables.now in
    let newer = c.newer-key-items.result.now in
    let i = c.loop-key.key-index in
    let key = c.key-item.result in
    let more : take (i + 1) newer ≡ take i newer ++ key ∷ [] = take_more newer i key c.loop-key-test.true ∙ ap (λ k. take i newer ++ k ∷ []) (sym c.key-item.is) in
    refused s c.remembered.ensures.whole.0 c.args.patterns.now c.args.last newer (λ k there high. c.newer-key-items.ensures.listed k (c.remembered.ensures.listed k there) high) c.newer-key-items.ensures.newer c.newer-key-items.ensures.rising
    c.args.keys.now.items c.retain.new.self.items c.args.judged.now c.is_kept.new.judged _ (i + 1)
    (subst (λ l. Counts c.args.judged.now (length (filter (stands s) l)) c.is_kept.new.judged) (sym more)
    (one_judged (stands s) c.args.judged.now c.loop-key.judged c.is_kept.new.judged (take i newer) key c.loop-key.invariant.counted c.is_kept.ensures.judged))
    (
    c.retain.ensures
    ∙ ap (filter (λ k. nat_le k.serial c.args.last)) (on_err _ c.push.result (sym c.is_err.ensures.value ∙ c.if-is_err.true) c.push.ensures.refused ∙ c.loop-key.invariant.taken)
    ∙ only_before c.args.last (kept_there c.args.patterns.now s) c.args.keys.now.items (take i newer) c.requires (λ k has. c.newer-key-items.ensures.newer k (from_front i newer k has))
    )

pub loop-key-preserved : goal.loop-key-preserved
loop-key-preserved g c =
    let s = c.args.tables.now in
    let newer = c.newer-key-items.result.now in
    let i = c.loop-key.key-index in
    let key = c.key-item.result in
    let more : take (i + 1) newer ≡ take i newer ++ key ∷ [] = take_more newer i key c.loop-key-test.true ∙ ap (λ k. take i newer ++ k ∷ []) (sym c.key-item.is) in
    let p = kept_there c.args.patterns.now s in
    record {
      taken = elim c.else-is_kept.branch [
        | else-is_kept-via-then-is_kept+else-is_err w ↦
            one_taken p c.args.keys.now.items (take i newer) c.loop-key.keys.items c.else-is_kept.keys.items key true (sym w.if-is_kept.true ∙ c.is_kept.ensures.kept) c.loop-key.invariant.taken
            (ap (λ t. t.items) w.keys-is ∙ on_ok _ w.push.result (sym w.is_err.ensures.value ∙ w.if-is_err.false) w.push.ensures.pushed)
            ∙ ap (λ l. c.args.keys.now.items ++ filter p l) (sym more)
        | else-is_kept-via-else-is_kept w ↦
            one_taken p c.args.keys.now.items (take i newer) c.loop-key.keys.items c.else-is_kept.keys.items key false (sym w.if-is_kept.false ∙ c.is_kept.ensures.kept) c.loop-key.invariant.taken
            (ap (λ t. t.items) w.keys-is ∙ sym (append-nil c.loop-key.keys.items))
            ∙ ap (λ l. c.args.keys.now.items ++ filter p l) (sym more)
      ];
      counted = subst (λ l. Counts c.args.judged.now (length (filter (stands s) l)) c.is_kept.new.judged) (sym more)
          (one_judged (stands s) c.args.judged.now c.loop-key.judged c.is_kept.new.judged (take i newer) key c.loop-key.invariant.counted c.is_kept.ensures.judged);
    }

pub returns : goal.returns
returns g c =
    let s = c.args.tables.now in
    let newer = c.newer-key-items.result.now in
    let i = c.loop-key.key-index in
    let all = take_all i newer (omega (arith, c.loop-key-test.false)) in
    all_taken_in s c.remembered.ensures.whole.0 c.args.patterns.now c.args.last newer (λ k there high. c.newer-key-items.ensures.listed k (c.remembered.ensures.listed k there) high) c.newer-key-items.ensures.newer c.newer-key-items.ensures.rising
    c.args.keys.now.items c.loop-key.keys.items c.args.judged.now c.loop-key.judged c.max.result
    (c.loop-key.invariant.taken ∙ ap (λ l. c.args.keys.now.items ++ filter (kept_there c.args.patterns.now s) l) all)
    (subst (λ l. Counts c.args.judged.now (length (filter (stands s) l)) c.loop-key.judged) all c.loop-key.invariant.counted)
    (c.max.ensures ∙ ap (max c.args.last) c.last.ensures)
