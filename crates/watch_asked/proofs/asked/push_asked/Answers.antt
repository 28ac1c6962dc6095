use Rattle.std.specs.Prelude.{map}
use Rattle.std.proofs.Common.{◌≡◌, [], refl, sym, vec_len, ◌∙◌}
use Rattle.std.proofs.lemmas.Bool.{ne_eqb}
use Rattle.std.proofs.lemmas.Bool.Decides.{Decides-eqb}
use Rattle.std.proofs.lemmas.List.{nil_from_length}
use Rattle.query_check.specs.Seen.{seen_piece}
use Rattle.watch_asked.proofs.AskedPatterns.{another_judged, this_idle, unasked_idle}
use Rattle.watch_asked.proofs.asked.push_asked.Goals as goal

pub returns-then-variable-eq0 : goal.returns-then-variable-eq0
returns-then-variable-eq0 g c only held i =
    this_idle only c.args.terms.now c.args.whole (map seen_piece c.args.pieces.now) held i c.args.variable c.args.others.now.items c.if-variable-eq0.true

pub returns-then-is_empty : goal.returns-then-is_empty
returns-then-is_empty g c only held i =
    let asks = c.in_ok-asks.asks.items in
    let zero_len : vec_len c.in_ok-asks.asks ≡ 0 = (Decides-eqb (vec_len c.in_ok-asks.asks) 0).0 (sym c.is_empty.ensures ∙ c.if-is_empty.true) in
    let none : asks ≡ [] = nil_from_length asks (sym (c.in_ok-asks.asks.ok).0 ∙ zero_len) in
    unasked_idle only c.args.terms.now c.args.whole (map seen_piece c.args.pieces.now) held i c.args.variable c.args.others.now.items (sym c.in_ok-asks.ensures ∙ none)

pub returns : goal.returns
returns g c only held i =
    another_judged only c.args.terms.now c.args.whole (map seen_piece c.args.pieces.now) held i c.args.variable c.args.others.now.items _ _
    refl (ne_eqb c.args.variable 0 c.if-variable-eq0.false) c.in_ok-asks.ensures c.in_ok-needs.ensures c.in_ok-push.ensures.items
