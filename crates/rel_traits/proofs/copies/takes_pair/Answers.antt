use Rattle.std.proofs.Common.{◌≡◌, ◌∙◌, Bool, true, false, not, ◌&&◌, ap, arith, sym, true≢false}
use Rattle.ecs_id.specs.Id.{plain}
use Rattle.ecs_model.specs.BuiltIns.{exclusive, symmetric, traversable}
use Rattle.ecs_model.specs.Links.{is_held}
use Rattle.rel_traits.specs.Copies.{pairs_with}
use Rattle.rel_traits.proofs.copies.takes_pair.Goals.{then-contains, else-contains, then-not-contains, else-not-contains}
use Rattle.rel_traits.proofs.copies.takes_pair.Goals as goal

kept_by_pairs : (t s e p r : Bool) → t ≡ false → not s ≡ true → r ≡ (e && p) → not r ≡ (not t && not s && not (e && p))
kept_by_pairs true s e p r h k is = absurd (true≢false h)
kept_by_pairs false true e p r h k is = absurd (true≢false (sym k))
kept_by_pairs false false e p r h k is = ap not is

kept_by_mirrors : (t s e p v : Bool) → t ≡ false → v ≡ not s → v ≡ false → v ≡ (not t && not s && not (e && p))
kept_by_mirrors true s e p v h k is = absurd (true≢false h)
kept_by_mirrors false true e p v h k is = is
kept_by_mirrors false false e p v h k is = absurd (true≢false (sym k ∙ is))

kept_by_climbs : (t s e p v : Bool) → t ≡ true → v ≡ false → v ≡ (not t && not s && not (e && p))
kept_by_climbs true s e p v h is = is
kept_by_climbs false s e p v h is = absurd (true≢false (sym h))

pub returns-after-contains : goal.returns-after-contains
returns-after-contains c =
    let traits = c.args.traits.now in
    let told = c.traits_among-traits.ensures.held in
    let paired = pairs_with c.args.held.now c.args.entity c.args.added.now c.args.relationship in
    let climbs : is_held traits (plain traversable) ≡ c.contains.result = sym (c.contains.ensures tt ∙ told 5 (omega arith)) in
    let single : is_held traits (plain exclusive) ≡ c.contains-then-not-contains-2.result = sym (c.contains-then-not-contains-2.ensures tt ∙ told 0 (omega arith)) in
    let pairs : c.if-contains.result ≡ (is_held traits (plain exclusive) && paired) =
    elim c.if-contains.branch [
      | then-contains v ↦ v.result-is ∙ v.has_own_pair.ensures ∙ ap (λ b. b && paired) (sym (single ∙ v.if-contains.true))
      | else-contains v ↦ v.result-is ∙ v.if-contains.false ∙ ap (λ b. b && paired) (sym (single ∙ v.if-contains.false))
    ] in
    elim c.if-not-contains.branch [
      | then-not-contains w ↦
          let mirrors : is_held traits (plain symmetric) ≡ w.contains-then-not-contains.result = sym (w.contains-then-not-contains.ensures tt ∙ told 1 (omega arith)) in
          kept_by_pairs (is_held traits (plain traversable)) (is_held traits (plain symmetric)) (is_held traits (plain exclusive)) paired c.if-contains.result
          (climbs ∙ w.if-not-contains.true) (ap not mirrors ∙ sym w.value-is ∙ c.if-not-contains-2.true) pairs
      | else-not-contains w ↦ absurd (true≢false (sym c.if-not-contains-2.true ∙ w.value-is ∙ ap not w.if-not-contains.false))
    ]

pub returns-else-not-contains-2 : goal.returns-else-not-contains-2
returns-else-not-contains-2 c =
    let traits = c.args.traits.now in
    let told = c.traits_among-traits.ensures.held in
    let paired = pairs_with c.args.held.now c.args.entity c.args.added.now c.args.relationship in
    let climbs : is_held traits (plain traversable) ≡ c.contains.result = sym (c.contains.ensures tt ∙ told 5 (omega arith)) in
    elim c.if-not-contains.branch [
      | then-not-contains w ↦
          let mirrors : is_held traits (plain symmetric) ≡ w.contains-then-not-contains.result = sym (w.contains-then-not-contains.ensures tt ∙ told 1 (omega arith)) in
          kept_by_mirrors (is_held traits (plain traversable)) (is_held traits (plain symmetric)) (is_held traits (plain exclusive)) paired c.if-not-contains.value
          (climbs ∙ w.if-not-contains.true) (w.value-is ∙ ap not (sym mirrors)) c.if-not-contains-2.false
      | else-not-contains w ↦
          kept_by_climbs (is_held traits (plain traversable)) (is_held traits (plain symmetric)) (is_held traits (plain exclusive)) paired c.if-not-contains.value
          (climbs ∙ w.if-not-contains.false) c.if-not-contains-2.false
    ]
