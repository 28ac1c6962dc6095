use Rattle.std.proofs.Common.{◌≡◌, ℕ, List, [], ◌∷◌, ◌++◌, append_assoc, drop, sym, ap, ◌∙◌}
use Rattle.std.specs.Prelude.{codes, decimal}
use Rattle.ecs_print.proofs.entities.put_handle.Goals as goal

joined : (index generation rest : List ℕ) → 35 ∷ (index ++ (46 ∷ (generation ++ rest))) ≡ (codes "#" ++ index ++ codes "." ++ generation) ++ rest
joined index generation rest = ap (λ t. 35 ∷ t) (sym (append_assoc (index ++ 46 ∷ []) generation rest ∙ append_assoc index (46 ∷ []) (generation ++ rest)))

pub returns-clause-written : goal.returns-clause-written
returns-clause-written c =
    c.write_marked.ensures.written ∙ (λ i. 35 ∷ (decimal (c.from-2.ensures i) ++ c.write_marked-middle.ensures.written i)) ∙ (λ i. 35 ∷ (decimal c.args.entity.index ++ (46 ∷ (decimal (c.from.ensures i) ++ drop c.args.end c.args.text.now))))
    ∙ joined (decimal c.args.entity.index) (decimal c.args.entity.generation) (drop c.args.end c.args.text.now)
