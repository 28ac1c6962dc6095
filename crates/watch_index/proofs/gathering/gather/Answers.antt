use Rattle.std.specs.Prelude.{flat_map, if◌then◌else◌}
use Rattle.std.proofs.Common.{[], ◌∷◌, ◌++◌, ap, ◌∙◌}
use Rattle.watch_index.specs.Listed.{listed}
use Rattle.watch_index.specs.declared.occasion.Occasion.TheVariants.{Life}
use Rattle.watch_index.proofs.GatheredNumbers.{all_gathered}
use Rattle.watch_index.proofs.gathering.gather.Goals as goal

pub returns : goal.returns
returns g c =
    let ls = c.args.index.now in
    all_gathered ls c.args.happened.lives c.args.happened.came.now c.args.happened.went.now c.args.happened.written.now
    c.push_lives.new.numbers.items c.push_moved.new.numbers.items c.push_moved-2.new.numbers.items c.push_written.new.numbers.items
    (c.in_ok-push_lives.ensures ∙ ap (λ xs. xs ++ flat_map (listed ls) (if c.args.happened.lives then Life ∷ [] else [])) c.requires.empty)
    c.in_ok-push_moved.ensures c.in_ok-push_moved-2.ensures c.in_ok-push_written.ensures
