use Rattle.std.proofs.Common.{◌≡◌, [], ◌++◌, take, map, option_map}
use Rattle.std.specs.List.{cons_option}
use Rattle.watch_touched.proofs.indexes.gathered.Given as goal

abbrev pub invariant-loop-death : goal.invariant-loop-death
invariant-loop-death g l = l.indexes.items ≡ cons_option (option_map (λ e. e.index) l.changes.born) [] ++ map (λ d. (d.0).index) (take l.death-index l.changes.died)
