-- The events of a list, one element after another.
use Rattle.std.specs.List.{filter}
use Rattle.std.proofs.Common.{◌≡◌, ℕ, ◌≤◌, Bool, List, [], ◌++◌, map, take, length, sym, ap, ◌∙◌, append-nil}
use Rattle.std.proofs.lemmas.List.{take_all}

-- nothing, where nothing passes
pub told_none : {X Y : Type 0} (f : X → Y) (test : X → Bool) (start : List Y) (xs : List X) → filter test xs ≡ [] → start ≡ start ++ map f (filter test xs)
told_none f test start xs e = sym (append-nil start) ∙ ap (λ ys. start ++ map f ys) (sym e)

-- all, once the end is reached
pub told_all : {X Y : Type 0} (f : X → Y) (test asked : X → Bool) (start told : List Y) (xs : List X) (n : ℕ) → told ≡ start ++ map f (filter test (take n xs)) → length xs ≤ n
    → filter asked xs ≡ filter test xs → told ≡ start ++ map f (filter asked xs)
told_all f test asked start told xs n e end same = e ∙ ap (λ ys. start ++ map f (filter test ys)) (take_all n xs end) ∙ ap (λ ys. start ++ map f ys) (sym same)
