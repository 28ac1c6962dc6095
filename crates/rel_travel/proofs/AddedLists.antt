-- A list that takes in others, one after another, where it doesn't have what they hold.
use Rattle.std.proofs.Common.{◌≡◌, ℕ, ◌+◌, ◌<◌, ◌≤◌, List, [], ◌∷◌, ◌++◌, length, get_or, take, take_all, Some, None, sym, ap, ◌∙◌}
use Rattle.std.specs.Prelude.{map}
use Rattle.std.specs.List.{flat_map}
use Rattle.std.proofs.lemmas.Grind.{flat_map-append, fold-append}
use Rattle.std.proofs.lemmas.List.{append-nil, map-append, take_more}
use Rattle.ecs_id.specs.Id.{Id}
use Rattle.ecs_model.specs.Links.{target_under, targets_in}
use Rattle.rel_travel.specs.Coming.{with_finds}
use Rattle.rel_travel.specs.Finds.{with_find}
use Rattle.rel_travel.specs.Growing.{IsGrownBy}
use Rattle.rel_travel.proofs.Growth.{IsGrownBy-find, IsGrownBy-none, IsGrownBy-then, targets_more}

-- it has grown by them
pub grown_finds : (ys old : List ℕ) → IsGrownBy ys old (with_finds old ys)
grown_finds [] old = IsGrownBy-none old
grown_finds (y ∷ ys) old = IsGrownBy-then (y ∷ []) ys old (with_find old y) (with_finds old (y ∷ ys)) (IsGrownBy-find [] old old y (IsGrownBy-none old)) (grown_finds ys (with_find old y))

pub grown_so : (ys old new : List ℕ) → new ≡ with_finds old ys → IsGrownBy ys old new
grown_so ys old new is = rw is (grown_finds ys old)

-- by some, and then by others
pub finds_then : (old mid new xs ys : List ℕ) → mid ≡ with_finds old xs → new ≡ with_finds mid ys → new ≡ with_finds old (xs ++ ys)
finds_then old mid new xs ys is now = now ∙ ap (λ zs. with_finds zs ys) is ∙ sym (fold-append with_find old xs ys)

-- one more id, by whether it is a pair of the relationship
pub found_target : (ids : List Id) (r k : ℕ) (i : Id) (y : ℕ) (old mid new : List ℕ) → k < length ids → i ≡ get_or ids k i → target_under r i ≡ Some y
    → mid ≡ with_finds old (targets_in (take k ids) r) → new ≡ with_find mid y → new ≡ with_finds old (targets_in (take (k + 1) ids) r)
found_target ids r k i y old mid new l e t is now = rw (targets_more ids r k i i l e, t) (finds_then old mid new (targets_in (take k ids) r) (y ∷ []) is now)

pub found_no_target : (ids : List Id) (r k : ℕ) (i : Id) (old mid : List ℕ) → k < length ids → i ≡ get_or ids k i → target_under r i ≡ None
    → mid ≡ with_finds old (targets_in (take k ids) r) → mid ≡ with_finds old (targets_in (take (k + 1) ids) r)
found_no_target ids r k i old mid l e t is = rw (targets_more ids r k i i l e, t, append-nil (targets_in (take k ids) r)) is

-- one more row
pub found_row : {E : Type 0} (f : E → ℕ) (es : List E) (k : ℕ) (d : E) (old mid new : List ℕ) → k < length es
    → mid ≡ with_finds old (map f (take k es)) → new ≡ with_find mid (f (get_or es k d)) → new ≡ with_finds old (map f (take (k + 1) es))
found_row f es k d old mid new l is now = rw (take_more es k d l, map-append f (take k es) (get_or es k d ∷ [])) (finds_then old mid new (map f (take k es)) (f (get_or es k d) ∷ []) is now)

-- one more table
pub found_table : {T : Type 0} (rows : T → List ℕ) (ts : List T) (k : ℕ) (d : T) (added old mid new : List ℕ) → k < length ts → added ≡ rows (get_or ts k d)
    → mid ≡ with_finds old (flat_map rows (take k ts)) → new ≡ with_finds mid added → new ≡ with_finds old (flat_map rows (take (k + 1) ts))
found_table rows ts k d added old mid new l e is now =
    rw (take_more ts k d l, flat_map-append rows (take k ts) (get_or ts k d ∷ []), append-nil (rows (get_or ts k d)), ← e)
    (finds_then old mid new (flat_map rows (take k ts)) added is now)

-- all of them
pub found_all : {T : Type 0} (take_in : List T → List ℕ) (ts : List T) (k : ℕ) (old new : List ℕ) → length ts ≤ k → new ≡ with_finds old (take_in (take k ts)) → new ≡ with_finds old (take_in ts)
found_all take_in ts k old new l is = is ∙ ap (λ xs. with_finds old (take_in xs)) (take_all k ts l)
