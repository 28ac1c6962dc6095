-- Moves of rows stand after all others, and are kept one after another from the last on.
use Rattle.std.specs.Prelude.{◌≡◌, ℕ, ◌+◌, List, [], ◌∷◌, ◌++◌, Option, Some, length, map, slice_get, take}
use Rattle.std.specs.declared.string.String.{String}
use Rattle.std.proofs.Common.{sym, subst, ◌∙◌, arith, get_or, inl, inr}
use Rattle.std.proofs.Math.ListN.{set}
use Rattle.std.proofs.lemmas.List.{take-set, take_all, take_more}
use Rattle.watch_stored.specs.declared.moves.RowsAfter.{RowsAfter}
use Rattle.watch_stored.specs.declared.stored.StoredQuery.{StoredQuery}
use Rattle.watch_stored.specs.Held.{Held}
use Rattle.watch_stored.specs.Parts.{IsPut}
use Rattle.ecs_observe.specs.Parts.{held_of}
use Rattle.ecs_observe.proofs.EventEffects.{ArePlacedUpTo, none_put_there, one_placed}

module _ {X : Type 0} where
  -- what is left without the last, and that after it
  pub split_last : (items left : List X) (i : ℕ) (x y : X) → i + 1 ≡ length items → x ≡ get_or items i x → (n : ℕ) → left ≡ take n (set items i y) → n ≡ i → left ++ x ∷ [] ≡ items
  split_last items left i x y all is n front same =
      (λ j. (front ∙ (λ k. take (same k) (set items i y)) ∙ take-set items i y) j ++ is j ∷ []) ∙ (sym (take_more items i x (omega (arith, all))) ∙ take_all (i + 1) items (omega (arith, all)))

-- what is put of one more stored query, or not, is put after that of those before it
module _ {A : Type 0} (f : Held → Option (List ℕ)) (es : List (String A × StoredQuery A)) where
  pub put_there : (i : ℕ) (placed more : List (ℕ × RowsAfter A)) (name : String A) (q : StoredQuery A)
      → ArePlacedUpTo f es i placed → slice_get (map held_of es) i ≡ Some (held_of (name, q)) → slice_get es i ≡ Some (name, q)
      → IsPut (f (held_of (name, q))) i q placed more → ArePlacedUpTo f es (i + 1) more
  put_there i placed more name q so there entry (inl none) = subst (ArePlacedUpTo f es (i + 1)) (sym none.1) (none_put_there f es i placed (held_of (name, q)) so there none.0)
  put_there i placed more name q so there entry (inr some) = one_placed f es i placed more so (name, q) some.0 entry some.1.0 some.1.1
