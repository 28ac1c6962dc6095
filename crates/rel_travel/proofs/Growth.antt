-- A list that grows by what it doesn't have of others, one after another.
use Rattle.std.proofs.Common.{◌≡◌, ℕ, ◌+◌, ◌<◌, ◌⊎◌, ◌↔◌, IsTrue, Bool, true, false, List, [], ◌∷◌, ◌++◌, length, get_or, take, refl, ◌∙◌, inl, inr, arith}
use Rattle.std.specs.Cmp.{nat_eq_equiv}
use Rattle.std.specs.List.{Contains}
use Rattle.std.proofs.lemmas.Bool.Decides.{Decides-eqb}
use Rattle.std.proofs.lemmas.List.{get_or_append_left, length-append, take_more}
use Rattle.std.proofs.lemmas.List.Elements.{Contains-append_cases, Contains-append_left, Contains-append_right, Contains-push, Contains-push_cases, filter_map-append}
use Rattle.std.proofs.lemmas.Map.Views.{Contains-from_any, list_any-from_Contains}
use Rattle.ecs_id.specs.Id.{Id}
use Rattle.rel_travel.specs.Finds.{is_among, with_find}
use Rattle.rel_travel.specs.Growing.{IsGrownBy, IsGrownWhere}
use Rattle.ecs_model.specs.Links.{target_under, targets_in}

module _ {A : Type 0} where
  pub IsGrownBy-none : (xs : List A) → IsGrownBy [] xs xs
  IsGrownBy-none xs = record {
    longer = omega arith;
    kept = λ k d l. refl;
    exact = λ y. (λ h. inl h, λ h. elim h [ inl i ↦ i | inr i ↦ absurd (omega (arith, i.1)) ]);
  }

  -- one more that isn't there, at the end
  pub IsGrownBy-push : (added old new : List A) (y : A) → IsGrownBy added old new → IsGrownBy (added ++ y ∷ []) old (new ++ y ∷ [])
  IsGrownBy-push added old new y g = record {
    longer = omega (arith, g.longer, length-append new (y ∷ []));
    kept = λ k d l. get_or_append_left new (y ∷ []) d k (omega (arith, g.longer)) ∙ g.kept k d l;
    exact = λ z. (λ h. into z (Contains-push_cases new y z h), λ h. out z h);
  }
    where
      into : (z : A) → Contains new z ⊎ (y ≡ z) → Contains old z ⊎ Contains (added ++ y ∷ []) z
      into z (inl h) = elim ((g.exact z).0 h) [ inl i ↦ inl i | inr i ↦ inr (Contains-append_left added (y ∷ []) z i) ]
      into z (inr e) = inr (rw (← e) (Contains-push added y))

      out : (z : A) → Contains old z ⊎ Contains (added ++ y ∷ []) z → Contains (new ++ y ∷ []) z
      out z (inl h) = Contains-append_left new (y ∷ []) z ((g.exact z).1 (inl h))
      out z (inr h) = elim (Contains-push_cases added y z h) [ inl i ↦ Contains-append_left new (y ∷ []) z ((g.exact z).1 (inr i)) | inr e ↦ rw (← e) (Contains-push new y) ]

  -- one more that is there
  pub IsGrownBy-again : (added old new : List A) (y : A) → Contains new y → IsGrownBy added old new → IsGrownBy (added ++ y ∷ []) old new
  IsGrownBy-again added old new y there g = record {
    longer = g.longer;
    kept = g.kept;
    exact = λ z. (λ h. elim ((g.exact z).0 h) [ inl i ↦ inl i | inr i ↦ inr (Contains-append_left added (y ∷ []) z i) ], λ h. out z h);
  }
    where
      out : (z : A) → Contains old z ⊎ Contains (added ++ y ∷ []) z → Contains new z
      out z (inl h) = (g.exact z).1 (inl h)
      out z (inr h) = elim (Contains-push_cases added y z h) [ inl i ↦ (g.exact z).1 (inr i) | inr e ↦ rw (← e) there ]

module _ {A : Type 0} {P Q : A → Type 0} where
  -- first by some, and then by others
  pub IsGrownWhere-then : (old mid new : List A) → IsGrownWhere P old mid → IsGrownWhere Q mid new → IsGrownWhere (λ y. P y ⊎ Q y) old new
  IsGrownWhere-then old mid new f g = record {
    longer = omega (arith, f.longer, g.longer);
    kept = λ k d l. g.kept k d (omega (arith, f.longer)) ∙ f.kept k d l;
    exact = λ y. (λ h. elim ((g.exact y).0 h) [ inl m ↦ before y ((f.exact y).0 m) | inr q ↦ inr (inr q) ], λ h. after y h);
  }
    where
      before : (y : A) → Contains old y ⊎ P y → Contains old y ⊎ (P y ⊎ Q y)
      before y (inl o) = inl o
      before y (inr p) = inr (inl p)

      after : (y : A) → Contains old y ⊎ (P y ⊎ Q y) → Contains new y
      after y (inl o) = (g.exact y).1 (inl ((f.exact y).1 (inl o)))
      after y (inr (inl p)) = (g.exact y).1 (inl ((f.exact y).1 (inr p)))
      after y (inr (inr q)) = (g.exact y).1 (inr q)

  -- by the same things in other words
  pub IsGrownWhere-same : (old new : List A) → ((y : A) → P y ↔ Q y) → IsGrownWhere P old new → IsGrownWhere Q old new
  IsGrownWhere-same old new same g = record {
    longer = g.longer;
    kept = g.kept;
    exact = λ y. (λ h. elim ((g.exact y).0 h) [ inl o ↦ inl o | inr p ↦ inr ((same y).0 p) ], λ h. elim h [ inl o ↦ (g.exact y).1 (inl o) | inr q ↦ (g.exact y).1 (inr ((same y).1 q)) ]);
  }

-- first by the items of a list, and then by those of another one
pub IsGrownBy-then : {A : Type 0} (xs ys old mid new : List A) → IsGrownBy xs old mid → IsGrownBy ys mid new → IsGrownBy (xs ++ ys) old new
IsGrownBy-then xs ys old mid new f g =
    IsGrownWhere-same old new (λ y. (λ h. elim h [ inl a ↦ Contains-append_left xs ys y a | inr b ↦ Contains-append_right xs ys y b ], λ h. Contains-append_cases xs ys y h)) (IsGrownWhere-then old mid new f g)

-- the test of membership decides it
pub is_among_tells : (xs : List ℕ) (y : ℕ) → IsTrue (is_among xs y) ↔ Contains xs y
is_among_tells xs y = (Contains-from_any (λ x z. (Decides-eqb x z).0) y xs, list_any-from_Contains nat_eq_equiv y xs)

find_at : (b : Bool) (added old new : List ℕ) (y : ℕ) → is_among new y ≡ b → IsGrownBy added old new → IsGrownBy (added ++ y ∷ []) old (with_find new y)
find_at true added old new y e g = rw e (IsGrownBy-again added old new y ((is_among_tells new y).0 e) g)
find_at false added old new y e g = rw e (IsGrownBy-push added old new y g)

pub IsGrownBy-find : (added old new : List ℕ) (y : ℕ) → IsGrownBy added old new → IsGrownBy (added ++ y ∷ []) old (with_find new y)
IsGrownBy-find added old new y g = find_at (is_among new y) added old new y refl g

-- the targets among one more id
pub targets_more : (ids : List Id) (r k : ℕ) (i d : Id) → k < length ids → i ≡ get_or ids k d → targets_in (take (k + 1) ids) r ≡ targets_in (take k ids) r ++ targets_in (i ∷ []) r
targets_more ids r k i d l e = rw (take_more ids k d l, ← e) (filter_map-append (target_under r) (take k ids) (i ∷ []))
