-- What a list of places by index leads to among the short names, after one more stands last and after one goes.
use Rattle.std.proofs.Common.{◌≡◌, ◌≢◌, ◌⊎◌, ℕ, zero, suc, ◌-◌, ◌<◌, ◌==◌, Bool, true, false, cond, List, [], ◌∷◌, ◌++◌, Some, None, Option, length, get_or, take, slice_get, slice_index_or, slice_set, swap_remove, inl, inr, ⊎_elim, true≢false, refl, sym, ap, subst, ◌∙◌, arith}
use Rattle.std.proofs.lemmas.Option.{none-some, same_Some, cond_some, slice_get-get_or, slice_get_within, get_or_from_slice_get}
use Rattle.std.proofs.lemmas.Bool.Decides.{Decides-eqb}
use Rattle.ecs_id.specs.declared.EntityId.{EntityId}
use Rattle.name_index.specs.Names.{entity_eq}
use Rattle.name_index.specs.Texts.{IsPut, entry_at, first_in, is_last, is_of, moved, moved_to, name_for}
use Rattle.name_index.proofs.EntityLemmas.{same_entity, entity_eq_true}

-- lists
module _ {X : Type 0} where
  push_told : (xs : List X) (x : X) (j : ℕ) (y : X) → slice_get (xs ++ x ∷ []) j ≡ Some y → (slice_get xs j ≡ Some y) ⊎ (x ≡ y)
  push_told [] x zero y h = inr (same_Some x y h)
  push_told [] x (suc j) y h = absurd (none-some y h)
  push_told (z ∷ xs) x zero y h = inl h
  push_told (z ∷ xs) x (suc j) y h = push_told xs x j y h

  push_keeps : (xs : List X) (x : X) (j : ℕ) (y : X) → slice_get xs j ≡ Some y → slice_get (xs ++ x ∷ []) j ≡ Some y
  push_keeps [] x j y h = absurd (none-some y h)
  push_keeps (z ∷ xs) x zero y h = h
  push_keeps (z ∷ xs) x (suc j) y h = push_keeps xs x j y h

  push_last : (xs : List X) (x : X) → slice_get (xs ++ x ∷ []) (length xs) ≡ Some x
  push_last [] x = refl
  push_last (z ∷ xs) x = push_last xs x

  set_other : (xs : List X) (i k : ℕ) (x : X) → i ≢ k → slice_get (slice_set xs i x) k ≡ slice_get xs k
  set_other [] i k x h = refl
  set_other (y ∷ xs) zero zero x h = absurd (h refl)
  set_other (y ∷ xs) zero (suc k) x h = refl
  set_other (y ∷ xs) (suc i) zero x h = refl
  set_other (y ∷ xs) (suc i) (suc k) x h = set_other xs i k x (λ e. h (ap suc e))

  set_here : (xs : List X) (i : ℕ) (x y : X) → slice_get xs i ≡ Some y → slice_get (slice_set xs i x) i ≡ Some x
  set_here [] i x y h = absurd (none-some y h)
  set_here (z ∷ xs) zero x y h = refl
  set_here (z ∷ xs) (suc i) x y h = set_here xs i x y h

  take_get : (m : ℕ) (xs : List X) (j : ℕ) → j < m → slice_get (take m xs) j ≡ slice_get xs j
  take_get zero xs j h = absurd (omega (arith, h))
  take_get (suc m) [] j h = refl
  take_get (suc m) (x ∷ xs) zero h = refl
  take_get (suc m) (x ∷ xs) (suc j) h = take_get m xs j (omega (arith, h))

  module _ (xs : List X) (i : ℕ) (d : X) (inside : i < length xs) where
    others_stay : (j : ℕ) → i ≢ j → j < length xs - 1 → slice_get (swap_remove xs i d) j ≡ slice_get xs j
    others_stay j differs within =
        take_get (length xs - 1) (slice_set xs i (slice_index_or xs (length xs - 1) d)) j within
        ∙ set_other xs i j (slice_index_or xs (length xs - 1) d) differs

    last_moves : i < length xs - 1 → slice_get (swap_remove xs i d) i ≡ slice_get xs (length xs - 1)
    last_moves within =
        take_get (length xs - 1) (slice_set xs i (slice_index_or xs (length xs - 1) d)) i within
        ∙ set_here xs i (slice_index_or xs (length xs - 1) d) (get_or xs i d) (slice_get-get_or xs i d inside)
        ∙ sym (slice_get-get_or xs (length xs - 1) d (omega (arith, inside)))

-- a list has what it answers, if that isn't what it answers past its end
from_default : (ps : List ℕ) (i at j : ℕ) → slice_index_or ps i at ≡ j → j ≢ at → slice_get ps i ≡ Some j
from_default [] i at j h differs = absurd (differs (sym h))
from_default (p ∷ ps) zero at j h differs = ap Some h
from_default (p ∷ ps) (suc i) at j h differs = from_default ps i at j h differs

-- the entry that has a name
named : (f : EntityId) (q : List ℕ) (o : Option (List ℕ × EntityId)) → name_for f o ≡ Some q → o ≡ Some (q, f)
named f q None h = absurd (none-some q h)
named f q (Some p) h =
    let c = cond_some (entity_eq p.1 f) p.0 q h in
    λ i. Some (c.1 i, same_entity p.1 f c.0 i)

name_told : (f : EntityId) (q : List ℕ) (o : Option (List ℕ × EntityId)) → o ≡ Some (q, f) → name_for f o ≡ Some q
name_told f q o h = ap (name_for f) h ∙ ap (λ b. cond b (Some q) None) (entity_eq_true f f refl)

has_place : (es : List (List ℕ × EntityId)) (o : Option ℕ) (x : List ℕ × EntityId) → entry_at es o ≡ Some x → (j : ℕ) × (o ≡ Some j) × (slice_get es j ≡ Some x)
has_place es None x h = absurd (none-some x h)
has_place es (Some j) x h = (j, refl, h)

module _ (ps : List ℕ) (es : List (List ℕ × EntityId)) (f : EntityId) (q : List ℕ) where
  pub place_of : first_in ps es f ≡ Some q → (j : ℕ) × (slice_get ps f.index ≡ Some j) × (slice_get es j ≡ Some (q, f))
  place_of h = has_place es (slice_get ps f.index) (q, f) (named f q (entry_at es (slice_get ps f.index)) h)

  first_by : (j : ℕ) → slice_get ps f.index ≡ Some j → slice_get es j ≡ Some (q, f) → first_in ps es f ≡ Some q
  first_by j p s = name_told f q (entry_at es (slice_get ps f.index)) (ap (entry_at es) p ∙ s)

-- ---- one more entry
module _ (ps ps' : List ℕ) (es : List (List ℕ × EntityId)) (n : List ℕ) (e : EntityId) where
  new_or_old : (f : EntityId) (q : List ℕ) (j : ℕ) → slice_get (es ++ (n, e) ∷ []) j ≡ Some (q, f) → (slice_get es j ≡ Some (q, f)) ⊎ ((q ≡ n) × (f ≡ e))
  new_or_old f q j h = ⊎_elim (λ old. inl old) (λ same. inr (sym (ap (λ p. p.0) same), sym (ap (λ p. p.1) same))) (push_told es (n, e) j (q, f) h)

  -- whose place isn't noted
  pub back_unplaced : ps' ≡ ps → (q : List ℕ) (f : EntityId) → first_in ps' (es ++ (n, e) ∷ []) f ≡ Some q → (first_in ps es f ≡ Some q) ⊎ ((q ≡ n) × (f ≡ e))
  back_unplaced same q f h =
      let p = place_of ps' (es ++ (n, e) ∷ []) f q h in
      ⊎_elim (λ old. inl (first_by ps es f q p.0 (ap (λ l. slice_get l f.index) (sym same) ∙ p.1) old)) (λ new. inr new) (new_or_old f q p.0 p.2)

  pub forth_unplaced : ps' ≡ ps → (q : List ℕ) (f : EntityId) → first_in ps es f ≡ Some q → first_in ps' (es ++ (n, e) ∷ []) f ≡ Some q
  forth_unplaced same q f h =
      let p = place_of ps es f q h in
      first_by ps' (es ++ (n, e) ∷ []) f q p.0 (ap (λ l. slice_get l f.index) same ∙ p.1) (push_keeps es (n, e) p.0 (q, f) p.2)

  module _ (at : ℕ) (is_end : at ≡ length es) (put : IsPut ps e.index at ps') where
    -- whose place is
    here_now : slice_get ps' e.index ≡ Some at
    here_now = slice_get-get_or ps' e.index at put.within ∙ ap Some put.here

    pub here_placed : first_in ps' (es ++ (n, e) ∷ []) e ≡ Some n
    here_placed = first_by ps' (es ++ (n, e) ∷ []) e n at here_now (ap (slice_get (es ++ (n, e) ∷ [])) is_end ∙ push_last es (n, e))

    below : (j : ℕ) (x : List ℕ × EntityId) → slice_get es j ≡ Some x → j ≢ at
    below j x h same = let within : j < length es = slice_get_within es j x h in absurd (omega (arith, within, same, is_end))

    back_at : (q : List ℕ) (f : EntityId) (j : ℕ) → slice_get ps' f.index ≡ Some j → slice_get es j ≡ Some (q, f) → (b : Bool) → (f.index == e.index) ≡ b → first_in ps es f ≡ Some q
    back_at q f j p s true is = absurd (below j (q, f) s (same_Some j at (sym p ∙ ap (slice_get ps') ((Decides-eqb f.index e.index).0 is) ∙ here_now)))
    back_at q f j p s false is =
        let differs : f.index ≢ e.index = λ same. true≢false (sym ((Decides-eqb f.index e.index).1 same) ∙ is) in
        let was : slice_index_or ps f.index at ≡ j = sym (put.others f.index differs) ∙ get_or_from_slice_get ps' f.index j at p in
        first_by ps es f q j (from_default ps f.index at j was (below j (q, f) s)) s

    pub back_placed : (q : List ℕ) (f : EntityId) → first_in ps' (es ++ (n, e) ∷ []) f ≡ Some q → (first_in ps es f ≡ Some q) ⊎ ((q ≡ n) × (f ≡ e))
    back_placed q f h =
        let p = place_of ps' (es ++ (n, e) ∷ []) f q h in
        ⊎_elim (λ old. inl (back_at q f p.0 p.1 old (f.index == e.index) refl)) (λ new. inr new) (new_or_old f q p.0 p.2)

    forth_at : (q : List ℕ) (f : EntityId) (j : ℕ) → is_of e.index (entry_at es (slice_get ps e.index)) ≡ false → slice_get ps f.index ≡ Some j → slice_get es j ≡ Some (q, f)
        → (b : Bool) → (f.index == e.index) ≡ b → first_in ps' (es ++ (n, e) ∷ []) f ≡ Some q
    forth_at q f j free p s true is =
        let index : slice_get ps e.index ≡ Some j = ap (slice_get ps) (sym ((Decides-eqb f.index e.index).0 is)) ∙ p in
        absurd (true≢false (sym is ∙ ap (is_of e.index) (sym (ap (entry_at es) index ∙ s)) ∙ free))
    forth_at q f j free p s false is =
        let differs : f.index ≢ e.index = λ same. true≢false (sym ((Decides-eqb f.index e.index).1 same) ∙ is) in
        let now : slice_index_or ps' f.index at ≡ j = put.others f.index differs ∙ get_or_from_slice_get ps f.index j at p in
        first_by ps' (es ++ (n, e) ∷ []) f q j (from_default ps' f.index at j now (below j (q, f) s)) (push_keeps es (n, e) j (q, f) s)

    pub forth_placed : is_of e.index (entry_at es (slice_get ps e.index)) ≡ false → (q : List ℕ) (f : EntityId) → first_in ps es f ≡ Some q → first_in ps' (es ++ (n, e) ∷ []) f ≡ Some q
    forth_placed free q f h =
        let p = place_of ps es f q h in
        forth_at q f p.0 free p.1 p.2 (f.index == e.index) refl

-- ---- one entry less
module _ (ps : List ℕ) (es : List (List ℕ × EntityId)) (place : ℕ) (p : List ℕ × EntityId) (there : slice_get es place ≡ Some p) (q : List ℕ) (f : EntityId) (j : ℕ)
    (at_j : slice_get ps f.index ≡ Some j) (has : slice_get es j ≡ Some (q, f)) where
  inside : place < length es
  inside = slice_get_within es place p there

  -- an entry that wasn't the last, and whose place is as it was
  unmoved_by : (i : ℕ) (b : Bool) → is_last (length es - 1) (slice_get ps i) ≡ b → j ≢ (length es - 1) → slice_get (moved_to ps i (length es - 1) place) f.index ≡ Some j
  unmoved_by i true is differs =
      let other : i ≢ f.index = λ same. differs ((Decides-eqb j (length es - 1)).0 (sym (ap (is_last (length es - 1)) (ap (slice_get ps) same ∙ at_j)) ∙ is)) in
      ap (λ b. slice_get (cond b (slice_set ps i place) ps) f.index) is ∙ set_other ps i f.index place other ∙ at_j
  unmoved_by i false is differs = ap (λ b. slice_get (cond b (slice_set ps i place) ps) f.index) is ∙ at_j

  unmoved : (o : Option (List ℕ × EntityId)) → j ≢ (length es - 1) → slice_get (moved ps o (length es - 1) place) f.index ≡ Some j
  unmoved None differs = at_j
  unmoved (Some x) differs = unmoved_by x.1.index (is_last (length es - 1) (slice_get ps x.1.index)) refl differs

  stays_at : place ≢ j → (b : Bool) → (j == length es - 1) ≡ b → first_in (moved ps (slice_get (swap_remove es place p) place) (length es - 1) place) (swap_remove es place p) f ≡ Some q
  stays_at apart true is =
      let is_end : j ≡ length es - 1 = (Decides-eqb j (length es - 1)).0 is in
      let within : j < length es = slice_get_within es j (q, f) has in
      let low : place < length es - 1 = omega (arith, apart, is_end, inside, within) in
      let came : slice_get (swap_remove es place p) place ≡ Some (q, f) = last_moves es place p inside low ∙ ap (slice_get es) (sym is_end) ∙ has in
      let yes : is_last (length es - 1) (slice_get ps f.index) ≡ true = ap (is_last (length es - 1)) at_j ∙ is in
      let placed : slice_get (moved_to ps f.index (length es - 1) place) f.index ≡ Some place =
      ap (λ b. slice_get (cond b (slice_set ps f.index place) ps) f.index) yes ∙ set_here ps f.index place j at_j in
      first_by (moved ps (slice_get (swap_remove es place p) place) (length es - 1) place) (swap_remove es place p) f q place
      (ap (λ o. slice_get (moved ps o (length es - 1) place) f.index) came ∙ placed) came
  stays_at apart false is =
      let differs : j ≢ (length es - 1) = λ same. true≢false (sym ((Decides-eqb j (length es - 1)).1 same) ∙ is) in
      let within : j < length es = slice_get_within es j (q, f) has in
      let low : j < length es - 1 = omega (arith, differs, within) in
      first_by (moved ps (slice_get (swap_remove es place p) place) (length es - 1) place) (swap_remove es place p) f q j
      (unmoved (slice_get (swap_remove es place p) place) differs) (others_stay es place p inside j apart low ∙ has)

pub stays : (ps : List ℕ) (es es' : List (List ℕ × EntityId)) (place end : ℕ) (p : List ℕ × EntityId) → slice_get es place ≡ Some p → es' ≡ swap_remove es place p → end ≡ length es - 1
    → (q : List ℕ) (f : EntityId) → q ≢ p.0 → first_in ps es f ≡ Some q → first_in (moved ps (slice_get es' place) end place) es' f ≡ Some q
stays ps es es' place end p there after is q f differs h =
    let t = place_of ps es f q h in
    let apart : place ≢ t.0 = λ same. differs (sym (ap (λ x. x.0) (same_Some p (q, f) (sym there ∙ ap (slice_get es) same ∙ t.2)))) in
    subst (λ xs. first_in (moved ps (slice_get xs place) end place) xs f ≡ Some q) (sym after)
    (subst (λ m. first_in (moved ps (slice_get (swap_remove es place p) place) m place) (swap_remove es place p) f ≡ Some q) (sym is)
    (stays_at ps es place p there q f t.0 t.1 t.2 apart (t.0 == length es - 1) refl))
