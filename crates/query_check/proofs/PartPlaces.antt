-- The places of parts, one part at a time.
use Rattle.std.specs.Prelude.{◌≡◌, ℕ, ◌+◌, ◌-◌, ◌<◌, ◌≤◌, List, [], ◌∷◌, ◌++◌, map, drop, length}
use Rattle.std.proofs.Common.{ap, sym, ◌∙◌, refl, subst, inl, inr, get_or, arith, length-append}
use Rattle.std.proofs.lemmas.List.{append-nil, append_assoc, drop_more, drop_all, get_or_append_left, get_or_at, get_or-map}
use Rattle.std.proofs.lemmas.Bool.{cases_lt}
use Rattle.query_check.specs.declared.places.PartPlace.{PartPlace}
use Rattle.query_check.specs.Places.{IsPlaceOf, IsRooted, IsTree, Rooted, place_of, place_of_part, places_of}
use Rattle.query_model.specs.Levels.{Path, level_of, path_behind, path_in, placed}
use Rattle.query_model.specs.declared.syntax.Role.TheVariants.{And, Or, Not, Optional}
use Rattle.query_model.specs.Syntax.{Part, term, opened, closed, equality}

-- what is rooted stays so
pub rooted_more : (places more : List PartPlace) (path : Path) → Rooted places path → Rooted (places ++ more) path
rooted_more places more [] r = tt
rooted_more places more (l ∷ ls) r =
    let long = length-append places more in
    let here : l - 1 < length places = omega arith in
    (r.0, omega arith, r.2, ap (λ p. p.outer) (get_or_append_left places more (place_of []) (l - 1) here) ∙ r.3, rooted_more places more ls r.4)

-- a level is begun before, and no more levels are open than there are parts before
pub level_before : (places : List PartPlace) (path : Path) → Rooted places path → level_of path ≤ length places
level_before places [] r = omega arith
level_before places (l ∷ ls) r = r.1

pub outer_before : (places : List PartPlace) (path : Path) → Rooted places path → level_of (drop 1 path) ≤ length places
outer_before places [] r = omega arith
outer_before places (l ∷ ls) r = level_before places ls r.4

depth_by_level : (places : List PartPlace) (path : Path) → Rooted places path → length path ≤ level_of path
depth_by_level places [] r = omega arith
depth_by_level places (l ∷ ls) r = let h = depth_by_level places ls r.4 in omega arith

pub depth_before : (places : List PartPlace) (path : Path) → Rooted places path → length path ≤ length places
depth_before places path r = let h = depth_by_level places path r in let k = level_before places path r in omega arith

pub rooted_outer : (places : List PartPlace) (path : Path) → Rooted places path → Rooted places (drop 1 path)
rooted_outer places [] r = tt
rooted_outer places (l ∷ ls) r = r.4

-- a part that begins a level is in it
begun : (places : List PartPlace) (path : Path) → Rooted places path → Rooted (places ++ place_of ((length places + 1) ∷ path) ∷ []) ((length places + 1) ∷ path)
begun places path r =
    let place = place_of ((length places + 1) ∷ path) in
    let long = length-append places (place ∷ []) in
    let low = level_before places path r in
    (omega arith, omega arith, omega arith, ap (λ p. p.outer) (get_or_at places place [] (place_of []) (length places + 1 - 1) (omega arith)), rooted_more places (place ∷ []) path r)

-- where the part stands, and where the next one stands
pub rooted_in : (places : List PartPlace) (path : Path) (p : Part) → Rooted places path → Rooted (places ++ place_of (path_in (length places + 1) path p) ∷ []) (path_in (length places + 1) path p)
rooted_in places path (opened s) r = begun places path r
rooted_in places path (term Not t) r = begun places path r
rooted_in places path (term And t) r = rooted_more places _ path r
rooted_in places path (term Or t) r = rooted_more places _ path r
rooted_in places path (term Optional t) r = rooted_more places _ path r
rooted_in places path closed r = rooted_more places _ path r
rooted_in places path (equality v same s) r = rooted_more places _ path r

pub rooted_behind : (places : List PartPlace) (path : Path) (p : Part) → Rooted places path → Rooted (places ++ place_of (path_in (length places + 1) path p) ∷ []) (path_behind (length places + 1) path p)
rooted_behind places path (opened s) r = begun places path r
rooted_behind places path (term Not t) r = rooted_more places _ path r
rooted_behind places path (term And t) r = rooted_more places _ path r
rooted_behind places path (term Or t) r = rooted_more places _ path r
rooted_behind places path (term Optional t) r = rooted_more places _ path r
rooted_behind places path closed r = rooted_more places _ (drop 1 path) (rooted_outer places path r)
rooted_behind places path (equality v same s) r = rooted_more places _ path r

-- the part's own place is within bounds
in_bounds : (places : List PartPlace) (path : Path) (p : Part) → Rooted places path
    → (level_of (path_in (length places + 1) path p) ≤ length places + 1) × (level_of (drop 1 (path_in (length places + 1) path p)) ≤ length places)
in_bounds places path (opened s) r = (omega arith, level_before places path r)
in_bounds places path (term Not t) r = (omega arith, level_before places path r)
in_bounds places path (term And t) r = let h = level_before places path r in (omega arith, outer_before places path r)
in_bounds places path (term Or t) r = let h = level_before places path r in (omega arith, outer_before places path r)
in_bounds places path (term Optional t) r = let h = level_before places path r in (omega arith, outer_before places path r)
in_bounds places path closed r = let h = level_before places path r in (omega arith, outer_before places path r)
in_bounds places path (equality v same s) r = let h = level_before places path r in (omega arith, outer_before places path r)

tree_more : (places : List PartPlace) (place : PartPlace) → IsTree places → (place.level ≤ length places + 1) × (place.outer ≤ length places) → IsTree (places ++ place ∷ [])
tree_more places place tree h k d within =
    let long = length-append places (place ∷ []) in
    elim (cases_lt k (length places)) [
      | inl before ↦
          let P : PartPlace → Type 0 = λ p. (p.level ≤ k + 1) × (p.outer ≤ k) in
          subst P (sym (get_or_append_left places (place ∷ []) d k before)) (tree k d before)
      | inr last ↦
          let same : k ≡ length places = omega arith in
          let P : PartPlace → Type 0 = λ p. (p.level ≤ k + 1) × (p.outer ≤ k) in
          subst P (sym (get_or_at places place [] d k (sym same))) (omega arith, omega arith)
    ]

-- the first parts have their places, and what is left of the parts has the other places
pub record IsPlacing (ps : List Part) (i : ℕ) (places : List PartPlace) (around : PartPlace) : Type 0 where
  pub path : Path
  pub whole : places ++ map place_of_part (placed (i + 1) path (drop i ps)) ≡ places_of ps
  pub counted : length places ≡ i
  pub place : IsPlaceOf around path
  pub rooted : IsRooted places path
  pub tree : IsTree places

pub none_placed : (ps : List Part) → IsPlacing ps 0 [] (place_of [])
none_placed ps = record {
  path = [];
  whole = refl;
  counted = refl;
  place = record { is = refl };
  rooted = record { is = tt };
  tree = λ k d h. absurd (omega arith);
}

pub all_placed : (ps : List Part) (i : ℕ) (places : List PartPlace) (around : PartPlace) → IsPlacing ps i places around → length ps ≤ i → places ≡ places_of ps
all_placed ps i places around so_far h =
    sym (append-nil places) ∙ ap (λ left. places ++ map place_of_part (placed (i + 1) so_far.path left)) (sym (drop_all i ps h)) ∙ so_far.whole

module _ (ps : List Part) (i : ℕ) (d : Part) (places : List PartPlace) (around : PartPlace) (so_far : IsPlacing ps i places around) (h : i < length ps) where
  pub one_placed : (place next : PartPlace) → IsPlaceOf place (path_in (i + 1) so_far.path (get_or ps i d)) → IsPlaceOf next (path_behind (length places + 1) so_far.path (get_or ps i d))
      → IsPlacing ps (i + 1) (places ++ place ∷ []) next
  one_placed place next at behind =
      let path = so_far.path in
      let p = get_or ps i d in
      let number : length places + 1 ≡ i + 1 = ap (λ n. n + 1) so_far.counted in
      let at_length : place ≡ place_of (path_in (length places + 1) path p) = at.is ∙ ap (λ n. place_of (path_in n path p)) (sym number) in
      record {
        path = path_behind (length places + 1) path p;
        whole =
            append_assoc places (place ∷ []) _
            ∙ ap (λ q. places ++ q ∷ map place_of_part (placed (i + 1 + 1) (path_behind (length places + 1) path p) (drop (i + 1) ps))) at.is
            ∙ ap (λ n. places ++ place_of (path_in (i + 1) path p) ∷ map place_of_part (placed (i + 1 + 1) (path_behind n path p) (drop (i + 1) ps))) number
            ∙ ap (λ left. places ++ map place_of_part (placed (i + 1) path left)) (sym (drop_more ps i d h))
            ∙ so_far.whole;
        counted = length-append places (place ∷ []) ∙ number;
        place = behind;
        rooted = record { is = let P : PartPlace → Type 0 = λ q. Rooted (places ++ q ∷ []) (path_behind (length places + 1) path p) in subst P (sym at_length) (rooted_behind places path p so_far.rooted.is) };
        tree = let P : PartPlace → Type 0 = λ q. IsTree (places ++ q ∷ []) in subst P (sym at_length) (tree_more places (place_of (path_in (length places + 1) path p)) so_far.tree (in_bounds places path p so_far.rooted.is));
      }

-- the same, as the code has it
pub one_more : (ps : List Part) (i : ℕ) (p : Part) (places before : List PartPlace) (around place next : PartPlace) (so_far : IsPlacing ps i places around) → i < length ps → get_or ps i p ≡ p → before ≡ places
    → IsPlaceOf place (path_in (i + 1) so_far.path p)
    → (IsRooted before so_far.path → IsPlaceOf place (path_in (length before + 1) so_far.path p) → IsPlaceOf next (path_behind (length before + 1) so_far.path p))
    → IsPlacing ps (i + 1) (places ++ place ∷ []) next
one_more ps i p places before around place next so_far h same slice at behind =
    let path = so_far.path in
    let AtPart : Part → Type 0 = λ q. IsPlaceOf place (path_in (i + 1) path q) in
    let AtNumber : ℕ → Type 0 = λ n. IsPlaceOf place (path_in n path p) in
    let count : i + 1 ≡ length before + 1 = ap (λ n. n + 1) (sym so_far.counted ∙ sym (ap length slice)) in
    let BehindPart : Part → Type 0 = λ q. IsPlaceOf next (path_behind (length places + 1) path q) in
    let Behind : List PartPlace → Type 0 = λ b. IsPlaceOf next (path_behind (length b + 1) path p) in
    let RootedIn : List PartPlace → Type 0 = λ b. IsRooted b path in
    one_placed ps i p places around so_far h place next (subst AtPart (sym same) at)
    (subst BehindPart (sym same) (subst Behind slice (behind (subst RootedIn (sym slice) so_far.rooted) (subst AtNumber count at))))

-- an item of a list, seen
pub seen_at : {X Y : Type 0} (view : X → Y) (xs : List X) (i : ℕ) (x : X) → i < length xs → x ≡ get_or xs i x → get_or (map view xs) i (view x) ≡ view x
seen_at view xs i x h is = get_or-map view xs i x (view x) h ∙ ap view (sym is)

-- what the place around a part is known to have
pub around_depth : (ps : List Part) (i : ℕ) (places : List PartPlace) (around : PartPlace) → IsPlacing ps i places around → around.depth < i + 1
around_depth ps i places around so_far =
    let low = depth_before places so_far.path so_far.rooted.is in
    let same : around.depth ≡ length so_far.path = ap (λ p. p.depth) so_far.place.is in
    omega (arith, so_far.counted)

pub around_outer : (ps : List Part) (i : ℕ) (places : List PartPlace) (around : PartPlace) → IsPlacing ps i places around → around.outer ≤ length places
around_outer ps i places around so_far =
    let low = outer_before places so_far.path so_far.rooted.is in
    let same : around.outer ≡ level_of (drop 1 so_far.path) = ap (λ p. p.outer) so_far.place.is in
    omega arith
