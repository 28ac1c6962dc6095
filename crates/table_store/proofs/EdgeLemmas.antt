-- Where edges lead once one of them is written.
use Rattle.std.proofs.Common.{◌≡◌, ◌⊎◌, ℕ, zero, suc, ◌+◌, ◌<◌, ◌≤◌, Bool, true, false, cond, if◌then◌else◌, List, [], ◌∷◌, ◌++◌, Option, Some, None, length, drop, get_or, nat_lt, not, set, subst, inl, inr, refl, sym, ap, ◌∙◌, arith}
use Rattle.std.specs.List.{position, position_or_len}
use Rattle.std.proofs.Math.Seq.{drop-cons}
use Rattle.std.proofs.lemmas.Bool.{not-false}
use Rattle.std.proofs.lemmas.Bool.Decides.{Decides-ltb}
use Rattle.std.proofs.lemmas.List.Sums.{prefix_len_stops}
use Rattle.ecs_id.specs.Id.{Id, id_eq, id_eq_same}
use Rattle.ecs_id.specs.declared.TableKey.{TableKey}
use Rattle.table_store.specs.Kept.{IsEdgePut, edge_in, first_told}

some_is : (x y : TableKey) → Some x ≡ Some y → y ≡ x
some_is x y e = cc

not_none : {P : Type 0} (x : TableKey) → Some x ≡ None → P
not_none x e = absurd (cc)

-- ---- edges that are searched
module _ (edges : List (Id × TableKey)) (at : ℕ) (e : Id × TableKey) (i : Id) (within : at < length edges) (is : e ≡ get_or edges at e) where
  at_place : drop at edges ≡ e ∷ drop (suc at) edges
  at_place = drop-cons edges at e within ∙ ap (λ x. x ∷ drop (suc at) edges) (sym is)

  pub met : id_eq e.0 i ≡ true → edge_in (drop at edges) i ≡ Some e.1
  unfolding edge_in
  met t = ap (λ l. edge_in l i) at_place ∙ (λ j. cond (t j) (Some e.1) (edge_in (drop (suc at) edges) i))

  pub passed_edge : id_eq e.0 i ≡ false → edge_in (drop at edges) i ≡ edge_in (drop (at + 1) edges) i
  unfolding edge_in
  passed_edge f =
      let next : suc at ≡ at + 1 = omega arith in
      ap (λ l. edge_in l i) at_place ∙ (λ j. cond (f j) (Some e.1) (edge_in (drop (suc at) edges) i)) ∙ ap (λ n. edge_in (drop n edges) i) next

pub none_left : (edges : List (Id × TableKey)) (at : ℕ) (i : Id) → length edges ≤ at → edge_in (drop at edges) i ≡ None
unfolding edge_in
none_left [] zero i h = refl
none_left [] (suc at) i h = refl
none_left (x ∷ edges) zero i h = absurd (omega (arith, h))
none_left (x ∷ edges) (suc at) i h = none_left edges at i (omega (arith, h))

-- where an edge is found, it is of the id
module _ (edges : List (Id × TableKey)) (id : Id) where
  abbrev first : ℕ
  first = position_or_len (λ e. id_eq e.0 id) edges

  pub found : (place : ℕ) → position (λ e. id_eq e.0 id) edges ≡ Some place → (place < length edges) × ((d : Id × TableKey) → id_eq (get_or edges place d).0 id ≡ true)
  found place e = by (nat_lt first (length edges)) refl e
    where
      by : (b : Bool) → nat_lt first (length edges) ≡ b → cond b (Some first) None ≡ Some place → (place < length edges) × ((d : Id × TableKey) → id_eq (get_or edges place d).0 id ≡ true)
      by true w e =
          let within : first < length edges = (Decides-ltb first (length edges)).0 w in
          let same : first ≡ place = cc in
          subst (λ j. (j < length edges) × ((d : Id × TableKey) → id_eq (get_or edges j d).0 id ≡ true)) same (within, λ d. not-false _ (prefix_len_stops (λ x. not (id_eq x.0 id)) edges d within))
      by false w e = absurd (cc)

-- ---- edges that are written
module _ (id : Id) (to : TableKey) where
  -- what is found was found, or leads there for the id
  abbrev Told : Option TableKey → Id → TableKey → Type 0
  Told old i k = (old ≡ Some k) ⊎ ((i ≡ id) × (k ≡ to))

  -- the edge for the id comes first
  pub leads : (i : Id) (k : TableKey) (o : Option TableKey) → cond (id_eq id i) (Some to) o ≡ Some k → Told o i k
  leads i k o e = by (id_eq id i) refl e
    where
      by : (b : Bool) → id_eq id i ≡ b → cond b (Some to) o ≡ Some k → Told o i k
      by true t e = inr (sym (id_eq_same id i t), some_is to k e)
      by false t e = inl e

  -- another comes before it
  behind : (b : Bool) (x : TableKey) (old new : Option TableKey) (i : Id) (k : TableKey) → (new ≡ Some k → Told old i k) → cond b (Some x) new ≡ Some k → Told (cond b (Some x) old) i k
  behind true x old new i k told e = inl e
  behind false x old new i k told e = told e

  pub pushed : (edges : List (Id × TableKey)) → IsEdgePut id to (edge_in edges) (edge_in (edges ++ (id, to) ∷ []))
  unfolding edge_in
  pushed [] i k e = leads i k None e
  pushed (x ∷ edges) i k e = behind (id_eq x.0 i) x.1 (edge_in edges i) (edge_in (edges ++ (id, to) ∷ []) i) i k (pushed edges i k) e

  pub pushed_if : (b : Bool) (edges new : List (Id × TableKey)) → new ≡ (if b then edges ++ (id, to) ∷ [] else edges) → IsEdgePut id to (edge_in edges) (edge_in new)
  pushed_if true edges new e i k h = pushed edges i k (ap (λ l. edge_in l i) (sym e) ∙ h)
  pushed_if false edges new e i k h = inl (ap (λ l. edge_in l i) (sym e) ∙ h)

  pub second : (first : Id × TableKey) (both : List (Id × TableKey)) → both ≡ first ∷ (id, to) ∷ [] → IsEdgePut id to (λ i. cond (id_eq first.0 i) (Some first.1) None) (edge_in both)
  unfolding edge_in
  second first both e i k h = pushed (first ∷ []) i k (ap (λ l. edge_in l i) (sym e) ∙ h)

  -- the edge for the id stands where another of the id stood
  module _ (x : Id × TableKey) (same : id_eq x.0 id ≡ true) (i : Id) where
    turned : id_eq x.0 i ≡ id_eq id i
    turned = ap (λ j. id_eq j i) (id_eq_same x.0 id same)

    replaced : (k : TableKey) (o : Option TableKey) → cond (id_eq id i) (Some to) o ≡ Some k → Told (cond (id_eq x.0 i) (Some x.1) o) i k
    replaced k o e = by (id_eq id i) refl e
      where
        by : (b : Bool) → id_eq id i ≡ b → cond b (Some to) o ≡ Some k → Told (cond (id_eq x.0 i) (Some x.1) o) i k
        by true t e = inr (sym (id_eq_same id i t), some_is to k e)
        by false t e = inl ((λ j. cond ((turned ∙ t) j) (Some x.1) o) ∙ e)

    no_other : (o : Option TableKey) → cond (id_eq id i) (Some to) o ≡ None → cond (id_eq x.0 i) (Some x.1) o ≡ None
    no_other o e = by (id_eq id i) refl e
      where
        by : (b : Bool) → id_eq id i ≡ b → cond b (Some to) o ≡ None → cond (id_eq x.0 i) (Some x.1) o ≡ None
        by true t e = not_none to e
        by false t e = (λ j. cond ((turned ∙ t) j) (Some x.1) o) ∙ e

  still_none : (b : Bool) (x : TableKey) (old new : Option TableKey) → (new ≡ None → old ≡ None) → cond b (Some x) new ≡ None → cond b (Some x) old ≡ None
  still_none true x old new none e = not_none x e
  still_none false x old new none e = none e

  pub set_at : (edges : List (Id × TableKey)) (place : ℕ) → place < length edges → ((d : Id × TableKey) → id_eq (get_or edges place d).0 id ≡ true) → IsEdgePut id to (edge_in edges) (edge_in (set edges place (id, to)))
  unfolding edge_in
  set_at [] place within at i k e = absurd (omega (arith, within))
  set_at (x ∷ edges) zero within at i k e = replaced x (at x) i k (edge_in edges i) e
  set_at (x ∷ edges) (suc place) within at i k e = behind (id_eq x.0 i) x.1 (edge_in edges i) (edge_in (set edges place (id, to)) i) i k (set_at edges place (omega (arith, within)) at i k) e

  set_none : (edges : List (Id × TableKey)) (place : ℕ) → place < length edges → ((d : Id × TableKey) → id_eq (get_or edges place d).0 id ≡ true) → (i : Id) → edge_in (set edges place (id, to)) i ≡ None → edge_in edges i ≡ None
  unfolding edge_in
  set_none [] place within at i e = absurd (omega (arith, within))
  set_none (x ∷ edges) zero within at i e = no_other x (at x) i (edge_in edges i) e
  set_none (x ∷ edges) (suc place) within at i e = still_none (id_eq x.0 i) x.1 (edge_in edges i) (edge_in (set edges place (id, to)) i) (set_none edges place (omega (arith, within)) at i) e

  -- one of the few is written, and the others stay
  few_put : (old new o : Option TableKey) (i : Id) (k : TableKey) → ((q : TableKey) → new ≡ Some q → Told old i q) → (new ≡ None → old ≡ None) → first_told new o ≡ Some k → Told (first_told old o) i k
  few_put old (Some q) o i k told none e = elim (told q refl) [
    | inl was ↦ inl (ap (λ p. first_told p o) was ∙ e)
    | inr here ↦ inr (here.0, some_is q k e ∙ here.1)
  ]
  few_put old None o i k told none e = inl (ap (λ p. first_told p o) (none refl) ∙ e)

  pub set_among : (edges : List (Id × TableKey)) (place : ℕ) → place < length edges → ((d : Id × TableKey) → id_eq (get_or edges place d).0 id ≡ true) → (others : Id → Option TableKey)
      → IsEdgePut id to (λ i. first_told (edge_in edges i) (others i)) (λ i. first_told (edge_in (set edges place (id, to)) i) (others i))
  set_among edges place within at others i k e = few_put (edge_in edges i) (edge_in (set edges place (id, to)) i) (others i) i k (λ q. set_at edges place within at i q) (set_none edges place within at i) e

  -- one of the others is written, and the few stay
  others_put : (o old new : Option TableKey) (i : Id) (k : TableKey) → (new ≡ Some k → Told old i k) → first_told o new ≡ Some k → Told (first_told o old) i k
  others_put (Some q) old new i k told e = inl e
  others_put None old new i k told e = told e

  pub put_behind : (few old new : Id → Option TableKey) → IsEdgePut id to old new → IsEdgePut id to (λ i. first_told (few i) (old i)) (λ i. first_told (few i) (new i))
  put_behind few old new put i k e = others_put (few i) (old i) (new i) i k (put i k) e

  -- it is the only one of the others
  only_behind : (o new : Option TableKey) (i : Id) (k : TableKey) → (new ≡ Some k → Told None i k) → first_told o new ≡ Some k → Told o i k
  only_behind (Some q) new i k told e = inl e
  only_behind None new i k told e = told e

  alone : (i : Id) (k : TableKey) → cond (id_eq i id) (Some to) None ≡ Some k → Told None i k
  alone i k e = by (id_eq i id) refl e
    where
      by : (b : Bool) → id_eq i id ≡ b → cond b (Some to) None ≡ Some k → Told None i k
      by true t e = inr (id_eq_same i id t, some_is to k e)
      by false t e = inl e

  pub first_behind : (old few : List (Id × TableKey)) (others : Id → Option TableKey) → few ≡ old → ((i : Id) → others i ≡ cond (id_eq i id) (Some to) None) → IsEdgePut id to (edge_in old) (λ i. first_told (edge_in few i) (others i))
  first_behind old few others same only i k e =
      only_behind (edge_in old i) (others i) i k (λ h. alone i k (sym (only i) ∙ h)) (ap (λ l. first_told (edge_in l i) (others i)) (sym same) ∙ e)
