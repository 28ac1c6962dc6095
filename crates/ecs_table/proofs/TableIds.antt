-- Tables whose ids strictly rise.
use Rattle.std.proofs.Common.{◌≡◌, ℕ, Bool, ◌&&◌, ◌||◌, suc, List, [], ◌∷◌, length, map, cond, nat_lt, refl, sym, ap, ◌∙◌, true, false, arith, get_or, inl, inr, Option, Some, None, option_map, unwrap_or, IsTrue}
use Rattle.std.proofs.lemmas.Option.{none-some}
use Rattle.std.proofs.lemmas.Bool.{cases_lt, false≢true}
use Rattle.std.proofs.lemmas.Bool.Decides.{nat_tests}
use Rattle.std.specs.Ordering.{is_lt, is_eq}
use Rattle.std.specs.declared.cmp.Ordering.{Ordering}
use Rattle.std.specs.declared.cmp.Ordering.TheVariants.{Less, Equal, Greater}
use Rattle.std.specs.FinMap.{find, put, is_sorted}
use Rattle.std.specs.FinMap.Entries.{below_all, by_order}
use Rattle.std.specs.List.{filter, zip, list_any}
use Rattle.ecs_id.specs.Id.{Id, id_cmp, id_cmp_total, id_cmp_same, id_eq, id_eq_itself, id_eq_same, id_eq_turned}
use Rattle.ecs_table.proofs.Rows.{IsListed, map_listed, size_by_place, size_kept}
use Rattle.ecs_table.specs.Archetype.{Archetype, Cells, IsSound, Shape, byte_size, cells_of, empty_table, index_in, shape_of, size_of, value_of, with_cell, no_values}
use Rattle.ecs_table.proofs.Order.{index_cons, index_nil}

pub both_first : (a b : Bool) → (a && b) ≡ true → a ≡ true
both_first true b h = refl
both_first false b h = h

pub both_second : (a b : Bool) → (a && b) ≡ true → b ≡ true
both_second true b h = h
both_second false b h = absurd (false≢true h)

pub less : (o : Ordering) → is_lt o ≡ true → o ≡ Less
less Less h = refl
less Equal h = absurd (false≢true h)
less Greater h = absurd (false≢true h)

-- an id below another is not that one
apart : (i j : Id) → is_lt (id_cmp i j) ≡ true → id_eq i j ≡ false
apart i j h = ap is_eq (less (id_cmp i j) h)

pub below_less : {X : Type 0} (i j : Id) (es : List (Id × X)) → id_cmp i j ≡ Less → below_all id_cmp j es ≡ true → below_all id_cmp i es ≡ true
below_less i j [] p h = refl
below_less i j (e ∷ es) p h =
    let here : id_cmp i e.0 ≡ Less = id_cmp_total.trans i j e.0 p (less (id_cmp j e.0) (both_first (is_lt (id_cmp j e.0)) (below_all id_cmp j es) h)) in
    ap (λ o. is_lt o && below_all id_cmp i es) here ∙ below_less i j es p (both_second (is_lt (id_cmp j e.0)) (below_all id_cmp j es) h)

not_found_below : {X : Type 0} (i : Id) (es : List (Id × X)) → below_all id_cmp i es ≡ true → find id_cmp i es ≡ None
not_found_below i [] h = refl
not_found_below i (e ∷ es) h =
    ap (λ b. cond b (Some e.1) (find id_cmp i es)) (apart i e.0 (both_first (is_lt (id_cmp i e.0)) (below_all id_cmp i es) h)) ∙ not_found_below i es (both_second (is_lt (id_cmp i e.0)) (below_all id_cmp i es) h)

-- cells of other ids stay
with_cell_below : (i : Id) (bytes : List ℕ) (cells : Cells) → below_all id_cmp i cells ≡ true → with_cell i bytes cells ≡ cells
with_cell_below i bytes [] h = refl
with_cell_below i bytes (c ∷ cells) h =
    let other : id_eq c.0 i ≡ false = id_eq_turned c.0 i ∙ apart i c.0 (both_first (is_lt (id_cmp i c.0)) (below_all id_cmp i cells) h) in
    λ p. (c.0, cond (other p) bytes c.1) ∷ with_cell_below i bytes cells (both_second (is_lt (id_cmp i c.0)) (below_all id_cmp i cells) h) p

-- what `put` makes of cells that strictly rise and have the id
pub with_cell_put : (i : Id) (bytes old : List ℕ) (cells : Cells) → IsTrue (is_sorted id_cmp cells) → find id_cmp i cells ≡ Some old → with_cell i bytes cells ≡ put id_cmp i bytes cells
with_cell_put i bytes old [] h e = absurd (none-some old e)
with_cell_put i bytes old (c ∷ cells) h e =
    let first : below_all id_cmp c.0 cells ≡ true = both_first (below_all id_cmp c.0 cells) (is_sorted id_cmp cells) h in
    let rest : is_sorted id_cmp cells ≡ true = both_second (below_all id_cmp c.0 cells) (is_sorted id_cmp cells) h in
    elim (id_cmp i c.0) as (λ r. id_cmp i c.0 ≡ r → cond (is_eq r) (Some c.1) (find id_cmp i cells) ≡ Some old
    → with_cell i bytes (c ∷ cells) ≡ by_order r ((i, bytes) ∷ c ∷ cells) ((c.0, bytes) ∷ cells) (c ∷ put id_cmp i bytes cells)) [
      | Less ↦ λ p f. absurd (none-some old (sym (not_found_below i cells (below_less i c.0 cells p first)) ∙ f))
      | Equal ↦ λ p f.
          let same : i ≡ c.0 = id_cmp_same i c.0 p in
          let yes : id_eq c.0 i ≡ true = id_eq_turned c.0 i ∙ ap is_eq p in
          λ q. (c.0, cond (yes q) bytes c.1) ∷ with_cell_below i bytes cells (ap (λ j. below_all id_cmp j cells) same ∙ first) q
      | Greater ↦ λ p f.
          let no : id_eq c.0 i ≡ false = id_eq_turned c.0 i ∙ ap is_eq p in
          λ q. (c.0, cond (no q) bytes c.1) ∷ with_cell_put i bytes old cells rest f q
    ] refl e

-- ---- the shape of a new table
-- the size beside an id, by its place
found_by_place : (f : Shape) (i : Id) → elim (index_in (map (λ c. c.0) f) i) [ None ↦ None | Some k ↦ Some (get_or (map (λ c. c.1) f) k 0) ] ≡ find id_cmp i f
found_by_place [] i = ap (λ o. elim o [ None ↦ None | Some k ↦ Some (get_or [] k 0) ]) (index_nil i)
found_by_place (c ∷ f) i =
    let ids = map (λ c. c.0) f in let sizes = map (λ c. c.1) f in
    let read : Option ℕ → Option ℕ = λ o. elim o [ None ↦ None | Some k ↦ Some (get_or (c.1 ∷ sizes) k 0) ] in
    let later : (o : Option ℕ) → read (option_map suc o) ≡ elim o [ None ↦ None | Some k ↦ Some (get_or sizes k 0) ] = λ o. elim o as (λ o. read (option_map suc o) ≡ elim o [ None ↦ None | Some k ↦ Some (get_or sizes k 0) ]) [ None ↦ refl | Some k ↦ refl ] in
    ap read (index_cons c.0 i ids) ∙ ap (λ b. read (cond b (Some 0) (option_map suc (index_in ids i)))) (id_eq_turned c.0 i)
    ∙ elim (id_eq i c.0) as (λ b. read (cond b (Some 0) (option_map suc (index_in ids i))) ≡ cond b (Some c.1) (find id_cmp i f)) [
      | true ↦ refl
      | false ↦ later (index_in ids i) ∙ found_by_place f i
    ]

-- the part of a shape whose values have bytes
abbrev pub with_bytes : Shape → Shape
with_bytes f = filter (λ c. nat_lt 0 c.1) f

zip_parts : (f : Shape) → zip (map (λ c. c.0) f) (map (λ c. c.1) f) ≡ f
zip_parts [] = refl
zip_parts (c ∷ f) = ap (λ l. c ∷ l) (zip_parts f)

sizes_with_bytes : (f : Shape) → filter (λ s. nat_lt 0 s) (map (λ c. c.1) f) ≡ map (λ c. c.1) (with_bytes f)
sizes_with_bytes [] = refl
sizes_with_bytes (c ∷ f) =
    elim (nat_lt 0 c.1) as (λ b. cond b (c.1 ∷ filter (λ s. nat_lt 0 s) (map (λ c. c.1) f)) (filter (λ s. nat_lt 0 s) (map (λ c. c.1) f)) ≡ map (λ c. c.1) (cond b (c ∷ with_bytes f) (with_bytes f))) [
      | true ↦ ap (λ l. c.1 ∷ l) (sizes_with_bytes f)
      | false ↦ sizes_with_bytes f
    ]

sizes_of_columns : (ss : List ℕ) → map (λ v. v.size) (map no_values ss) ≡ ss
sizes_of_columns [] = refl
sizes_of_columns (s ∷ ss) = ap (λ l. s ∷ l) (sizes_of_columns ss)

pub size_of_new : (f : Shape) (i : Id) → size_of (empty_table (map (λ c. c.0) f) (map (λ c. c.1) f)) i ≡ find id_cmp i (with_bytes f)
size_of_new f i =
    let ids = map (λ c. c.0) f in let sizes = map (λ c. c.1) f in
    let by_place : List Id → List ℕ → Option ℕ = λ js ss. elim (index_in js i) [ None ↦ None | Some k ↦ Some (get_or ss k 0) ] in
    size_by_place (empty_table ids sizes) i
    ∙ (λ p. by_place (map (λ c. c.0) (with_bytes (zip_parts f p))) ((sizes_of_columns (filter (λ s. nat_lt 0 s) sizes) ∙ sizes_with_bytes f) p))
    ∙ found_by_place (with_bytes f) i

below_with_bytes : (i : Id) (f : Shape) → below_all id_cmp i f ≡ true → below_all id_cmp i (with_bytes f) ≡ true
below_with_bytes i [] h = refl
below_with_bytes i (c ∷ f) h =
    let here = both_first (is_lt (id_cmp i c.0)) (below_all id_cmp i f) h in
    let rest = below_with_bytes i f (both_second (is_lt (id_cmp i c.0)) (below_all id_cmp i f) h) in
    elim (nat_lt 0 c.1) as (λ b. below_all id_cmp i (cond b (c ∷ with_bytes f) (with_bytes f)) ≡ true) [
      | true ↦ ap (λ b. b && below_all id_cmp i (with_bytes f)) here ∙ rest
      | false ↦ rest
    ]

-- an id above another is not that one
above : (i j : Id) (f : Shape) → below_all id_cmp i f ≡ true → IsListed j (map (λ c. c.0) f) → id_eq j i ≡ false
above i j [] h listed = absurd (false≢true listed)
above i j (c ∷ f) h listed =
    let here = apart i c.0 (both_first (is_lt (id_cmp i c.0)) (below_all id_cmp i f) h) in
    elim (id_eq j c.0) as (λ b. id_eq j c.0 ≡ b → (b || list_any (id_eq j) (map (λ c. c.0) f)) ≡ true → id_eq j i ≡ false) [
      | true ↦ λ e _. ap (λ x. id_eq x i) (id_eq_same j c.0 e) ∙ id_eq_turned c.0 i ∙ here
      | false ↦ λ _ l. above i j f (both_second (is_lt (id_cmp i c.0)) (below_all id_cmp i f) h) l
    ] refl listed

sizes_again : (f : Shape) → is_sorted id_cmp f ≡ true → map (λ i. (i, unwrap_or (find id_cmp i (with_bytes f)) 0)) (map (λ c. c.0) f) ≡ f
sizes_again [] h = refl
sizes_again (c ∷ f) h =
    let ids = map (λ c. c.0) f in
    let first : below_all id_cmp c.0 f ≡ true = both_first (below_all id_cmp c.0 f) (is_sorted id_cmp f) h in
    let rest : is_sorted id_cmp f ≡ true = both_second (below_all id_cmp c.0 f) (is_sorted id_cmp f) h in
    let size : Bool → Id → ℕ = λ b i. unwrap_or (find id_cmp i (cond b (c ∷ with_bytes f) (with_bytes f))) 0 in
    let none : find id_cmp c.0 (with_bytes f) ≡ None = not_found_below c.0 (with_bytes f) (below_with_bytes c.0 f first) in
    let here : size (nat_lt 0 c.1) c.0 ≡ c.1 = elim (cases_lt 0 c.1) [
      | inl a ↦
          let yes : nat_lt 0 c.1 ≡ true = grind (arith, nat_tests) in
          ap (λ b. size b c.0) yes ∙ ap (λ b. unwrap_or (cond b (Some c.1) (find id_cmp c.0 (with_bytes f))) 0) (id_eq_itself c.0)
      | inr b ↦
          let no : nat_lt 0 c.1 ≡ false = grind (arith, nat_tests) in
          let nothing : 0 ≡ c.1 = omega arith in
          ap (λ b. size b c.0) no ∙ ap (λ o. unwrap_or o 0) none ∙ nothing
    ] in
    let other : (i : Id) → IsListed i ids → size (nat_lt 0 c.1) i ≡ unwrap_or (find id_cmp i (with_bytes f)) 0 = λ i listed.
    elim (nat_lt 0 c.1) as (λ b. size b i ≡ unwrap_or (find id_cmp i (with_bytes f)) 0) [
      | true ↦ ap (λ b. unwrap_or (cond b (Some c.1) (find id_cmp i (with_bytes f))) 0) (above c.0 i f first listed)
      | false ↦ refl
    ] in
    let tail = map_listed (λ i. (i, size (nat_lt 0 c.1) i)) (λ i. (i, unwrap_or (find id_cmp i (with_bytes f)) 0)) ids (λ i listed. ap (λ n. (i, n)) (other i listed)) ∙ sizes_again f rest in
    λ p. (c.0, here p) ∷ tail p

-- a new table has the sizes that it was given
pub shape_of_new : (f : Shape) → IsTrue (is_sorted id_cmp f) → shape_of (empty_table (map (λ c. c.0) f) (map (λ c. c.1) f)) ≡ f
shape_of_new f h = (λ p. map (λ i. (i, unwrap_or (size_of_new f i p) 0)) (map (λ c. c.0) f)) ∙ sizes_again f h

-- lists that give the same ids something rise together
pub rise_together : {X Y : Type 0} (f : Id → X) (g : Id → Y) (ids : List Id) → is_sorted id_cmp (map (λ i. (i, f i)) ids) ≡ is_sorted id_cmp (map (λ i. (i, g i)) ids)
rise_together f g [] = refl
rise_together f g (i ∷ ids) = λ p. below_together f g i ids p && rise_together f g ids p
  where
    below_together : {X Y : Type 0} (f : Id → X) (g : Id → Y) (i : Id) (ids : List Id) → below_all id_cmp i (map (λ j. (j, f j)) ids) ≡ below_all id_cmp i (map (λ j. (j, g j)) ids)
    below_together f g i [] = refl
    below_together f g i (j ∷ ids) = ap (λ b. is_lt (id_cmp i j) && b) (below_together f g i ids)

-- the cells of a row rise with the shape
pub cells_rise : (t : Archetype) (r : ℕ) → is_sorted id_cmp (cells_of t r) ≡ is_sorted id_cmp (shape_of t)
cells_rise t r = rise_together (λ i. unwrap_or (value_of t r i) []) (byte_size t) t.ids

firsts : (ids : List Id) (ss : List ℕ) → length ids ≡ length ss → map (λ (c : Id × ℕ). c.0) (zip ids ss) ≡ ids
firsts [] ss e = refl
firsts (i ∷ ids) [] e = absurd (omega arith)
firsts (i ∷ ids) (s ∷ ss) e = ap (λ l. i ∷ l) (firsts ids ss (omega arith))

seconds : (ids : List Id) (ss : List ℕ) → length ids ≡ length ss → map (λ (c : Id × ℕ). c.1) (zip ids ss) ≡ ss
seconds [] [] e = refl
seconds [] (s ∷ ss) e = absurd (omega arith)
seconds (i ∷ ids) [] e = absurd (omega arith)
seconds (i ∷ ids) (s ∷ ss) e = ap (λ l. s ∷ l) (seconds ids ss (omega arith))

rises_zipped : (f : Id → ℕ) (ids : List Id) (ss : List ℕ) → length ids ≡ length ss → is_sorted id_cmp (map (λ i. (i, f i)) ids) ≡ is_sorted id_cmp (zip ids ss)
rises_zipped f [] ss e = refl
rises_zipped f (i ∷ ids) [] e = absurd (omega arith)
rises_zipped f (i ∷ ids) (s ∷ ss) e = λ p. below f i ids ss (omega arith) p && rises_zipped f ids ss (omega arith) p
  where
    below : (f : Id → ℕ) (i : Id) (ids : List Id) (ss : List ℕ) → length ids ≡ length ss → below_all id_cmp i (map (λ j. (j, f j)) ids) ≡ below_all id_cmp i (zip ids ss)
    below f i [] ss e = refl
    below f i (j ∷ ids) [] e = absurd (omega arith)
    below f i (j ∷ ids) (s ∷ ss) e = ap (λ b. is_lt (id_cmp i j) && b) (below f i ids ss (omega arith))

-- of ids that rise, each has the size that stands beside it
pub shape_is : (t : Archetype) (h : IsSound t) → IsTrue (is_sorted id_cmp (shape_of t)) → shape_of t ≡ zip t.ids h.sizes
shape_is t h rise =
    let f = zip t.ids h.sizes in
    let same : (i : Id) → size_of t i ≡ size_of (empty_table t.ids h.sizes) i = size_kept t (empty_table t.ids h.sizes) h.with_data (h.sized ∙ sym (sizes_of_columns (filter (λ s. nat_lt 0 s) h.sizes))) in
    (λ p. map (λ i. (i, unwrap_or (same i p) 0)) t.ids)
    ∙ (λ p. shape_of (empty_table (sym (firsts t.ids h.sizes h.beside) p) (sym (seconds t.ids h.sizes h.beside) p)))
    ∙ shape_of_new f (sym (rises_zipped (byte_size t) t.ids h.sizes h.beside) ∙ rise)

data_filtered : (f : Id → ℕ) (ids : List Id) → map (λ (c : Id × ℕ). c.0) (with_bytes (map (λ i. (i, f i)) ids)) ≡ filter (λ i. nat_lt 0 (f i)) ids
data_filtered f [] = refl
data_filtered f (i ∷ ids) =
    let rest : Shape = with_bytes (map (λ j. (j, f j)) ids) in let here : Id × ℕ = (i, f i) in
    elim (nat_lt 0 (f i)) as (λ b. map (λ (c : Id × ℕ). c.0) (cond b (here ∷ rest) rest) ≡ cond b (i ∷ filter (λ j. nat_lt 0 (f j)) ids) (filter (λ j. nat_lt 0 (f j)) ids)) [
      | true ↦ ap {B = List Id} (λ l. i ∷ l) (data_filtered f ids)
      | false ↦ data_filtered f ids
    ]
