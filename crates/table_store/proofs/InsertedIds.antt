-- An id that is put among ids that strictly rise stands between those below it and those above.
use Rattle.std.proofs.Common.{◌≡◌, Bool, true, false, cond, List, [], ◌∷◌, ◌++◌, ℕ, map, refl, ap, ◌∙◌}
use Rattle.std.specs.declared.cmp.Ordering.{Ordering}
use Rattle.std.specs.declared.cmp.Ordering.TheVariants.{Less, Equal, Greater}
use Rattle.std.specs.Ordering.{is_lt, ordering_reverse}
use Rattle.std.specs.List.{filter}
use Rattle.std.specs.FinMap.{put, is_sorted}
use Rattle.std.specs.FinMap.Entries.{below_all, by_order}
use Rattle.ecs_table.proofs.TableIds.{both_first, both_second, less}
use Rattle.ecs_id.specs.Id.{Id, id_cmp, id_cmp_same, id_cmp_total}
use Rattle.table_store.specs.Store.{Shape}

kept : (p : Id × ℕ → Bool) (c : Id × ℕ) (f : Shape) → p c ≡ true → filter p (c ∷ f) ≡ c ∷ filter p f
kept p c f e = ap (λ b. cond b (c ∷ filter p f) (filter p f)) e

left_out : (p : Id × ℕ → Bool) (c : Id × ℕ) (f : Shape) → p c ≡ false → filter p (c ∷ f) ≡ filter p f
left_out p c f e = ap (λ b. cond b (c ∷ filter p f) (filter p f)) e

-- the reverse of a comparison
turned : (x y : Id) (o : Ordering) → id_cmp x y ≡ o → id_cmp y x ≡ ordering_reverse o
turned x y o e = id_cmp_total.antisymm y x ∙ ap ordering_reverse e

all_above : (i j : Id) (f : Shape) → id_cmp i j ≡ Less → below_all id_cmp j f ≡ true → filter (λ c. is_lt (id_cmp i c.0)) f ≡ f
all_above i j [] p h = refl
all_above i j (c ∷ f) p h =
    let here : id_cmp i c.0 ≡ Less = id_cmp_total.trans i j c.0 p (less (id_cmp j c.0) (both_first (is_lt (id_cmp j c.0)) (below_all id_cmp j f) h)) in
    kept (λ c. is_lt (id_cmp i c.0)) c f (ap is_lt here) ∙ ap (λ l. c ∷ l) (all_above i j f p (both_second (is_lt (id_cmp j c.0)) (below_all id_cmp j f) h))

none_below : (i j : Id) (f : Shape) → id_cmp i j ≡ Less → below_all id_cmp j f ≡ true → filter (λ c. is_lt (id_cmp c.0 i)) f ≡ []
none_below i j [] p h = refl
none_below i j (c ∷ f) p h =
    let here : id_cmp i c.0 ≡ Less = id_cmp_total.trans i j c.0 p (less (id_cmp j c.0) (both_first (is_lt (id_cmp j c.0)) (below_all id_cmp j f) h)) in
    left_out (λ c. is_lt (id_cmp c.0 i)) c f (ap is_lt (turned i c.0 Less here)) ∙ none_below i j f p (both_second (is_lt (id_cmp j c.0)) (below_all id_cmp j f) h)

all_above_own : (i : Id) (f : Shape) → below_all id_cmp i f ≡ true → filter (λ c. is_lt (id_cmp i c.0)) f ≡ f
all_above_own i [] h = refl
all_above_own i (c ∷ f) h = kept (λ c. is_lt (id_cmp i c.0)) c f (both_first (is_lt (id_cmp i c.0)) (below_all id_cmp i f) h) ∙ ap (λ l. c ∷ l) (all_above_own i f (both_second (is_lt (id_cmp i c.0)) (below_all id_cmp i f) h))

none_below_own : (i : Id) (f : Shape) → below_all id_cmp i f ≡ true → filter (λ c. is_lt (id_cmp c.0 i)) f ≡ []
none_below_own i [] h = refl
none_below_own i (c ∷ f) h =
    let here : id_cmp i c.0 ≡ Less = less (id_cmp i c.0) (both_first (is_lt (id_cmp i c.0)) (below_all id_cmp i f) h) in
    left_out (λ c. is_lt (id_cmp c.0 i)) c f (ap is_lt (turned i c.0 Less here)) ∙ none_below_own i f (both_second (is_lt (id_cmp i c.0)) (below_all id_cmp i f) h)

pub put_between : (i : Id) (n : ℕ) (f : Shape) → is_sorted id_cmp f ≡ true → filter (λ c. is_lt (id_cmp c.0 i)) f ++ (i, n) ∷ filter (λ c. is_lt (id_cmp i c.0)) f ≡ put id_cmp i n f
put_between i n [] h = refl
put_between i n (c ∷ f) h = by (id_cmp i c.0) refl (put_between i n f (both_second (below_all id_cmp c.0 f) (is_sorted id_cmp f) h))
  where
    below : below_all id_cmp c.0 f ≡ true
    below = both_first (below_all id_cmp c.0 f) (is_sorted id_cmp f) h

    by : (o : Ordering) → id_cmp i c.0 ≡ o → filter (λ c. is_lt (id_cmp c.0 i)) f ++ (i, n) ∷ filter (λ c. is_lt (id_cmp i c.0)) f ≡ put id_cmp i n f
        → filter (λ c. is_lt (id_cmp c.0 i)) (c ∷ f) ++ (i, n) ∷ filter (λ c. is_lt (id_cmp i c.0)) (c ∷ f) ≡ by_order o ((i, n) ∷ c ∷ f) ((c.0, n) ∷ f) (c ∷ put id_cmp i n f)
    by Less e ih = λ k. (left_out (λ c. is_lt (id_cmp c.0 i)) c f (ap is_lt (turned i c.0 Less e)) ∙ none_below i c.0 f e below) k
        ++ (i, n) ∷ (kept (λ c. is_lt (id_cmp i c.0)) c f (ap is_lt e) ∙ ap (λ l. c ∷ l) (all_above i c.0 f e below)) k
    by Equal e ih = let same : i ≡ c.0 = id_cmp_same i c.0 e in let mine : below_all id_cmp i f ≡ true = ap (λ j. below_all id_cmp j f) same ∙ below in
        λ k. (left_out (λ c. is_lt (id_cmp c.0 i)) c f (ap is_lt (turned i c.0 Equal e)) ∙ none_below_own i f mine) k
        ++ (same k, n) ∷ (left_out (λ c. is_lt (id_cmp i c.0)) c f (ap is_lt e) ∙ all_above_own i f mine) k
    by Greater e ih = (λ k. kept (λ c. is_lt (id_cmp c.0 i)) c f (ap is_lt (turned i c.0 Greater e)) k ++ (i, n) ∷ left_out (λ c. is_lt (id_cmp i c.0)) c f (ap is_lt e) k)
        ∙ ap (λ l. c ∷ l) ih

pub joined : {X : Type 0} (xs : List X) (y : X) (zs : List X) → (xs ++ y ∷ []) ++ zs ≡ xs ++ y ∷ zs
joined [] y zs = refl
joined (x ∷ xs) y zs = ap (λ l. x ∷ l) (joined xs y zs)

-- the cells of the ids that pass are the cells that pass
pub filter_cells : (p : Id × ℕ → Bool) (cell : Id → Id × ℕ) (ids : List Id) → map cell (filter (λ i. p (cell i)) ids) ≡ filter p (map cell ids)
filter_cells p cell [] = refl
filter_cells p cell (i ∷ ids) = by (p (cell i)) (filter_cells p cell ids)
  where
    by : (b : Bool) → map cell (filter (λ i. p (cell i)) ids) ≡ filter p (map cell ids) → map cell (cond b (i ∷ filter (λ i. p (cell i)) ids) (filter (λ i. p (cell i)) ids)) ≡ cond b (cell i ∷ filter p (map cell ids)) (filter p (map cell ids))
    by true e = ap (λ l. cell i ∷ l) e
    by false e = e
