-- What entities hold after facts have come and gone, read fact by fact.
use Rattle.std.proofs.Common.{◌≡◌, ℕ, ◌==◌, Bool, true, false, cond, not, List, [], ◌∷◌, replicate, Option, Some, None, option_map, unwrap_or, refl, sym, ap, ◌∙◌}
use Rattle.std.specs.Prelude.{fold}
use Rattle.std.specs.List.{cons_option, filter, list_all, list_any}
use Rattle.std.specs.List.Sorted.{IsStrictlySortedBy}
use Rattle.std.specs.Ordering.{is_lt, nat_cmp}
use Rattle.std.specs.FinMap.{nat_cmp-IsAntisymmetric}
use Rattle.std.specs.FinMap.Entries.{below_all, find, find-put, find-where_key, is_sorted, put}
use Rattle.ecs_id.specs.Id.{Id, id_cmp, id_cmp_same, id_cmp_total, id_eq, id_eq_same}
use Rattle.ecs_model.specs.Map.{keys, value_at}
use Rattle.ecs_model.specs.World.{Key, key_cmp, key_eq}
use Rattle.ecs_model.proofs.Maps.{absent_below, both_true}
use Rattle.table_store.specs.Rows.{Cells}
use Rattle.ecs_archetypes.specs.FactChanges.{Coming, changed_cells, coming_to, goes_from, with_facts_changed}
use Rattle.ecs_table.specs.Archetype.{Shape}
use Rattle.ecs_archetypes.specs.Holdings.{Holdings, bytes_at, cells_at}
use Rattle.ecs_archetypes.proofs.FactSections.{ascend, ascend_from, id_lt, key_other, key_own, same_of}
use Rattle.ecs_archetypes.proofs.MapLists.{both, find_mapped}

-- what is read where this comes and the other stays
abbrev pub come_or : Option ℕ → Option (List ℕ) → Option (List ℕ)
come_or None kept = kept
come_or (Some n) kept = Some (replicate n 0)

abbrev zeros_put : Cells → Id × ℕ → Cells
zeros_put m c = put id_cmp c.0 (replicate c.1 0) m

read_on : (i : Id) (cs : Shape) (m : Cells) → is_sorted id_cmp cs ≡ true → find id_cmp i (fold zeros_put m cs) ≡ come_or (find id_cmp i cs) (find id_cmp i m)
read_on i [] m up = refl
read_on i (c ∷ cs) m up =
    let ups = both_true (below_all id_cmp c.0 cs) (is_sorted id_cmp cs) up in
    read_on i cs (zeros_put m c) ups.1 ∙ ap (come_or (find id_cmp i cs)) (find-put id_cmp id_cmp_total i c.0 (replicate c.1 0) m) ∙ by (id_eq i c.0) refl ups.0
  where
    by : (b : Bool) → id_eq i c.0 ≡ b → below_all id_cmp c.0 cs ≡ true → come_or (find id_cmp i cs) (cond b (Some (replicate c.1 0)) (find id_cmp i m)) ≡ come_or (cond b (Some c.1) (find id_cmp i cs)) (find id_cmp i m)
    by true own low = ap (λ o. come_or o (Some (replicate c.1 0))) (ap (λ j. find id_cmp j cs) (id_eq_same i c.0 own) ∙ absent_below id_cmp id_cmp_total c.0 cs low)
    by false other low = refl

-- the value of an id in changed cells
pub value_changed : (i : Id) (cs : Shape) (goes : Id → Bool) (cells : Cells) → is_sorted id_cmp cs ≡ true → find id_cmp i (changed_cells cs goes cells) ≡ come_or (find id_cmp i cs) (cond (not (goes i)) (find id_cmp i cells) None)
value_changed i cs goes cells up = read_on i cs (filter (λ e. not (goes e.0)) cells) up
    ∙ ap (come_or (find id_cmp i cs)) (find-where_key id_cmp (λ k. not (goes k)) i (λ x h. ap (λ k. not (goes k)) (sym (id_cmp_same i x h))) cells)

-- what an entity holds then
pub cells_changed : (came : Coming) (went : List Key) (h : Holdings) (e : ℕ) → cells_at (with_facts_changed came went h) e ≡ option_map (changed_cells (coming_to e came) (goes_from e went)) (cells_at h e)
cells_changed came went h e = find_mapped nat_cmp nat_cmp-IsAntisymmetric (λ d c. changed_cells (coming_to d came) (goes_from d went) c) e h.cells

-- an id comes to an entity where the fact comes
pub value_coming : (e : ℕ) (i : Id) (came : Coming) → find id_cmp i (coming_to e came) ≡ find key_cmp (e, i) came
value_coming e i [] = refl
value_coming e i (c ∷ came) = by (c.0.0 == e) refl (value_coming e i came)
  where
    by : (b : Bool) → (c.0.0 == e) ≡ b → find id_cmp i (coming_to e came) ≡ find key_cmp (e, i) came
        → find id_cmp i (cons_option (cond b (Some (c.0.1, c.1)) None) (coming_to e came)) ≡ cond (key_eq (e, i) c.0) (Some c.1) (find key_cmp (e, i) came)
    by true own rest = λ k. cond (sym (key_own e i c.0 own) k) (Some c.1) (rest k)
    by false other rest = rest ∙ ap (λ b. cond b (Some c.1) (find key_cmp (e, i) came)) (sym (key_other e i c.0 (ap not other)))

-- the ids that come to an entity ascend where the facts do
coming_low : (e : ℕ) (k : Key) (cs : Coming) → k.0 ≡ e → list_all (λ c. is_lt (key_cmp k c.0)) cs ≡ true → below_all id_cmp k.1 (coming_to e cs) ≡ true
coming_low e k [] own less = refl
coming_low e k (c ∷ cs) own less =
    let parts = both_true (is_lt (key_cmp k c.0)) (list_all (λ c. is_lt (key_cmp k c.0)) cs) less in by (c.0.0 == e) refl parts.0 (coming_low e k cs own parts.1)
  where
    by : (b : Bool) → (c.0.0 == e) ≡ b → is_lt (key_cmp k c.0) ≡ true → below_all id_cmp k.1 (coming_to e cs) ≡ true → below_all id_cmp k.1 (cons_option (cond b (Some (c.0.1, c.1)) None) (coming_to e cs)) ≡ true
    by true same low rest = both (is_lt (id_cmp k.1 c.0.1)) (below_all id_cmp k.1 (coming_to e cs)) (id_lt k c.0 (own ∙ sym (same_of c.0.0 e same)) low) rest
    by false other low rest = rest

coming_up : (e : ℕ) (cs : Coming) → ascend (λ (c : Key × ℕ). c.0) cs ≡ true → is_sorted id_cmp (coming_to e cs) ≡ true
coming_up e [] up = refl
coming_up e (c ∷ cs) up =
    let ups = both_true (list_all (λ y. is_lt (key_cmp c.0 y.0)) cs) (ascend (λ (c : Key × ℕ). c.0) cs) up in by (c.0.0 == e) refl ups.0 (coming_up e cs ups.1)
  where
    by : (b : Bool) → (c.0.0 == e) ≡ b → list_all (λ y. is_lt (key_cmp c.0 y.0)) cs ≡ true → is_sorted id_cmp (coming_to e cs) ≡ true → is_sorted id_cmp (cons_option (cond b (Some (c.0.1, c.1)) None) (coming_to e cs)) ≡ true
    by true same low rest = both (below_all id_cmp c.0.1 (coming_to e cs)) (is_sorted id_cmp (coming_to e cs)) (coming_low e c.0 cs (same_of c.0.0 e same) low) rest
    by false other low rest = rest

pub coming_rises : (e : ℕ) (came : Coming) → IsStrictlySortedBy key_cmp (keys came) → is_sorted id_cmp (coming_to e came) ≡ true
coming_rises e came up = coming_up e came (ascend_from (λ (c : Key × ℕ). c.0) came up)

-- the bytes of a fact of a settled entity: zeros if it comes, else none if it goes, else those that it had
pub bytes_changed : (came : Coming) (went : List Key) (h : Holdings) (e : ℕ) (i : Id) (cells : Cells) → cells_at h e ≡ Some cells → IsStrictlySortedBy key_cmp (keys came)
    → bytes_at (with_facts_changed came went h) e i ≡ come_or (value_at key_cmp came (e, i)) (cond (not (list_any (key_eq (e, i)) went)) (bytes_at h e i) None)
bytes_changed came went h e i cells there up =
    ap (λ o. find id_cmp i (unwrap_or o [])) (cells_changed came went h e ∙ ap (option_map (changed_cells (coming_to e came) (goes_from e went))) there)
    ∙ value_changed i (coming_to e came) (goes_from e went) cells (coming_rises e came up)
    ∙ (λ k. come_or (value_coming e i came k) (cond (not (goes_from e went i)) (find id_cmp i (unwrap_or (sym there k) [])) None))
