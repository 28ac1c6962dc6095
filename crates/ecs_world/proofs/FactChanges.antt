-- The facts after a change of what one entity holds.
use Rattle.std.proofs.Common.{◌≡◌, ◌≢◌, ℕ, Bool, true, false, cond, not, ◌||◌, List, [], ◌∷◌, ℤ, Option, Some, None, option_map, unwrap_or, refl, sym, ap, ◌∙◌, inl, inr}
use Rattle.std.specs.List.{list_any}
use Rattle.std.specs.Cmp.{Equal-is}
use Rattle.std.specs.Ordering.{nat_cmp, eq_by_cmp}
use Rattle.std.specs.FinMap.Entries.{find-put, find-where_key}
use Rattle.ecs_id.specs.Id.{Id, id_cmp, id_cmp_total, id_cmp_same, id_eq}
use Rattle.ecs_model.specs.Map.{Map, IsMap, value_at, with_value, without}
use Rattle.ecs_model.specs.Schema.{Schema}
use Rattle.ecs_model.specs.World.{Key, key_cmp, key_eq}
use Rattle.ecs_model.proofs.Maps.{key_cmp_total, key_cmp_same, nat_value_at, IsMap-with_value}
use Rattle.ecs_model.proofs.Removals.{value_at-without, IsMap-without}
use Rattle.ecs_table.specs.Archetype.{Cells}
use Rattle.ecs_world.specs.State.{all_facts, value_in}
use Rattle.ecs_world.proofs.Facts.{bytes_in, AllRise, IsMap-facts, find-facts, same_facts, eq_same, eq_apart}

-- what is known of what entities hold
pub record AreCells (cells : Map ℕ Cells) : Type 0 where
  pub in_order : IsMap nat_cmp cells
  pub rise : AllRise cells

module _ (types types' : Id → Option Schema) (cells cells' : Map ℕ Cells) (h : AreCells cells) (h' : AreCells cells') (same_type : (d : ℕ) (j : Id) (bs : List ℕ) → bytes_in cells d j ≡ Some bs → types' j ≡ types j) where
  abbrev facts : Map Key (List ℤ)
  facts = all_facts types cells

  same_value : (d : ℕ) (j : Id) (o : Option (List ℕ)) → bytes_in cells d j ≡ o → option_map (value_in (types' j)) o ≡ option_map (value_in (types j)) o
  same_value d j None p = refl
  same_value d j (Some bs) p = ap (λ t. Some (value_in t bs)) (same_type d j bs p)

  was : (d : ℕ) (j : Id) → option_map (value_in (types' j)) (bytes_in cells d j) ≡ value_at key_cmp facts (d, j)
  was d j = same_value d j (bytes_in cells d j) refl ∙ sym (find-facts types d j cells h.in_order)

  -- the same facts
  pub facts_same : ((d : ℕ) (j : Id) → bytes_in cells' d j ≡ bytes_in cells d j) → all_facts types' cells' ≡ facts
  facts_same now = same_facts (all_facts types' cells') facts (IsMap-facts types' cells' h'.in_order h'.rise) (IsMap-facts types cells h.in_order h.rise)
      (λ q. find-facts types' q.0 q.1 cells' h'.in_order ∙ ap (option_map (value_in (types' q.1))) (now q.0 q.1) ∙ was q.0 q.1)

  -- one more fact, or a new value
  pub facts_put : (e : ℕ) (i : Id) (bytes : List ℕ) → ((d : ℕ) (j : Id) → bytes_in cells' d j ≡ cond (eq_by_cmp key_cmp (d, j) (e, i)) (Some bytes) (bytes_in cells d j))
      → all_facts types' cells' ≡ with_value key_cmp facts (e, i) (value_in (types' i) bytes)
  facts_put e i bytes now = same_facts (all_facts types' cells') (with_value key_cmp facts (e, i) (value_in (types' i) bytes)) (IsMap-facts types' cells' h'.in_order h'.rise)
      (IsMap-with_value key_cmp key_cmp_total facts (e, i) (value_in (types' i) bytes) (IsMap-facts types cells h.in_order h.rise))
      (λ q. find-facts types' q.0 q.1 cells' h'.in_order ∙ ap (option_map (value_in (types' q.1))) (now q.0 q.1) ∙ by q.0 q.1 (eq_by_cmp key_cmp q (e, i)) refl
      ∙ sym (find-put key_cmp key_cmp_total q (e, i) (value_in (types' i) bytes) facts))
    where
      by : (d : ℕ) (j : Id) (b : Bool) → eq_by_cmp key_cmp (d, j) (e, i) ≡ b
          → option_map (value_in (types' j)) (cond b (Some bytes) (bytes_in cells d j)) ≡ cond b (Some (value_in (types' i) bytes)) (value_at key_cmp facts (d, j))
      by d j true p =
          let same : ◌≡◌ {A = Key} (d, j) (e, i) = key_cmp_same (d, j) (e, i) ((Equal-is (key_cmp (d, j) (e, i))).0 p) in
          ap (λ k. Some (value_in (types' k.1) bytes)) same
      by d j false p = was d j

  -- one fact less
  pub facts_gone : (e : ℕ) (i : Id) → ((d : ℕ) (j : Id) → bytes_in cells' d j ≡ cond (eq_by_cmp key_cmp (d, j) (e, i)) None (bytes_in cells d j))
      → all_facts types' cells' ≡ without key_cmp facts (λ k. list_any (key_eq k) ((e, i) ∷ []))
  facts_gone e i now = same_facts (all_facts types' cells') (without key_cmp facts test) (IsMap-facts types' cells' h'.in_order h'.rise)
      (IsMap-without facts test (IsMap-facts types cells h.in_order h.rise))
      (λ q. find-facts types' q.0 q.1 cells' h'.in_order ∙ ap (option_map (value_in (types' q.1))) (now q.0 q.1) ∙ by q.0 q.1 (eq_by_cmp key_cmp q (e, i)) ∙ sym (value_at-without facts test q))
    where
      test : Key → Bool
      test k = list_any (key_eq k) ((e, i) ∷ [])

      by : (d : ℕ) (j : Id) (b : Bool) → option_map (value_in (types' j)) (cond b None (bytes_in cells d j)) ≡ cond (not (b || false)) (value_at key_cmp facts (d, j)) None
      by d j true = refl
      by d j false = was d j

-- whether a key is one, entity by entity
other_key : (d e : ℕ) (i j : Id) → d ≢ e → eq_by_cmp key_cmp (d, i) (e, j) ≡ false
other_key = eq_apart

own_key : (d e : ℕ) (i j : Id) → d ≡ e → eq_by_cmp key_cmp (d, i) (e, j) ≡ eq_by_cmp id_cmp i j
own_key d e i j same = ap (λ n. eq_by_cmp key_cmp (n, i) (e, j)) same ∙ eq_same e i j

module _ (cells : Map ℕ Cells) (e : ℕ) where
  abbrev held : Cells
  held = unwrap_or (value_at nat_cmp cells e) []

  at_own : (cs : Cells) (d : ℕ) (j : Id) → d ≡ e → value_at nat_cmp (with_value nat_cmp cells e cs) d ≡ Some cs → bytes_in (with_value nat_cmp cells e cs) d j ≡ value_at id_cmp cs j
  at_own cs d j same found = ap (λ o. value_at id_cmp (unwrap_or o []) j) found

  pub bytes_put : (i : Id) (bytes : List ℕ) (d : ℕ) (j : Id) → bytes_in (with_value nat_cmp cells e (with_value id_cmp held i bytes)) d j ≡ cond (eq_by_cmp key_cmp (d, j) (e, i)) (Some bytes) (bytes_in cells d j)
  bytes_put i bytes d j = elim (nat_value_at cells e (with_value id_cmp held i bytes) d) [
    | inl p ↦ at_own (with_value id_cmp held i bytes) d j p.0 p.1 ∙ find-put id_cmp id_cmp_total j i bytes held
        ∙ (λ k. cond (sym (own_key d e j i p.0) k) (Some bytes) (bytes_in cells (sym p.0 k) j))
    | inr p ↦ ap (λ o. value_at id_cmp (unwrap_or o []) j) p.1 ∙ ap (λ b. cond b (Some bytes) (bytes_in cells d j)) (sym (other_key d e j i p.0))
  ]

  pub bytes_gone : (i : Id) (d : ℕ) (j : Id) → bytes_in (with_value nat_cmp cells e (without id_cmp held (λ k. id_eq k i))) d j ≡ cond (eq_by_cmp key_cmp (d, j) (e, i)) None (bytes_in cells d j)
  bytes_gone i d j = elim (nat_value_at cells e (without id_cmp held (λ k. id_eq k i)) d) [
    | inl p ↦ at_own (without id_cmp held (λ k. id_eq k i)) d j p.0 p.1 ∙ find-where_key id_cmp (λ k. not (id_eq k i)) j (λ x t. ap (λ k. not (id_eq k i)) (sym (id_cmp_same j x t))) held
        ∙ turned (id_eq j i) (value_at id_cmp held j) ∙ (λ k. cond (sym (own_key d e j i p.0) k) None (bytes_in cells (sym p.0 k) j))
    | inr p ↦ ap (λ o. value_at id_cmp (unwrap_or o []) j) p.1 ∙ ap (λ b. cond b None (bytes_in cells d j)) (sym (other_key d e j i p.0))
  ]
    where
      turned : (b : Bool) (o : Option (List ℕ)) → cond (not b) o None ≡ cond b None o
      turned true o = refl
      turned false o = refl

  -- an entity that isn't settled yet
  module _ (none : value_at nat_cmp cells e ≡ None) where
    pub bytes_empty : (d : ℕ) (j : Id) → bytes_in (with_value nat_cmp cells e []) d j ≡ bytes_in cells d j
    bytes_empty d j = elim (nat_value_at cells e [] d) [
      | inl p ↦ at_own [] d j p.0 p.1 ∙ sym (ap (λ n. bytes_in cells n j) p.0 ∙ ap (λ o. value_at id_cmp (unwrap_or o []) j) none)
      | inr p ↦ ap (λ o. value_at id_cmp (unwrap_or o []) j) p.1
    ]

    pub bytes_first : (i : Id) (bytes : List ℕ) (d : ℕ) (j : Id) → bytes_in (with_value nat_cmp cells e ((i, bytes) ∷ [])) d j ≡ cond (eq_by_cmp key_cmp (d, j) (e, i)) (Some bytes) (bytes_in cells d j)
    bytes_first i bytes d j = ap (λ o. bytes_in (with_value nat_cmp cells e (with_value id_cmp (unwrap_or o []) i bytes)) d j) (sym none) ∙ bytes_put i bytes d j
