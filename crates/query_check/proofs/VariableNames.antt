-- The names of variables, counted one occurrence at a time.
use Rattle.std.specs.Prelude.{◌≡◌, ℕ, ◌+◌, ◌-◌, ◌<◌, ◌≤◌, suc, Bool, true, false, List, [], ◌∷◌, ◌++◌, map, drop, length, bytes_eq, if◌then◌else◌}
use Rattle.std.specs.List.{list_any}
use Rattle.std.proofs.Common.{Bor, ap, sym, ◌∙◌, get_or, arith, length-append}
use Rattle.std.proofs.lemmas.List.{drop_more, map-append}
use Rattle.query_model.specs.Check.{item_at, most_names, new_names}
use Rattle.query_model.specs.Scope.{Sighting, this}

-- which names were seen, and what is left to count
pub record IsNaming (all : List Sighting) (i : ℕ) (seen : List (List ℕ)) : Type 0 where
  pub few : length seen ≤ 33
  pub left : item_at (33 - length seen) (new_names seen (drop i all)) ≡ item_at most_names (new_names (this ∷ []) all)

module _ (all : List Sighting) where
  module _ (i : ℕ) (seen : List (List ℕ)) (s : Sighting) (n : IsNaming all i seen) (h : i < length all) (is : get_or all i s ≡ s) where
    one : (b : Bool) → b ≡ list_any (bytes_eq s.name) seen
        → item_at (33 - length seen) (if b then new_names seen (drop (i + 1) all) else (s ∷ new_names (seen ++ s.name ∷ []) (drop (i + 1) all))) ≡ item_at most_names (new_names (this ∷ []) all)
    one b e =
        ap (λ t. item_at (33 - length seen) (if t then new_names seen (drop (i + 1) all) else (s ∷ new_names (seen ++ s.name ∷ []) (drop (i + 1) all)))) e
        ∙ ap (λ x. item_at (33 - length seen) (new_names seen (x ∷ drop (i + 1) all))) (sym is)
        ∙ ap (λ l. item_at (33 - length seen) (new_names seen l)) (sym (drop_more all i s h))
        ∙ n.left

    pub one_known : true ≡ list_any (bytes_eq s.name) seen → IsNaming all (i + 1) seen
    one_known e = record { few = n.few; left = one true e }

    pub one_new : false ≡ list_any (bytes_eq s.name) seen → length seen ≤ 32 → IsNaming all (i + 1) (seen ++ s.name ∷ [])
    one_new e small =
        let long = length-append seen (s.name ∷ []) in
        let rest = new_names (seen ++ s.name ∷ []) (drop (i + 1) all) in
        let next : 33 - length seen ≡ suc (33 - length (seen ++ s.name ∷ [])) = omega arith in
        record {
          few = omega arith;
          left = ap (λ k. item_at k (s ∷ rest)) (sym next) ∙ one false e;
        }

    pub one_too_many : false ≡ list_any (bytes_eq s.name) seen → 32 < length seen → s ∷ [] ≡ item_at most_names (new_names (this ∷ []) all)
    one_too_many e large =
        let rest = new_names (seen ++ s.name ∷ []) (drop (i + 1) all) in
        let spent : 33 - length seen ≡ 0 = let few = n.few in omega arith in
        ap (λ k. item_at k (s ∷ rest)) (sym spent) ∙ one false e

-- names as they are seen, with one more
pub names_more : (seen more : List (Bor (List ℕ))) (n : Bor (List ℕ)) → more ≡ seen ++ n ∷ [] → map (λ (x : Bor (List ℕ)). x.now) more ≡ map (λ (x : Bor (List ℕ)). x.now) seen ++ n.now ∷ []
names_more seen more n e = ap (map (λ (x : Bor (List ℕ)). x.now)) e ∙ map-append (λ (x : Bor (List ℕ)). x.now) seen (n ∷ [])
