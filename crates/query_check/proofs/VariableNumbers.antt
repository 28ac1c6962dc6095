-- Variables by number, one more at a time.
use Rattle.std.specs.Prelude.{◌≡◌, ◌≢◌, ℕ, ◌+◌, ◌<◌, ◌==◌, Bool, true, false, List, [], ◌∷◌, ◌++◌, map, filter, fold, drop, take, length, if◌then◌else◌}
use Rattle.std.specs.List.{list_any}
use Rattle.std.proofs.Common.{ap, sym, ◌∙◌, eq-eqb, get_or}
use Rattle.std.proofs.lemmas.Bool.{ne_eqb}
use Rattle.std.proofs.lemmas.List.{append_assoc, drop_more, map_more}
use Rattle.query_model.specs.Numbers.{Variable, add_new, is_whole, number_from, numbers_from, same_variable, variable_of}
use Rattle.query_model.specs.Scope.{Occurrence, Sighting, owner, sighting}

-- variables that are added one after the other
pub record IsAdding (whole : Bool) (owned : List Variable) (i : ℕ) (start now : List Variable) : Type 0 where
  pub left : fold add_new now (filter (is_whole whole) (drop i owned)) ≡ fold add_new start (filter (is_whole whole) owned)

module _ (whole : Bool) (owned : List Variable) (start : List Variable) where
  module _ (i : ℕ) (now : List Variable) (v : Variable) (a : IsAdding whole owned i start now) (h : i < length owned) (is : get_or owned i v ≡ v) where
    step : (b : Bool) → b ≡ is_whole whole v → fold add_new now (if b then v ∷ filter (is_whole whole) (drop (i + 1) owned) else filter (is_whole whole) (drop (i + 1) owned)) ≡ fold add_new start (filter (is_whole whole) owned)
    step b e =
        ap (λ t. fold add_new now (if t then v ∷ filter (is_whole whole) (drop (i + 1) owned) else filter (is_whole whole) (drop (i + 1) owned))) e
        ∙ ap (λ x. fold add_new now (filter (is_whole whole) (x ∷ drop (i + 1) owned))) (sym is)
        ∙ ap (λ l. fold add_new now (filter (is_whole whole) l)) (sym (drop_more owned i v h)) ∙ a.left

    pub other_kind : false ≡ is_whole whole v → IsAdding whole owned (i + 1) start now
    other_kind e = record { left = step false e }

    pub known_one : true ≡ is_whole whole v → true ≡ list_any (same_variable v) now → IsAdding whole owned (i + 1) start now
    known_one e k = record { left = ap (λ b. fold add_new (if b then now else now ++ v ∷ []) (filter (is_whole whole) (drop (i + 1) owned))) k ∙ step true e }

    pub new_one : true ≡ is_whole whole v → false ≡ list_any (same_variable v) now → IsAdding whole owned (i + 1) start (now ++ v ∷ [])
    new_one e k = record { left = ap (λ b. fold add_new (if b then now else now ++ v ∷ []) (filter (is_whole whole) (drop (i + 1) owned))) k ∙ step true e }

-- the place of a variable that isn't among the first
pub record IsSeeking (v : Variable) (us : List Variable) (i : ℕ) : Type 0 where
  pub left : number_from i v (drop i us) ≡ number_from 0 v us

module _ (v : Variable) (us : List Variable) where
  module _ (i : ℕ) (u : Variable) (s : IsSeeking v us i) (h : i < length us) (is : get_or us i u ≡ u) where
    look : (b : Bool) → b ≡ same_variable v u → (if b then i else number_from (i + 1) v (drop (i + 1) us)) ≡ number_from 0 v us
    look b e =
        ap (λ t. if t then i else number_from (i + 1) v (drop (i + 1) us)) e ∙ ap (λ x. number_from i v (x ∷ drop (i + 1) us)) (sym is)
        ∙ ap (number_from i v) (sym (drop_more us i u h)) ∙ s.left

    pub is_there : true ≡ same_variable v u → i ≡ number_from 0 v us
    is_there e = look true e

    pub is_further : false ≡ same_variable v u → IsSeeking v us (i + 1)
    is_further e = record { left = look false e }

-- the numbers of a level so far
pub record IsListing (level : ℕ) (vs : List Variable) (i : ℕ) (own : List ℕ) : Type 0 where
  pub left : own ++ numbers_from i level (drop i vs) ≡ numbers_from 0 level vs

module _ (level : ℕ) (vs : List Variable) where
  module _ (i : ℕ) (own : List ℕ) (v : Variable) (l : IsListing level vs i own) (h : i < length vs) (is : get_or vs i v ≡ v) where
    list : (b : Bool) → (v.1 == level) ≡ b → own ++ (if b then i ∷ numbers_from (i + 1) level (drop (i + 1) vs) else numbers_from (i + 1) level (drop (i + 1) vs)) ≡ numbers_from 0 level vs
    list b e =
        ap (λ t. own ++ (if t then i ∷ numbers_from (i + 1) level (drop (i + 1) vs) else numbers_from (i + 1) level (drop (i + 1) vs))) (sym e)
        ∙ ap (λ x. own ++ numbers_from i level (x ∷ drop (i + 1) vs)) (sym is)
        ∙ ap (λ r. own ++ numbers_from i level r) (sym (drop_more vs i v h)) ∙ l.left

    pub one_listed : v.1 ≡ level → IsListing level vs (i + 1) (own ++ i ∷ [])
    one_listed e = record { left = append_assoc own (i ∷ []) _ ∙ list true (eq-eqb v.1 level e) }

    pub not_listed : v.1 ≢ level → IsListing level vs (i + 1) own
    not_listed ne = record { left = list false (ne_eqb v.1 level ne) }

-- the variables of occurrences, one more
pub owned_is : (all : List Sighting) (o : Occurrence) (s : Sighting) (own : ℕ) → sighting o ≡ s → own ≡ owner all s.name o.path → (s.name, own) ≡ variable_of all o
owned_is all o s own same owns =
    let with_level : ℕ → Variable = λ l. (s.name, l) in
    let with_name : Sighting → Variable = λ x. (x.name, owner all x.name o.path) in
    ap with_level owns ∙ ap with_name (sym same)

pub one_owned : (all : List Sighting) (os : List Occurrence) (i : ℕ) (d : Occurrence) (before : List Variable) (v : Variable) → i < length os → before ≡ map (variable_of all) (take i os) → v ≡ variable_of all (get_or os i d)
    → before ++ v ∷ [] ≡ map (variable_of all) (take (i + 1) os)
one_owned all os i d before v h e is = ap (λ l. l ++ v ∷ []) e ∙ ap (λ x. map (variable_of all) (take i os) ++ x ∷ []) is ∙ sym (map_more (variable_of all) os i d h)
