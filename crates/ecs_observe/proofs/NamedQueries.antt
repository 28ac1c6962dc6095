-- Stored queries by their names: in the map that holds them, as they are held, and in the session of the definitions.
use Rattle.std.specs.Prelude.{◌≡◌, ℕ, Bool, true, false, not, cond, List, [], ◌∷◌, All, map, flat_map, length, bytes_eq, Option, None, Some, is_some, option_map, nat_le, if◌then◌else◌}
use Rattle.std.specs.List.{find}
use Rattle.std.specs.Map.{lookup}
use Rattle.std.specs.Cmp.Lexicographic.{bytes_decides}
use Rattle.std.specs.declared.string.String.{String}
use Rattle.std.specs.String.{string_bytes}
use Rattle.std.proofs.Common.{refl, sym, ap, subst, ◌∙◌}
use Rattle.std.proofs.lemmas.List.{length-map}
use Rattle.std.proofs.lemmas.List.Elements.{All-head, All-tail}
use Rattle.ecs_model.specs.declared.faults.Refusal.TheVariants.{BadName}
use Rattle.ecs_model.specs.declared.faults.SessionRefusal.{SessionRefusal}
use Rattle.ecs_model.specs.declared.faults.SessionRefusal.TheVariants.{EventsPending, OfWorld, QueryTaken, TooManyStored}
use Rattle.ecs_model.specs.steps.Outcomes.{Changed}
use Rattle.ecs_model.specs.Text.{is_name}
use Rattle.ecs_model.specs.Refusal.{first_reason}
use Rattle.ecs_model.specs.stored.Session.{SessionState, most_stored, stored_at}
use Rattle.ecs_world.specs.Standing as world
use Rattle.watch_stored.specs.declared.stored.StoredQuery.{StoredQuery}
use Rattle.ecs_observe.specs.Parts.{held_of}
use Rattle.watch_stored.specs.Held.{Held, told_to}
use Rattle.ecs_observe.specs.Standing.{Standing, session_of, stored_of}
use Rattle.ecs_observe.specs.Storing.{store_refusal}

-- a session by its parts
abbrev pub seen : {A : Type 0} → world.Standing → List (String A × StoredQuery A) → Option Changed → ℕ → Standing
seen w es waiting compared = record { world = w; stored = map held_of es; waiting = waiting; compared = compared }

-- what is held of a query under a name
abbrev pub named : {A : Type 0} → List ℕ → StoredQuery A → Held
named n s = record { name = n; kind = s.kind; query = (s.plan).query; these = (s.these).items; list = s.list; steps = (s.plan).steps; planned_at = s.planned_at }

-- ---- in the map

module _ {A : Type 0} (n : List ℕ) where
  -- whether a key is the name
  abbrev pub is_key : String A → Bool
  is_key k = bytes_eq n (string_bytes k)

  name_is : (k : String A) → is_key k ≡ true → string_bytes k ≡ n
  name_is k e = sym ((bytes_decides n (string_bytes k)).0 e)

  -- none is found where the map has none
  pub none_found : (es : List (String A × StoredQuery A)) → lookup is_key es ≡ None → find (λ x. bytes_eq n x.name) (map stored_of (map held_of es)) ≡ None
  none_found [] h = refl
  none_found (e ∷ es) h = by (is_key e.0) refl h (none_found es)
    where
      by : (b : Bool) → is_key e.0 ≡ b → cond b (Some e.1) (lookup is_key es) ≡ None
          → (lookup is_key es ≡ None → find (λ x. bytes_eq n x.name) (map stored_of (map held_of es)) ≡ None)
          → find (λ x. bytes_eq n x.name) (map stored_of (map held_of (e ∷ es))) ≡ None
      by true t h rest = let no : Some e.1 ≡ None = h in cc
      by false t h rest = ap (λ b. cond b (Some (stored_of (held_of e))) (find (λ x. bytes_eq n x.name) (map stored_of (map held_of es)))) t ∙ rest h

  -- what is found is what the map has
  pub some_found : (es : List (String A × StoredQuery A)) (s : StoredQuery A) → lookup is_key es ≡ Some s
      → find (λ x. bytes_eq n x.name) (map stored_of (map held_of es)) ≡ Some (stored_of (named n s))
  some_found [] s h = let no : None ≡ Some s = h in cc
  some_found (e ∷ es) s h = by (is_key e.0) refl h (some_found es s)
    where
      by : (b : Bool) → is_key e.0 ≡ b → cond b (Some e.1) (lookup is_key es) ≡ Some s
          → (lookup is_key es ≡ Some s → find (λ x. bytes_eq n x.name) (map stored_of (map held_of es)) ≡ Some (stored_of (named n s)))
          → find (λ x. bytes_eq n x.name) (map stored_of (map held_of (e ∷ es))) ≡ Some (stored_of (named n s))
      by true t h rest =
          let same : Some e.1 ≡ Some s = h in
          let one : e.1 ≡ s = cc in
          ap (λ b. cond b (Some (stored_of (held_of e))) (find (λ x. bytes_eq n x.name) (map stored_of (map held_of es)))) t
          ∙ (λ i. Some (stored_of (record { name = name_is e.0 t i; kind = (one i).kind; query = ((one i).plan).query; these = ((one i).these).items; list = (one i).list; steps = ((one i).plan).steps; planned_at = (one i).planned_at })))
      by false t h rest = ap (λ b. cond b (Some (stored_of (held_of e))) (find (λ x. bytes_eq n x.name) (map stored_of (map held_of es)))) t ∙ rest h

  -- and what holds of all that are held, holds of it
  pub holds_of_found : (P : Held → Type 0) (es : List (String A × StoredQuery A)) (s : StoredQuery A) → All P (map held_of es) → lookup is_key es ≡ Some s → P (named n s)
  holds_of_found P [] s all h = let no : None ≡ Some s = h in cc
  holds_of_found P (e ∷ es) s all h = by (is_key e.0) refl h (holds_of_found P es s (All-tail P (held_of e) (map held_of es) all))
    where
      by : (b : Bool) → is_key e.0 ≡ b → cond b (Some e.1) (lookup is_key es) ≡ Some s → (lookup is_key es ≡ Some s → P (named n s)) → P (named n s)
      by true t h rest =
          let same : Some e.1 ≡ Some s = h in
          let one : e.1 ≡ s = cc in
          subst P (λ i. record { name = name_is e.0 t i; kind = (one i).kind; query = ((one i).plan).query; these = ((one i).these).items; list = (one i).list; steps = ((one i).plan).steps; planned_at = (one i).planned_at }) (All-head P (held_of e) (map held_of es) all)
      by false t h rest = rest h

  -- whether one is found
  pub is_found : (es : List (String A × StoredQuery A)) → is_some (find (λ x. bytes_eq n x.name) (map stored_of (map held_of es))) ≡ is_some (lookup is_key es)
  is_found es = by (lookup is_key es) refl
    where
      by : (o : Option (StoredQuery A)) → lookup is_key es ≡ o → is_some (find (λ x. bytes_eq n x.name) (map stored_of (map held_of es))) ≡ is_some o
      by None e = ap is_some (none_found es e)
      by (Some s) e = ap is_some (some_found es s e)

-- ---- of the session of the definitions

module _ (s : Standing) where
  pub stored_is : (session_of s).stored ≡ map stored_of s.stored
  unfolding session_of
  stored_is = refl

  pub world_is : (session_of s).world ≡ (s.world).state
  unfolding session_of
  world_is = refl

  pub waits : is_some (session_of s).waiting ≡ is_some s.waiting
  unfolding session_of
  waits = by s.waiting
    where
      by : (o : Option Changed) → is_some (option_map (λ changed. flat_map (told_to (s.world).state changed) s.stored) o) ≡ is_some o
      by None = refl
      by (Some x) = refl

  pub as_many : length (session_of s).stored ≡ length s.stored
  unfolding session_of
  as_many = length-map s.stored stored_of

-- the first reason against a new stored query, by its tests
module _ (s : SessionState) (n : List ℕ) where
  abbrev pub first_of : Bool → Bool → Bool → Bool → Option SessionRefusal
  first_of waits named taken full =
      if waits then Some EventsPending else (if not named then Some (OfWorld BadName) else (if taken then Some QueryTaken else (if full then Some TooManyStored else None)))

  pub refusal_is : store_refusal s n ≡ first_of (is_some s.waiting) (is_name n) (is_some (stored_at s n)) (nat_le most_stored (length s.stored))
  refusal_is = by (is_some s.waiting) (is_name n) (is_some (stored_at s n)) (nat_le most_stored (length s.stored))
    where
      by : (a b c d : Bool) → (if a then Some EventsPending else first_reason ((not b, OfWorld BadName) ∷ (c, QueryTaken) ∷ (d, TooManyStored) ∷ [])) ≡ first_of a b c d
      by true b c d = refl
      by false false c d = refl
      by false true true d = refl
      by false true false true = refl
      by false true false false = refl

-- and by those of the map
pub told_refusal : {A : Type 0} (self : Standing) (w : world.Standing) (es : List (String A × StoredQuery A)) (waiting : Option Changed) (compared : ℕ) (n : List ℕ) (a b c d : Bool)
    → self ≡ seen w es waiting compared → is_some waiting ≡ a → is_name n ≡ b → is_some (lookup (is_key n) es) ≡ c → nat_le most_stored (length es) ≡ d
    → first_of (session_of self) n a b c d ≡ store_refusal (session_of self) n
told_refusal self w es waiting compared n a b c d view ea eb ec ed =
    sym (refusal_is (session_of self) n ∙ (λ i. first_of (session_of self) n (wait i) (eb i) (taken i) (full i)))
  where
    wait : is_some (session_of self).waiting ≡ a
    wait = waits self ∙ ap (λ (s : Standing). is_some s.waiting) view ∙ ea

    taken : is_some (stored_at (session_of self) n) ≡ c
    taken =
        ap (λ xs. is_some (find (λ x. bytes_eq n x.name) xs)) (stored_is self ∙ ap (λ (s : Standing). map stored_of s.stored) view) ∙ (is_found n es ∙ ec)

    full : nat_le most_stored (length (session_of self).stored) ≡ d
    full = ap (nat_le most_stored) (as_many self ∙ ap (λ (s : Standing). length s.stored) view ∙ length-map es held_of) ∙ ed

-- how often rows were compared is no part of the session of the definitions
pub same_but_compared : (s : Standing) (n : ℕ) → session_of (record s { compared = n }) ≡ session_of s
unfolding session_of
same_but_compared s n = refl
