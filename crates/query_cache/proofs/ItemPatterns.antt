-- The patterns of a query ask what its cacheable items ask.
use Rattle.std.proofs.Common.{◌≡◌, ◌↔◌, ℕ, Bool, true, false, if◌then◌else◌, not, ◌&&◌, ◌||◌, List, [], ◌∷◌, ◌++◌, Option, Some, None, option_map, IsTrue, refl, sym, ap, subst, ◌∙◌, true≢false, arith}
use Rattle.std.specs.List.{Contains, list_any}
use Rattle.std.specs.Option.{option_map_or}
use Rattle.std.proofs.lemmas.Bool.Decides.{nat_tests}
use Rattle.std.proofs.lemmas.Bool.{and_parts}
use Rattle.id_pattern.specs.Patterns.{matches, takes}
use Rattle.id_pattern.specs.declared.Pattern.{Pattern}
use Rattle.ecs_id.specs.Id.{Id, plain, pair}
use Rattle.ecs_id.specs.declared.TableKey.{TableKey}
use Rattle.ecs_model.specs.rows.Level.{Level, done, also, unless, top}
use Rattle.ecs_model.specs.rows.Rows.{fits, matches as matches_term}
use Rattle.ecs_model.specs.stored.Tables.{is_cacheable, item_suits, level_suits, lists_table, has_hit as has_term_hit}
use Rattle.query_model.specs.declared.query.Ref.{Ref}
use Rattle.query_model.specs.declared.query.Ref.TheVariants.{Is, Var, Any, AnyOnce}
use Rattle.query_model.specs.declared.query.Term.{Term}
use Rattle.query_model.specs.Local.{asks_first}
use Rattle.query_model.specs.Observers.{is_constant, is_constant_target}
use Rattle.query_model.specs.Query.{Item, Query, must, may, either, equal, differ}
use Rattle.table_store.specs.Store.{Store, ids_at}
use Rattle.query_cache.specs.Kept.{is_kept, suits}
use Rattle.query_cache.specs.Laws.{PatternsSuffice}
use Rattle.query_cache.specs.Patterns.{AreListed, is_listed, item_patterns, level_patterns, part_of, pattern_of, patterns_of}

-- besides variables, a part takes what the reference fits
part_takes : (r : Ref) (i : ℕ) → is_constant r ≡ true → takes (part_of r) i ≡ fits [] i r
part_takes (Is e) i h = grind (arith, nat_tests)
part_takes (Var v) i h = absurd (true≢false (sym h))
part_takes Any i h = refl
part_takes AnyOnce i h = refl

pattern_hits : (first : Ref) (target : Option Ref) → is_constant first ≡ true → is_constant_target target ≡ true → (i : Id)
    → matches (record { first = part_of first; second = option_map part_of target }) i ≡ matches_term [] first target i
pattern_hits first None f t (plain c) = part_takes first c f
pattern_hits first None f t (pair r s) = refl
pattern_hits first (Some target) f t (plain c) = refl
pattern_hits first (Some target) f t (pair r s) = λ i. part_takes first r f i && part_takes target s t i

any_same : (p q : Id → Bool) → ((i : Id) → p i ≡ q i) → (ids : List Id) → list_any p ids ≡ list_any q ids
any_same p q h [] = refl
any_same p q h (i ∷ ids) = λ j. h i j || any_same p q h ids j

term_suits : (q : Query) (t : Term) (b : Bool) → is_cacheable q t ≡ b → (ids : List Id) (rest : List Pattern) (r : Bool) → suits rest ids ≡ r
    → suits ((if b then pattern_of t ∷ [] else []) ++ rest) ids ≡ ((not b || has_term_hit ids t) && r)
term_suits q t false e ids rest r h = h
term_suits q t true e ids rest r h =
    let asks = and_parts (q.has_this && asks_first t && is_constant t.component) (is_constant_target t.target) e in
    let first = and_parts (q.has_this && asks_first t) (is_constant t.component) asks.0 in
    λ j. any_same (matches (pattern_of t)) (matches_term [] t.component t.target) (pattern_hits t.component t.target first.1 asks.1) ids j && h j

one_suits : (q : Query) (i : Item) (ids : List Id) (rest : List Pattern) (r : Bool) → suits rest ids ≡ r → suits (item_patterns q i ++ rest) ids ≡ (item_suits q ids i && r)
one_suits q (must t) ids rest r h = term_suits q t (is_cacheable q t) refl ids rest r h
one_suits q (may t) ids rest r h = h
one_suits q (either ts) ids rest r h = h
one_suits q (equal v x) ids rest r h = h
one_suits q (differ v x) ids rest r h = h

all_suit : (q : Query) (l : Level) (ids : List Id) → suits (level_patterns q l) ids ≡ level_suits q ids l
all_suit q done ids = refl
all_suit q (also i rest) ids = one_suits q i ids (level_patterns q rest) (level_suits q ids rest) (all_suit q rest ids)
all_suit q (unless from_term own inner rest) ids = all_suit q rest ids

pub patterns_suffice : PatternsSuffice
unfolding patterns_of lists_table
patterns_suffice q ids = all_suit q (top q) ids

-- so a query lists the tables that its patterns do
kept_as_listed : (q : Query) (s : Store) (k : TableKey) → is_kept (patterns_of q) s k ≡ is_listed q s k
kept_as_listed q s k = by (ids_at s k)
  where
    by : (o : Option (List Id)) → option_map_or (suits (patterns_of q)) o false ≡ option_map_or (lists_table q) o false
    by None = refl
    by (Some ids) = patterns_suffice q ids

pub are_listed : (q : Query) (s : Store) (patterns : List Pattern) (keys : List TableKey) → patterns ≡ patterns_of q
    → ((k : TableKey) → Contains keys k ↔ IsTrue (is_kept patterns s k)) → AreListed q s keys
are_listed q s patterns keys of_query exact k =
    let same = ap (λ p. is_kept p s k) of_query ∙ kept_as_listed q s k in
    (λ c. subst (λ b. IsTrue b) same ((exact k).0 c), λ y. (exact k).1 (subst (λ b. IsTrue b) (sym same) y))
