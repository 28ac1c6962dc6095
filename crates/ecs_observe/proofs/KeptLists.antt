-- The lists of kept queries, whatever becomes of the world and of what is stored.
use Rattle.std.specs.Prelude.{◌≡◌, ◌≢◌, ℕ, Bool, true, false, cond, All, map, List, [], ◌∷◌, ◌++◌, Option, None, Some, IfSome, is_some, not}
use Rattle.std.specs.Map.{lookup, remove_entry}
use Rattle.std.specs.declared.string.String.{String}
use Rattle.std.proofs.Common.{refl, sym, ap, subst, ◌∙◌, true≢false}
use Rattle.std.proofs.lemmas.List.Elements.{All-cons, All-head, All-map, All-nil, All-push, All-tail, All-weaker}
use Rattle.ecs_model.specs.stored.Watches.{is_told}
use Rattle.ecs_model.specs.declared.watches.StoredKind.{StoredKind}
use Rattle.ecs_model.specs.declared.watches.StoredKind.TheVariants.{Kept, Monitor, OnAdd, OnRemove, OnSet}
use Rattle.query_cache.specs.Kept as cache
use Rattle.query_cache.proofs.FittingStores.{fits_later}
use Rattle.table_store.specs.Going.{TablesGoOn}
use Rattle.table_store.specs.Store.{Store}
use Rattle.ecs_observe.specs.Lists.{HasItsList, HaveLists}
use Rattle.watch_stored.specs.Lists.{HasList, IsListOf}
use Rattle.ecs_observe.specs.Parts.{held_of}
use Rattle.watch_stored.specs.declared.stored.StoredQuery.{StoredQuery}
use Rattle.ecs_observe.proofs.NamedQueries.{is_key}

abbrev QueryTables : Type 0
QueryTables = cache.Kept

module _ {A : Type 0} where
  -- whether a stored query has its list, in one world and in another
  module _ (s t : Store) (on : TablesGoOn s t) where
    list_later : (q : StoredQuery A) → HasList s q → HasList t q
    list_later q h = record { kept = h.kept; list = by q.list h.list }
      where
        by : (o : Option QueryTables) → IfSome o (IsListOf (q.plan).query s) → IfSome o (IsListOf (q.plan).query t)
        by None l = tt
        by (Some k) l = record { patterns = l.patterns; fits = fits_later k s t on l.fits }

    pub lists_later : (es : List (String A × StoredQuery A)) → HaveLists s es → HaveLists t es
    lists_later es h = All-weaker (λ (e : String A × StoredQuery A). HasList s e.1) (λ (e : String A × StoredQuery A). HasList t e.1) (λ e. list_later e.1) es h

  -- and each has it as it is seen
  pub lists_seen : (s : Store) (es : List (String A × StoredQuery A)) → HaveLists s es → All (HasItsList s) (map held_of es)
  lists_seen s es h = All-map (HasItsList s) held_of es h

  pub none_lists : (s : Store) (es : List (String A × StoredQuery A)) → es ≡ [] → HaveLists s es
  none_lists s es e = subst (HaveLists s) (sym e) (All-nil (λ (e : String A × StoredQuery A). HasList s e.1))

  module _ (s : Store) where
    abbrev has : String A × StoredQuery A → Type 0
    has e = HasList s e.1

    -- one is put after the others
    pub lists_more : (es fs : List (String A × StoredQuery A)) (k : String A) (q : StoredQuery A) → fs ≡ es ++ (k, q) ∷ [] → HasList s q → HaveLists s es → HaveLists s fs
    lists_more es fs k q put one all = subst (HaveLists s) (sym put) (All-push has es (k, q) all one)

    module _ (n : List ℕ) where
      -- one is taken out
      pub lists_less : (es : List (String A × StoredQuery A)) → HaveLists s es → HaveLists s (remove_entry (is_key n) es)
      lists_less [] all = all
      lists_less (e ∷ es) all = by (is_key n e.0) (All-tail has e es all) (lists_less es (All-tail has e es all))
        where
          by : (b : Bool) → HaveLists s es → HaveLists s (remove_entry (is_key n) es) → HaveLists s (cond b es (e ∷ remove_entry (is_key n) es))
          by true rest less = rest
          by false rest less = All-cons has e (remove_entry (is_key n) es) (All-head has e es all) less

      pub list_found : (es : List (String A × StoredQuery A)) (q : StoredQuery A) → HaveLists s es → lookup (is_key n) es ≡ Some q → HasList s q
      list_found [] q all h = let no : None ≡ Some q = h in cc
      list_found (e ∷ es) q all h = by (is_key n e.0) h (list_found es q (All-tail has e es all))
        where
          by : (b : Bool) → cond b (Some e.1) (lookup (is_key n) es) ≡ Some q → (lookup (is_key n) es ≡ Some q → HasList s q) → HasList s q
          by true h rest = let same : Some e.1 ≡ Some q = h in let one : e.1 ≡ q = cc in subst (HasList s) one (All-head has e es all)
          by false h rest = rest h

  -- other entities of its rows leave a query its list
  pub list_kept : (s : Store) (q w : StoredQuery A) → w.kind ≡ q.kind → w.plan ≡ q.plan → w.list ≡ q.list → HasList s q → HasList s w
  list_kept s q w kind plan list was = record {
    kept = ap is_some list ∙ (was.kept ∙ ap (λ k. not (is_told k)) (sym kind));
    list = subst (λ o. IfSome o (IsListOf (w.plan).query s)) (sym list) (subst (λ p. IfSome q.list (IsListOf p.query s)) (sym plan) was.list);
  }

-- ---- the list of one stored query, which is found by its name
module _ {A : Type 0} (s : Store) (q : StoredQuery A) (has : HasList s q) where
  pub not_kept : q.list ≡ None → q.kind ≢ Kept
  not_kept none kept = true≢false (ap (λ k. not (is_told k)) (sym kept) ∙ (sym has.kept ∙ ap is_some none))

  pub its_list : (list : QueryTables) → q.list ≡ Some list → IsListOf (q.plan).query s list
  its_list list is = subst (λ o. IfSome o (IsListOf (q.plan).query s)) is has.list

  pub kept_kind : (list : QueryTables) → q.list ≡ Some list → q.kind ≡ Kept
  kept_kind list is = by q.kind (sym has.kept ∙ ap is_some is)
    where
      by : (k : StoredKind) → not (is_told k) ≡ true → k ≡ Kept
      by Kept e = refl
      by Monitor e = absurd (true≢false (sym e))
      by OnAdd e = absurd (true≢false (sym e))
      by OnRemove e = absurd (true≢false (sym e))
      by OnSet e = absurd (true≢false (sym e))
