-- How many stored queries are notified of commands, and what all look out for, with one more, with one less, and where one is written.
use mir.Val.{bool_byte}
use Rattle.std.specs.Prelude.{◌≡◌, ℕ, ◌+◌, ◌-◌, ◌<◌, ◌≤◌, cond, nat_lt, Bool, true, false, ◌||◌, List, [], ◌∷◌, ◌++◌, All, length, map, slice_index_or, slice_set}
use Rattle.std.specs.List.{count_by, fold, list_any, remove}
use Rattle.std.specs.declared.string.String.{String}
use Rattle.std.proofs.Common.{refl, sym, ap, subst, ◌∙◌, arith}
use Rattle.std.proofs.lemmas.Bool.Decides.{nat_tests}
use Rattle.std.proofs.lemmas.List.Elements.{All-set}
use Rattle.std.proofs.lemmas.List.Folds.{fold-map}
use Rattle.std.proofs.lemmas.List.Sums.{sum_by-cons, sum_by-remove, sum_by_push}
use Rattle.watch_index.specs.NameOrder.{name_in, number_in}
use Rattle.watch_index.specs.Occasions.{occasions_of}
use Rattle.watch_index.specs.WatchOrder.{Boxed, occasions_in}
use Rattle.watch_index.specs.declared.watch_order.Watcher.{Watcher}
use Rattle.watch_index.proofs.WrittenWatches.{mapped, still_watched}
use Rattle.ecs_model.specs.stored.Watches.{is_told}
use Rattle.ecs_observe.specs.Stored.{IsFit, IsOpened, IsStored, entries_in, is_watch_in, made_of}
use Rattle.ecs_observe.specs.declared.queries.StoredQueries.{StoredQueries}
use Rattle.watch_stored.specs.declared.stored.StoredQuery.{StoredQuery}

-- ---- the count
pub byte_is : (b : Bool) → bool_byte b ≡ cond b 1 0
byte_is true = refl
byte_is false = refl

-- one that was counted is counted no more
pub count_below : (w n b m k : ℕ) → w ≡ n → b ≡ k → m + k ≡ n → b ≤ w
count_below w n b m k count one left = omega (arith, count, one, left)

pub count_less : (w n b m k : ℕ) → w ≡ n → b ≡ k → m + k ≡ n → w - b ≡ m
count_less w n b m k count one left = omega (arith, count, one, left)

above_none : (n : ℕ) → nat_lt 0 (1 + n) ≡ true
above_none n = grind (arith, nat_tests)

module _ {X : Type 0} (p : X → Bool) where
  -- it is above 0 where there is one
  pub any_counted : (xs : List X) → nat_lt 0 (count_by p xs) ≡ list_any p xs
  any_counted [] = refl
  any_counted (x ∷ xs) = ap (nat_lt 0) (sum_by-cons (λ y. cond (p y) 1 0) x xs) ∙ by (p x) (any_counted xs)
    where
      none_more : (n : ℕ) → 0 + n ≡ n
      none_more n = omega arith

      by : (b : Bool) → nat_lt 0 (count_by p xs) ≡ list_any p xs → nat_lt 0 (cond b 1 0 + count_by p xs) ≡ (b || list_any p xs)
      by true rest = above_none (count_by p xs)
      by false rest = ap (nat_lt 0) (none_more (count_by p xs)) ∙ rest

  pub counted_behind : (xs : List X) (x : X) → count_by p (xs ++ x ∷ []) ≡ count_by p xs + cond (p x) 1 0
  counted_behind xs x = sum_by_push (λ y. cond (p y) 1 0) xs x

  pub counted_left : (xs : List X) (i : ℕ) (x : X) → i < length xs → ((d : X) → slice_index_or xs i d ≡ x) → count_by p (remove xs i) + cond (p x) 1 0 ≡ count_by p xs
  counted_left xs i x within there =
      ap (λ y. count_by p (remove xs i) + cond (p y) 1 0) (sym (there x)) ∙ sum_by-remove (λ y. cond (p y) 1 0) xs i x within

  counted_of_tests : (xs : List X) → count_by p xs ≡ fold (λ n b. n + cond b 1 0) 0 (map p xs)
  counted_of_tests xs = sym (fold-map (λ n b. n + cond b 1 0) p 0 xs)

  pub counted_same : (xs ys : List X) → map p ys ≡ map p xs → count_by p ys ≡ count_by p xs
  counted_same xs ys same = counted_of_tests ys ∙ ap (fold (λ n b. n + cond b 1 0) 0) same ∙ sym (counted_of_tests xs)

module _ {A : Type 0} where
  pub told_in : (bs : List (Boxed (StoredQuery A) A)) → list_any (λ (q : StoredQuery A). is_told q.kind) (map (λ e. e.1) (entries_in bs)) ≡ list_any is_watch_in bs
  told_in [] = refl
  told_in (b ∷ bs) = ap (λ r. is_watch_in b || r) (told_in bs)

  -- what a box looks out for is that of the stored query that was put into it
  pub fits_as : (b : Boxed (StoredQuery A) A) (w : Watcher (StoredQuery A) A) → b.value.value ≡ w → w.occasions.items ≡ occasions_of (w.value).kind ((w.value).plan).query → IsFit b
  fits_as b w e fit = subst (λ (x : Watcher (StoredQuery A) A). x.occasions.items ≡ occasions_of (x.value).kind ((x.value).plan).query) (sym e) fit

  -- one that was made ready is so under the name and with the query that it has
  pub opened_as : (s : StoredQueries A) (name key : String A) (q : StoredQuery A) (b : Boxed (StoredQuery A) A) → IsOpened s name q (key, b) → IsOpened s b.value.name b.value.value.value (key, b)
  opened_as s name key q b made =
      subst (λ k. IsOpened s k b.value.value.value (key, b)) (sym made.open_one.ready.name) (subst (λ x. IsOpened s name x (key, b)) (sym made.query) made)

  -- ---- y is written over x
  module _ (s t : StoredQueries A) (i : ℕ) (x y : Boxed (StoredQuery A) A) (within : i < length (made_of s)) (here : (d : Boxed (StoredQuery A) A) → slice_index_or (made_of s) i d ≡ x)
      (name : name_in y ≡ name_in x) (number : number_in y ≡ number_in x) (occasions : occasions_in y ≡ occasions_in x)
      (kind : (y.value.value.value).kind ≡ (x.value.value.value).kind) (query : ((y.value.value.value).plan).query ≡ ((x.value.value.value).plan).query) where
    still_fit : IsFit x → IsFit y
    still_fit fit = occasions ∙ fit ∙ sym (λ j. occasions_of (kind j) (query j))

    pub still_stored : made_of t ≡ slice_set (made_of s) i y → t.all.order.numbers.entries ≡ s.all.order.numbers.entries → t.all.index ≡ s.all.index → t.watches ≡ s.watches → IsStored s → IsStored t
    still_stored made numbers index watches was = record {
      watched = still_watched s.all t.all i x y within here name number occasions made numbers index was.watched;
      fit = subst (All IsFit) (sym made) (All-set IsFit (made_of s) i y (still_fit (subst IsFit (here x) (was.fit i x within))) was.fit);
      watches = watches ∙ was.watches ∙ sym (ap (count_by is_watch_in) made ∙ counted_same is_watch_in (made_of s) (slice_set (made_of s) i y) (mapped (made_of s) i x y within here is_watch_in (ap is_told kind)));
    }
