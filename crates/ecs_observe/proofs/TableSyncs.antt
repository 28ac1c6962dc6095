-- How the list of a kept query has followed the tables, by one sync or by two.
use Rattle.std.specs.Prelude.{◌≡◌, ◌↔◌, ◌⊎◌, ℕ, ◌≤◌, Contains, IsTrue, List, [], ◌∷◌, length, OnErr, OnOk, Result, Ok, Err}
use Rattle.std.proofs.Common.{arith, inl, inr, refl, subst, sym, ◌∙◌}
use Rattle.ecs_id.specs.declared.TableKey.{TableKey}
use Rattle.query_cache.specs.Kept.{AreAbove, Counts, Fits, IsSynced, Judges, Kept, is_kept, stands}
use Rattle.table_store.specs.Store.{Store}
use Rattle.ecs_observe.specs.Following.{Follows, JudgesNew}

pub follows_itself : (s : Store) (list : Kept) → Follows s list list
follows_itself s list = record { patterns = refl; kept = λ k listed here. listed; passed = λ k here low. low; judged = inl refl }

-- where no table came since the last sync, none was judged
none_above : (s : Store) (list : Kept) → IsSynced list s → (above : List TableKey) → AreAbove s list.last above → (count : ℕ) → count ≤ length above → count ≡ length above
none_above s list synced [] are count few = omega (arith, few)
none_above s list synced (k ∷ ks) are count few =
    let new = (are.listed k).0 (0, omega arith, refl) in
    let old = synced k new.0 in
    let late = new.1 in
    absurd (omega (arith, late, old))

-- what a call of `sync` says of the list that it is given
pub record IsSync {X E : Type 0} (s : Store) (before after : Kept) (r : Result X E) : Type 0 where
  pub fits : Fits before s
  pub patterns : after.patterns ≡ before.patterns
  pub exact : OnOk r ((k : TableKey) → Contains after.keys k ↔ IsTrue (is_kept after.patterns s k))
  pub synced : OnOk r (IsSynced after s)
  pub refused : OnErr r (after ≡ record before { judged = after.judged })
  pub judges : Judges s before.last r before.judged after.judged
  pub again : IsSynced before s → after.judged ≡ before.judged

module _ {X E : Type 0} (s : Store) (before after : Kept) where
  still_listed : (r : Result X E) → IsSync s before after r → (k : TableKey) → Contains before.keys k → IsTrue (stands s k) → Contains after.keys k
  still_listed (Ok x) call k listed here = (call.exact k).1 (subst (λ ps. IsTrue (is_kept ps s k)) (sym call.patterns) (call.fits.only k listed here))
  still_listed (Err e) call k listed here = subst (λ (list : Kept). Contains list.keys k) (sym call.refused) listed

  still_passed : (r : Result X E) → IsSync s before after r → (k : TableKey) → IsTrue (stands s k) → k.serial ≤ before.last → k.serial ≤ after.last
  still_passed (Ok x) call k here low = call.synced k here
  still_passed (Err e) call k here low = subst (λ (list : Kept). k.serial ≤ list.last) (sym call.refused) low

  each_judged : (r : Result X E) (call : IsSync s before after r) → IsSynced after s → call.judges.count ≡ length call.judges.above
  each_judged (Ok x) call synced = call.judges.ok
  each_judged (Err e) call synced =
      none_above s before (λ k here. subst (λ (list : Kept). k.serial ≤ list.last) call.refused (synced k here)) call.judges.above call.judges.are_above call.judges.count call.judges.at_most

  pub follows_sync : (r : Result X E) → IsSync s before after r → Follows s before after
  follows_sync r call =
      let judges = call.judges in
      record {
        patterns = call.patterns;
        kept = still_listed r call;
        passed = still_passed r call;
        judged = inr (record { above = judges.above; are_above = judges.are_above; count = judges.count; at_most = judges.at_most; all = each_judged r call; counted = judges.counted });
      }

-- a list that was left as it was or synced, and then is synced
module _ {X E : Type 0} (s : Store) (first before after : Kept) (r : Result X E) (call : IsSync s before after r) where
  pub follows_again : Follows s first before → (before ≡ first) ⊎ IsSynced before s → Follows s first after
  follows_again was (inl same) = subst (λ list. Follows s list after) same (follows_sync s before after r call)
  follows_again was (inr synced) = by was.judged
    where
      by : (before ≡ first) ⊎ JudgesNew s first before → Follows s first after
      by (inl same) = subst (λ list. Follows s list after) same (follows_sync s before after r call)
      by (inr new) = record {
        patterns = call.patterns ∙ was.patterns;
        kept = λ k listed here. (follows_sync s before after r call).kept k (was.kept k listed here) here;
        passed = λ k here low. (follows_sync s before after r call).passed k here (was.passed k here low);
        judged = inr (record { above = new.above; are_above = new.are_above; count = new.count; at_most = new.at_most; all = λ _. new.all synced; counted = subst (Counts first.judged new.count) (sym (call.again synced)) new.counted });
      }
