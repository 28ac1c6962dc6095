-- The greatest live index plus 1, as entities come and go.
use Rattle.std.proofs.Common.{◌≡◌, ℕ, zero, suc, ◌+◌, ◌-◌, ◌<◌, ◌≤◌, ◌==◌, Bool, true, false, true≢false, cond, not, List, [], ◌∷◌, Option, Some, None, is_some, refl, sym, ap, subst, ◌∙◌, arith}
use Rattle.std.specs.Prelude.{max, nat_le}
use Rattle.std.specs.List.{filter, last_or}
use Rattle.std.specs.Option.{option_eq, option_map, option_map_or}
use Rattle.std.specs.Cmp.{nat_cmp_total}
use Rattle.std.specs.Ordering.{eq_by_cmp, is_lt, nat_cmp}
use Rattle.std.specs.declared.cmp.Ordering.{Ordering}
use Rattle.std.specs.declared.cmp.Ordering.TheVariants.{Less, Equal, Greater}
use Rattle.std.specs.FinMap.{nat_cmp-IsAntisymmetric}
use Rattle.std.specs.FinMap.Entries.{below_all, find, find-put, find-where_key, is_sorted, put}
use Rattle.std.proofs.lemmas.Bool.Decides.{Decides-eqb, nat_tests}
use Rattle.ecs_model.specs.Map.{Map, keys}
use Rattle.ecs_model.proofs.Maps.{both_true, eq_itself}
use Rattle.ecs_id.specs.declared.EntityId.{EntityId}
use Rattle.ecs_model.specs.World.{is_built_in}
use Rattle.ecs_model.proofs.LeastSets.{nat_same}
use Rattle.entity_index.specs.Entities.{Entities, IsWellFormed, is_alive, is_deletable, is_live, with_entity, without_entity}
use Rattle.entity_index.specs.Sizes.{IsSized, live_size}

-- all live indexes are below n, and the one before n is live
pub record IsTop (live : Map ℕ ℕ) (n : ℕ) : Type 0 where
  pub bound : (i : ℕ) → is_some (find nat_cmp i live) ≡ true → i < n
  pub hit : 0 < n → is_some (find nat_cmp (n - 1) live) ≡ true

top_le : (live : Map ℕ ℕ) (n m : ℕ) → IsTop live n → IsTop live m → n ≤ m
top_le live zero m a b = omega arith
top_le live (suc k) m a b = let h = b.bound (suc k - 1) (a.hit (omega arith)) in omega (arith, h)

pub top_same : (live : Map ℕ ℕ) (n m : ℕ) → IsTop live n → IsTop live m → n ≡ m
top_same live n m a b = let x = top_le live n m a b in let y = top_le live m n b a in omega (arith, x, y)

less_index : (a b : ℕ) (r : Ordering) → nat_cmp a b ≡ r → is_lt r ≡ true → a < b
less_index a b Less e h = grind (arith, nat_tests)
less_index a b Equal e h = cc
less_index a b Greater e h = cc

-- the last of a list that ascends is the greatest
record IsLast (e : ℕ × ℕ) (es : List (ℕ × ℕ)) : Type 0 where
  last : ℕ
  is : last_or (Some e.0) (keys es) ≡ Some last
  there : is_some (find nat_cmp last (e ∷ es)) ≡ true
  greatest : (i : ℕ) → is_some (find nat_cmp i (e ∷ es)) ≡ true → i ≤ last

last_is : (e : ℕ × ℕ) (es : List (ℕ × ℕ)) → is_sorted nat_cmp (e ∷ es) ≡ true → IsLast e es
last_is e [] up = record {
  last = e.0;
  is = refl;
  there = ap (λ b. is_some (cond b (Some e.1) None)) (eq_itself nat_cmp nat_cmp_total e.0);
  greatest = λ i h. by i (eq_by_cmp nat_cmp i e.0) refl h;
}
  where
    by : (i : ℕ) (b : Bool) → eq_by_cmp nat_cmp i e.0 ≡ b → is_some {T = ℕ} (cond b (Some e.1) None) ≡ true → i ≤ e.0
    by i true own h = let same = nat_same i e.0 own in omega (arith, same)
    by i false own h = absurd (true≢false (sym h))
last_is e (f ∷ fs) up =
    let ups = both_true (below_all nat_cmp e.0 (f ∷ fs)) (is_sorted nat_cmp (f ∷ fs)) up in
    let rest = last_is f fs ups.1 in
    let low = less_index e.0 f.0 (nat_cmp e.0 f.0) refl (both_true (is_lt (nat_cmp e.0 f.0)) (below_all nat_cmp e.0 fs) ups.0).0 in
    let first = rest.greatest f.0 (ap (λ b. is_some (cond b (Some f.1) (find nat_cmp f.0 fs))) (eq_itself nat_cmp nat_cmp_total f.0)) in
    record {
      last = rest.last;
      is = rest.is;
      there = either (eq_by_cmp nat_cmp rest.last e.0) (find nat_cmp rest.last (f ∷ fs)) rest.there;
      greatest = λ i h. by i rest.last (omega (arith, low, first)) (rest.greatest i) (eq_by_cmp nat_cmp i e.0) refl h;
    }
  where
    either : (b : Bool) (o : Option ℕ) → is_some o ≡ true → is_some (cond b (Some e.1) o) ≡ true
    either true o h = refl
    either false o h = h

    by : (i l : ℕ) → e.0 ≤ l → (is_some (find nat_cmp i (f ∷ fs)) ≡ true → i ≤ l) → (b : Bool) → eq_by_cmp nat_cmp i e.0 ≡ b → is_some (cond b (Some e.1) (find nat_cmp i (f ∷ fs))) ≡ true → i ≤ l
    by i l high rest true own h = let same = nat_same i e.0 own in omega (arith, same, high)
    by i l high rest false own h = rest h

pub top_is : (live : Map ℕ ℕ) → is_sorted nat_cmp live ≡ true → IsTop live (live_size live)
top_is [] up = record { bound = λ i h. absurd (true≢false (sym h)); hit = λ h. absurd (omega (arith, h)) }
top_is (e ∷ es) up =
    let l = last_is e es up in
    subst (IsTop (e ∷ es)) (ap (λ o. option_map_or (λ i. i + 1) o 0) (sym l.is)) (record {
      bound = λ i h. let le = l.greatest i h in omega (arith, le);
      hit = λ h. subst (λ n. is_some (find nat_cmp n (e ∷ es)) ≡ true) (more l.last) l.there;
    })
  where
    more : (n : ℕ) → n ≡ n + 1 - 1
    more n = omega arith

-- what all live indexes stand below, with one of them before it, is their size
pub size_is : (live : Map ℕ ℕ) → is_sorted nat_cmp live ≡ true → (n : ℕ) → IsTop live n → n ≡ live_size live
size_is live up n top = top_same live n (live_size live) top (top_is live up)

-- an entity comes
pub top_born : (live : Map ℕ ℕ) (n i g : ℕ) → IsTop live n → IsTop (put nat_cmp i g live) (max n (i + 1))
top_born live n i g top = record {
  bound = λ j h. below j (eq_by_cmp nat_cmp j i) refl (sym (ap is_some (find-put nat_cmp nat_cmp_total j i g live)) ∙ h);
  hit = λ h. by (nat_le (i + 1) n) refl;
}
  where
    below : (j : ℕ) (b : Bool) → eq_by_cmp nat_cmp j i ≡ b → is_some (cond b (Some g) (find nat_cmp j live)) ≡ true → j < max n (i + 1)
    below j true own h = let same = nat_same j i own in omega (arith, same)
    below j false own h = let low = top.bound j h in omega (arith, low)

    either : (b : Bool) (o : Option ℕ) → is_some o ≡ true → is_some (cond b (Some g) o) ≡ true
    either true o h = refl
    either false o h = h

    le_in : nat_le (i + 1) n ≡ true → i + 1 ≤ n
    le_in h = grind (arith, nat_tests)

    lt_in : nat_le (i + 1) n ≡ false → n < i + 1
    lt_in h = grind (arith, nat_tests)

    old : i + 1 ≤ n → n - 1 ≡ max n (i + 1) - 1
    old h = omega (arith, h)

    new : n < i + 1 → i ≡ max n (i + 1) - 1
    new h = omega (arith, h)

    by : (b : Bool) → nat_le (i + 1) n ≡ b → is_some (find nat_cmp (max n (i + 1) - 1) (put nat_cmp i g live)) ≡ true
    by true le =
        let h = le_in le in
        subst (λ k. is_some (find nat_cmp k (put nat_cmp i g live)) ≡ true) (old h) (ap is_some (find-put nat_cmp nat_cmp_total (n - 1) i g live) ∙ either (eq_by_cmp nat_cmp (n - 1) i) (find nat_cmp (n - 1) live) (top.hit (omega (arith, h))))
    by false lt =
        subst (λ k. is_some (find nat_cmp k (put nat_cmp i g live)) ≡ true) (new (lt_in lt)) (ap is_some (find-put nat_cmp nat_cmp_total i i g live ∙ ap (λ b. cond b (Some g) (find nat_cmp i live)) (eq_itself nat_cmp nat_cmp_total i)))

-- an entity goes
module _ (live : Map ℕ ℕ) (n i : ℕ) (top : IsTop live n) where
  read : (j : ℕ) → find nat_cmp j (filter (λ e. not (e.0 == i)) live) ≡ cond (not (j == i)) (find nat_cmp j live) None
  read j = find-where_key nat_cmp (λ k. not (k == i)) j (λ x h. ap (λ k. not (k == i)) (sym (nat_cmp-IsAntisymmetric j x h))) live

  parts : (j : ℕ) (b : Bool) → (j == i) ≡ b → is_some (cond (not b) (find nat_cmp j live) None) ≡ true → (b ≡ false) × (is_some (find nat_cmp j live) ≡ true)
  parts j true own h = absurd (true≢false (sym h))
  parts j false own h = (refl, h)

  apart : (j : ℕ) → (j == i) ≡ false → j < i + 1 → j < i
  apart j other low = grind (arith, nat_tests)

  -- the greatest one: the others are below it
  pub below_gone : n ≡ i + 1 → (j : ℕ) → is_some (find nat_cmp j (filter (λ e. not (e.0 == i)) live)) ≡ true → j < i
  below_gone was j h =
      let p = parts j (j == i) refl (sym (ap is_some (read j)) ∙ h) in
      let low = top.bound j p.1 in
      apart j p.0 (omega (arith, low, was))

  unlike : (j : ℕ) → (j ≡ i → ⊥) → (j == i) ≡ false
  unlike j d = by (j == i) refl
    where
      by : (b : Bool) → (j == i) ≡ b → (j == i) ≡ false
      by true e = absurd (d ((Decides-eqb j i).0 e))
      by false e = e

  -- another one: the greatest stays
  pub top_left : (n ≡ i + 1 → ⊥) → IsTop (filter (λ e. not (e.0 == i)) live) n
  top_left other = record {
    bound = λ j h. top.bound j (parts j (j == i) refl (sym (ap is_some (read j)) ∙ h)).1;
    hit = λ h. ap is_some (read (n - 1)) ∙ ap (λ b. is_some (cond (not b) (find nat_cmp (n - 1) live) None)) (unlike (n - 1) (λ same. other (omega (arith, same, h)))) ∙ top.hit h;
  }

-- what an index reads
pub found_there : (o : Option ℕ) (i : ℕ) (r : Option EntityId) → r ≡ option_map (λ g. record { index = i; generation = g }) o → is_some r ≡ true → is_some o ≡ true
found_there None i r is some = absurd (true≢false (sym some ∙ ap is_some is))
found_there (Some g) i r is some = refl

module _ (w : Entities) (n : ℕ) (sized : IsSized w n) where
  top : IsTop w.live n
  top = subst (IsTop w.live) (sym sized.reach) (top_is w.live sized.well_formed.live_rise)

  pub born_size : (w' : Entities) (e : EntityId) → w' ≡ with_entity w e → IsWellFormed w' → max n (e.index + 1) ≡ live_size w'.live
  born_size w' e born wf = size_is w'.live wf.live_rise (max n (e.index + 1)) (subst (λ z. IsTop z.live (max n (e.index + 1))) (sym born) (top_born w.live n e.index e.generation top))

  pub was_below : (e : EntityId) → is_deletable w e ≡ true → e.index < n
  was_below e deletable = top.bound e.index (some_live (find nat_cmp e.index w.live) e.generation (both_true (is_alive w e) (not (is_built_in e.index)) deletable).0)
    where
      some_live : (o : Option ℕ) (g : ℕ) → option_eq ◌==◌ o (Some g) ≡ true → is_some o ≡ true
      some_live None g h = h
      some_live (Some x) g h = refl

  pub gone_below : (w' : Entities) (i : ℕ) → w' ≡ without_entity w i → n ≡ i + 1 → (j : ℕ) → is_live w' j ≡ true → j < i
  gone_below w' i gone was j h = below_gone w.live n i top was j (ap (λ z. is_some (find nat_cmp j z.live)) (sym gone) ∙ h)

  pub gone_left : (w' : Entities) (i : ℕ) → w' ≡ without_entity w i → (n ≡ i + 1 → ⊥) → IsWellFormed w' → n ≡ live_size w'.live
  gone_left w' i gone other wf = size_is w'.live wf.live_rise n (subst (λ z. IsTop z.live n) (sym gone) (top_left w.live n i top other))
