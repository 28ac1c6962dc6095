-- A query that a text asks mentions no entity twice.
use Rattle.std.specs.Prelude.{◌≡◌, ℕ, ◌+◌, ◌≤◌, ◌==◌, Bool, true, false, List, [], ◌∷◌, ◌++◌, fold, flat_map, cond, count_by, if◌then◌else◌}
use Rattle.std.specs.List.{list_any}
use Rattle.std.proofs.Common.{refl, ap, subst, ◌∙◌, arith}
use Rattle.std.proofs.lemmas.List.Sums.{sum_by-cons, sum_by_push}
use Rattle.ecs_id.specs.declared.EntityId.{EntityId}
use Rattle.ecs_model.specs.Query.{known_of}
use Rattle.ecs_model.proofs.Members.{eq_same}
use Rattle.ecs_model.proofs.Reasons.{neither}
use Rattle.query_model.specs.declared.query.Mention.{Mention}
use Rattle.query_model.specs.Check.{Known}
use Rattle.query_model.specs.Query.{Query, add_mention, checked_query, mention_of, mentioned_by}
use Rattle.query_model.specs.Syntax.{Syntax}
use Rattle.query_model.specs.Uses.{uses_of}
use Rattle.query_meaning.proofs.AskedQueries.{asked, checked_faultless}
use Rattle.watch_concerns.specs.ToldLaws.{QueriesMentionOnce}
use Rattle.watch_concerns.specs.Mentions.{mentions_index, times_in}

-- how many pass, of one more before the others
pub count_by-cons : {A : Type 0} (p : A → Bool) (x : A) (xs : List A) → count_by p (x ∷ xs) ≡ cond (p x) 1 0 + count_by p xs
count_by-cons p x xs = sum_by-cons (λ y. cond (p y) 1 0) x xs

-- where none passes, none is counted
pub none_counted : {A : Type 0} (p : A → Bool) (xs : List A) → list_any p xs ≡ false → count_by p xs ≡ 0
none_counted p [] h = refl
none_counted p (x ∷ xs) h =
    let parts = neither (p x) (list_any p xs) h in count_by-cons p x xs ∙ (ap (λ b. cond b 1 0 + count_by p xs) parts.0 ∙ omega (arith, none_counted p xs parts.1))

module _ (k : Known) (i : ℕ) where
  -- one more is mentioned once, if none was mentioned at its index
  pushed_once : (ms : List Mention) (m : Mention) (b : Bool) → ((m.entity).index == i) ≡ b → times_in i ms ≤ 1 → (b ≡ true → times_in i ms ≡ 0) → times_in i (ms ++ m ∷ []) ≤ 1
  pushed_once ms m b e h none =
      by b e none
    where
      counted : (c : Bool) → ((m.entity).index == i) ≡ c → times_in i (ms ++ m ∷ []) ≡ times_in i ms + cond c 1 0
      counted c e = sum_by_push (λ x. cond ((x.entity).index == i) 1 0) ms m ∙ ap (λ c. times_in i ms + cond c 1 0) e

      by : (c : Bool) → ((m.entity).index == i) ≡ c → (c ≡ true → times_in i ms ≡ 0) → times_in i (ms ++ m ∷ []) ≤ 1
      by true e none = omega (arith, counted true e, none refl)
      by false e none = omega (arith, counted false e, h)

  added_once : (ms : List Mention) (e : EntityId) → times_in i ms ≤ 1 → times_in i (add_mention k ms e) ≤ 1
  added_once ms e h = by (mentions_index ms e.index) refl
    where
      by : (b : Bool) → mentions_index ms e.index ≡ b → times_in i (if b then ms else ms ++ mention_of k e ∷ []) ≤ 1
      by true there = h
      by false none = pushed_once ms (mention_of k e) (e.index == i) refl h (λ s. none_counted (λ m. (m.entity).index == i) ms (subst (λ x. mentions_index ms x ≡ false) (eq_same e.index i s) none))

  all_once : (es : List EntityId) (ms : List Mention) → times_in i ms ≤ 1 → times_in i (fold (add_mention k) ms es) ≤ 1
  all_once [] ms h = h
  all_once (e ∷ es) ms h = all_once es (add_mention k ms e) (added_once ms e h)

  checked_once : (s : Syntax) → times_in i (checked_query k s).mentions ≤ 1
  unfolding checked_query
  checked_once s = all_once (flat_map (mentioned_by k) (flat_map uses_of s.parts)) [] (omega arith)

pub queries_mention_once : QueriesMentionOnce
queries_mention_once q (w, text, e) i =
    let a = asked (known_of w) text q e in
    let c = checked_faultless (known_of w) a.1 q a.3 in
    subst (λ (x : Query). times_in i x.mentions ≤ 1) c.1 (checked_once (known_of w) i a.1)
