-- Of those who may have moved, who left a monitor's rows and who entered them; and the rows with these moves.
use Rattle.std.specs.Prelude.{◌≡◌, ℕ, ◌+◌, ◌<◌, ◌==◌, ◌&&◌, ◌||◌, Bool, true, false, cond, not, List, [], ◌∷◌, ◌++◌, filter, length, take, Result, Ok, Err, IfOk}
use Rattle.std.specs.Cmp.{nat_cmp_total}
use Rattle.std.specs.List.{Contains, list_any}
use Rattle.std.specs.List.Sorted.{IsStrictlyIncreasing}
use Rattle.std.specs.Ordering.{nat_cmp}
use Rattle.std.proofs.Common.{refl, sym, ap, append_assoc, subst, get_or, ◌∙◌, true≢false}
use Rattle.std.proofs.lemmas.Bool.{and_from, and_parts}
use Rattle.std.proofs.lemmas.List.Elements.{filter_more}
use Rattle.std.proofs.lemmas.List.Kept.{IsStrictlyIncreasing-filter}
use Rattle.std.proofs.lemmas.Map.Keys.{sorted_from_strictly_increasing}
use Rattle.std.proofs.Math.Bool.{and-not_self}
use Rattle.query_meaning.proofs.Assignments.{same_from_Equal}
use Rattle.ecs_model.specs.steps.Outcomes.{Changed}
use Rattle.ecs_model.specs.World.{WorldState}
use Rattle.ecs_model.specs.rows.Rows.{rows}
use Rattle.ecs_model.specs.rows.View.{view_of}
use Rattle.ecs_model.specs.stored.Watches.{is_this, matching, missing_from}
use Rattle.ecs_model.proofs.Members.{alike, any_passes, eq_itself, eq_same, filtered, passing}
use Rattle.query_model.specs.Query.{Query}
use Rattle.watch_touched.specs.Before.{view_before}
use Rattle.watch_touched.specs.declared.moving.Moved.{Moved}
use Rattle.watch_touched.specs.declared.moving.Moved.TheVariants.{Nobody}
use Rattle.watch_touched.proofs.RisingIds.{one_list}
use Rattle.watch_concerns.specs.Since.{IsAfter}
use Rattle.watch_stored.specs.Moves.{AddsMoves, IsTold, enters, is_among, leaves, rows_now, rows_then}
use Rattle.watch_stored.specs.declared.moves.Question.{Question}
use Rattle.watch_stored.specs.declared.moves.RowsAfter.{RowsAfter}
use Rattle.watch_stored.proofs.LocalMonitors.{before_ascends}

among : (es : List ℕ) (e : ℕ) → is_among es e ≡ true → Contains es e
among es e h = let x = passing (λ x. x == e) es h in subst (Contains es) (eq_same x.0 e x.2) x.1

there : (es : List ℕ) (e : ℕ) → Contains es e → is_among es e ≡ true
there es e h = any_passes (λ x. x == e) es e h (eq_itself e)

-- rising lists with the same members are one
pub same_list : (xs ys : List ℕ) → IsStrictlyIncreasing xs → IsStrictlyIncreasing ys → ((e : ℕ) → is_among xs e ≡ is_among ys e) → xs ≡ ys
same_list xs ys up above same =
    one_list nat_cmp nat_cmp_total same_from_Equal xs ys (sorted_from_strictly_increasing xs up) (sorted_from_strictly_increasing ys above)
    (λ e. (λ h. among ys e (sym (same e) ∙ there xs e h), λ h. among xs e (same e ∙ there ys e h)))

among_filter : (p : ℕ → Bool) (es : List ℕ) (e : ℕ) → is_among (filter p es) e ≡ (is_among es e && p e)
among_filter p es e =
    alike (is_among (filter p es) e) (is_among es e && p e)
    (λ t. let both = (filtered p es e).0 (among (filter p es) e t) in and_from (is_among es e) (p e) (there es e both.0) both.1)
    (λ t. let both = and_parts (is_among es e) (p e) t in there (filter p es) e ((filtered p es e).1 (among es e both.0, both.1)))

-- of those who are asked, among whom are all who match, those who do are in the rows
pub asked_among : (now asked : List ℕ) → ((e : ℕ) → Contains now e → Contains asked e) → (e : ℕ) → is_among (filter (is_among now) asked) e ≡ is_among now e
asked_among now asked covers e =
    among_filter (is_among now) asked e
    ∙ alike (is_among asked e && is_among now e) (is_among now e)
    (λ t. (and_parts (is_among asked e) (is_among now e) t).1)
    (λ t. and_from (is_among asked e) (is_among now e) (there asked e (covers e (among now e t))) t)

-- ---- who left and who entered

-- whether it may have moved, was there, and is there
by_left : (m b n : Bool) → (m ≡ false → b ≡ n) → (m && (b && not n)) ≡ (b && not n)
by_left true b n stays = refl
by_left false b n stays = sym ((λ i. stays refl i && not n) ∙ and-not_self n)

by_entered : (m b n : Bool) → (m ≡ false → b ≡ n) → (m && (n && not b)) ≡ (n && not b)
by_entered true b n stays = refl
by_entered false b n stays = sym ((λ i. n && not (stays refl i)) ∙ and-not_self n)

module _ (w : WorldState) (q : Query) (before moving : List ℕ) (told : IsTold q w before moving) (up : IsStrictlyIncreasing before)
    (now : List ℕ) (are_now : now ≡ matching (view_of w) q) (now_up : IsStrictlyIncreasing now) where
  others_same : (e : ℕ) → is_among moving e ≡ false → is_among before e ≡ is_among now e
  others_same e far =
      let stay = (told.2).others_stay e (λ h. true≢false (sym (there moving e h) ∙ far)) in
      alike (is_among before e) (is_among now e)
      (λ t. there now e (subst (λ xs. Contains xs e) (sym are_now) (stay.0 (subst (λ xs. Contains xs e) told.1 (among before e t)))))
      (λ t. there before e (subst (λ xs. Contains xs e) (sym told.1) (stay.1 (subst (λ xs. Contains xs e) are_now (among now e t)))))

  pub left_are : filter (leaves before now) moving ≡ missing_from before now
  left_are =
      same_list (filter (leaves before now) moving) (missing_from before now)
      (IsStrictlyIncreasing-filter (leaves before now) moving (told.2).ascend) (IsStrictlyIncreasing-filter (λ e. not (is_among now e)) before up)
      (λ e. among_filter (leaves before now) moving e
      ∙ by_left (is_among moving e) (is_among before e) (is_among now e) (others_same e)
      ∙ sym (among_filter (λ e. not (is_among now e)) before e))

  pub entered_are : filter (enters before now) moving ≡ missing_from now before
  entered_are =
      same_list (filter (enters before now) moving) (missing_from now before)
      (IsStrictlyIncreasing-filter (enters before now) moving (told.2).ascend) (IsStrictlyIncreasing-filter (λ e. not (is_among before e)) now now_up)
      (λ e. among_filter (enters before now) moving e
      ∙ by_entered (is_among moving e) (is_among before e) (is_among now e) (others_same e)
      ∙ sym (among_filter (λ e. not (is_among before e)) now e))

-- ---- who is found of those whose ids don't decide it

pub found_is : (p untold_by : ℕ → Bool) (moving untold found : List ℕ) → untold ≡ filter untold_by moving → found ≡ filter p untold → (e : ℕ) → Contains moving e → untold_by e ≡ true → is_among found e ≡ p e
found_is p untold_by moving untold found are_untold are_found e h asked =
    (λ i. is_among (are_found i) e) ∙ among_filter p untold e ∙ (λ i. is_among (are_untold i) e && p e)
    ∙ ap (λ b. b && p e) (among_filter untold_by moving e ∙ (λ i. there moving e h i && asked i))

-- ---- the rows with these moves

moved_is : (b n : Bool) → ((b && not (b && not n)) || (n && not b)) ≡ n
moved_is true true = refl
moved_is true false = refl
moved_is false true = refl
moved_is false false = refl

pub moved_are : (before now left entered set : List ℕ) → left ≡ missing_from before now → entered ≡ missing_from now before → IsStrictlyIncreasing set → IsStrictlyIncreasing now
    → ((e : ℕ) → is_among set e ≡ ((is_among before e && not (is_among left e)) || is_among entered e)) → set ≡ now
moved_are before now left entered set gone come up above same =
    same_list set now up above
    (λ e. same e
    ∙ (λ i. (is_among before e && not (is_among (gone i) e)) || is_among (come i) e)
    ∙ (λ i. (is_among before e && not (among_filter (λ e. not (is_among now e)) before e i)) || among_filter (λ e. not (is_among before e)) now e i)
    ∙ moved_is (is_among before e) (is_among now e))

-- ---- rows before a command ascend, too
pub rows_before_ascend : (w : WorldState) (changed : Changed) (q : Query) → IsAfter w changed → IsStrictlyIncreasing (matching (view_before w changed) q)
unfolding matching
rows_before_ascend w changed q after = IsStrictlyIncreasing-filter (λ e. list_any (is_this e) (rows (view_before w changed) q)) (view_before w changed).entities (before_ascends w changed after)

-- what two clauses say of a value together
pub if_ok_both : {T E : Type 0} (r : Result T E) {P Q R : T → Type 0} → ((x : T) → P x → Q x → R x) → IfOk r P → IfOk r Q → IfOk r R
if_ok_both (Ok x) both p q = both x p q
if_ok_both (Err e) both p q = tt

-- one more entity at the end of a list, where it passes
one_more : (p : ℕ → Bool) (xs : List ℕ) (k : ℕ) (start old new : List ℕ) (b : Bool) → k < length xs → old ≡ start ++ filter p (take k xs) → b ≡ p (get_or xs k 0) → new ≡ old ++ cond b (get_or xs k 0 ∷ []) []
    → new ≡ start ++ filter p (take (k + 1) xs)
one_more p xs k start old new b low before is now =
    let one : List ℕ = cond b (get_or xs k 0 ∷ []) [] in
    let kept : List ℕ = filter p (take k xs) in
    now ∙ ap (λ ys. ys ++ one) before ∙ append_assoc start kept one ∙ ap (λ t. start ++ (kept ++ cond t (get_or xs k 0 ∷ []) [])) is ∙ ap (λ ys. start ++ ys) (sym (filter_more p xs k 0 low))

-- one more who may have moved, in or out of the rows
pub moves_more : {A : Type 0} (q : Question A) (moving : List ℕ) (k : ℕ) (start old new : RowsAfter A) (is : Bool) → k < length moving → AddsMoves q (take k moving) start old → is ≡ is_among (rows_now q) (get_or moving k 0)
    → new.left.items ≡ old.left.items ++ cond (is_among (rows_then q) (get_or moving k 0) && not is) (get_or moving k 0 ∷ []) []
    → new.entered.items ≡ old.entered.items ++ cond (is && not (is_among (rows_then q) (get_or moving k 0))) (get_or moving k 0 ∷ []) []
    → new.these ≡ old.these → AddsMoves q (take (k + 1) moving) start new
moves_more q moving k start old new is low so told left entered these = record {
  left = one_more (leaves (rows_then q) (rows_now q)) moving k start.left.items old.left.items new.left.items _ low so.left (λ i. is_among (rows_then q) (get_or moving k 0) && not (told i)) left;
  entered = one_more (enters (rows_then q) (rows_now q)) moving k start.entered.items old.entered.items new.entered.items _ low so.entered (λ i. told i && not (is_among (rows_then q) (get_or moving k 0))) entered;
  these = these ∙ so.these;
}

-- where an entity may have moved, a command concerns the query
pub is_somebody : (concerned : Bool) (moved : Moved) → (concerned ≡ false → moved ≡ Nobody) → (moved ≡ Nobody → ⊥) → true ≡ concerned
is_somebody true moved nobody other = refl
is_somebody false moved nobody other = absurd (other (nobody refl))
