-- Who lacks what a query asks of `$this` itself is `$this` of no row.
use Rattle.std.proofs.Common.{◌≡◌, ℕ, true, inl, inr, List, [], ◌∷◌, refl, sym, ap, ◌∙◌, subst, arith}
use Rattle.std.specs.Prelude.{◌&&◌, ◌||◌, filter, map, not, Some}
use Rattle.std.specs.List.{list_any}
use Rattle.std.proofs.lemmas.Bool.{and_parts, false≢true, not-true, or_cases, true≢false}
use Rattle.std.proofs.Math.Bool.{or-false}
use Rattle.ecs_id.specs.Id.{Id}
use Rattle.ecs_model.specs.rows.Level.{Level, also, first_level, joined_levels, open_levels, other_levels, top}
use Rattle.ecs_model.specs.rows.Rows.{Assignment, fields_of_item, fields_of_term, hits, keeps_first_hit, matches, shown}
use Rattle.ecs_model.specs.rows.View.{View}
use Rattle.ecs_model.proofs.Members.{any_passes, passing}
use Rattle.query_model.specs.declared.query.Term.{Term}
use Rattle.query_model.specs.Local.{asks_first}
use Rattle.query_model.specs.Query.{Item, Piece, must, may, either, equal, differ, item, opening, closing, Query}
use Rattle.query_meaning.proofs.Assignments.{at}
use Rattle.query_meaning.proofs.LevelHolding.{Holds}
use Rattle.watch_concerns.specs.Concerns.{concerns, may_match}
use Rattle.watch_concerns.specs.Laws.{LackingMatchNothing}
use Rattle.watch_concerns.specs.OwnIds.{item_lacks, lacks, lacks_from}
use Rattle.query_meaning.proofs.Choices.{any-map, has-some, some, some-filter, some-first, some-map, some-taken}
use Rattle.watch_concerns.proofs.CoveredTerms.{Covers, OfEachPiece, pieces_covered}
use Rattle.watch_concerns.proofs.LevelAgreement.{at_each, by_match, matches_may}
use Rattle.watch_concerns.proofs.ThisAssignments.{asked_itself, this_of}
use Rattle.watch_concerns.proofs.WiderTests.{any_same}

pub behind_item : (x : Item) (ls : List Level) → joined_levels (also x (first_level ls) ∷ other_levels ls) ≡ also x (joined_levels ls)
behind_item x [] = refl
behind_item x (l ∷ ls) = refl

module _ (w : View) (a : Assignment) (e : ℕ) (this : at a 0 ≡ Some e) where
  pub hits_itself : (t : Term) → asks_first t ≡ true → some (fields_of_term w a t) ≡ list_any (matches a t.component t.target) (w.ids e)
  unfolding hits
  hits_itself t asks =
      ap some (asked_itself w a e t this asks)
      ∙ some-first (map (λ m. at_each m (hits w a t m)) (e ∷ []))
      ∙ any-map (λ m. at_each m (hits w a t m)) (e ∷ [])
      ∙ or-false (some (at_each e (hits w a t e)))
      ∙ some-map (λ i. (e, i)) (hits w a t e)
      ∙ some-taken (keeps_first_hit t) (filter (matches a t.component t.target) (w.ids e))
      ∙ some-filter (matches a t.component t.target) (w.ids e)

  pub item_fails : (x : Item) → item_lacks (w.ids e) x ≡ true → some (fields_of_item w a x) ≡ true → ⊥
  unfolding fields_of_item
  item_fails (must t) lack holds =
      let both = and_parts _ _ lack in
      let hit = sym (hits_itself t both.0) ∙ sym (some-map (λ f. shown w t f ∷ []) (fields_of_term w a t)) ∙ holds in
      let found = passing (matches a t.component t.target) (w.ids e) hit in
      true≢false (sym (any_passes (may_match t.component t.target) (w.ids e) found.0 found.1 (matches_may a t.component t.target found.0 found.2)) ∙ not-true _ both.1)
  item_fails (may t) lack holds = false≢true lack
  item_fails (either ts) lack holds = false≢true lack
  item_fails (equal u r) lack holds = false≢true lack
  item_fails (differ u r) lack holds = false≢true lack

  level_fails : (ps : List Piece) → lacks_from (w.ids e) ps ≡ true → Holds w (joined_levels (open_levels ps)) a → ⊥
  level_fails [] lack holds = false≢true lack
  level_fails (item x ∷ ps) lack holds =
      let both = subst (λ l. Holds w l a) (behind_item x (open_levels ps)) holds in
      elim (or_cases _ _ lack) [
        | inl here ↦ item_fails x here (sym (has-some (fields_of_item w a x)) ∙ both.0)
        | inr later ↦ level_fails ps later both.1
      ]
  level_fails (opening from_term own ∷ ps) lack holds = false≢true lack
  level_fails (closing ∷ ps) lack holds = false≢true lack

-- whether ids lack what is asked depends on those of them that concern the query
pieces_lack_alike : (q : Query) (is js : List Id) → filter (concerns q) is ≡ filter (concerns q) js → (ps : List Piece) → OfEachPiece (Covers (concerns q)) ps → lacks_from is ps ≡ lacks_from js ps
pieces_lack_alike q is js same [] covers = refl
pieces_lack_alike q is js same (item x ∷ ps) covers =
    let first = by x covers.0 in
    let rest = pieces_lack_alike q is js same ps covers.1 in
    λ k. first k || rest k
  where
    by : (x : Item) → Covers (concerns q) x → item_lacks is x ≡ item_lacks js x
    by (must t) h =
        let matched = any_same (concerns q) is js same (may_match t.component t.target) (λ i m. h t (0, omega arith, refl) i (by_match i t m)) in
        λ k. asks_first t && not (matched k)
    by (may t) h = refl
    by (either ts) h = refl
    by (equal u r) h = refl
    by (differ u r) h = refl
pieces_lack_alike q is js same (opening from_term own ∷ ps) covers = refl
pieces_lack_alike q is js same (closing ∷ ps) covers = refl

pub lacks_alike : (q : Query) (is js : List Id) → filter (concerns q) is ≡ filter (concerns q) js → lacks q is ≡ lacks q js
unfolding lacks
lacks_alike q is js same = pieces_lack_alike q is js same q.pieces (pieces_covered q)

pub lacking_match_nothing : LackingMatchNothing
unfolding lacks top
lacking_match_nothing w q e lack h =
    let found = this_of w q e h in
    let is = found.1 in
    level_fails w found.0 e is.this q.pieces lack is.holds
