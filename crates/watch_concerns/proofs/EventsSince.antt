-- What stored queries are notified of after a command, by the world after it and what has changed.
use Rattle.std.specs.Prelude.{◌≡◌, ℕ, ◌==◌, Bool, true, false, not, List, [], ◌∷◌, ◌++◌, map, filter, codes, Option, Some, None, Ok, option_map, cond, is_some, unwrap_or}
use Rattle.std.specs.List.{Contains, list_all, list_any}
use Rattle.std.specs.Option.{option_map_or}
use Rattle.std.specs.Ordering.{nat_cmp}
use Rattle.std.proofs.Common.{refl, sym, ap, subst, ◌∙◌, arith}
use Rattle.std.proofs.lemmas.List.Elements.{Contains-append_right}
use Rattle.ecs_id.specs.declared.EntityId.{EntityId}
use Rattle.ecs_id.specs.Id.{Id, plain, pair, mentioned}
use Rattle.query_model.specs.Query.{Query}
use Rattle.ecs_model.specs.declared.watches.EventKind.TheVariants.{Left, Entered, Removed}
use Rattle.ecs_model.specs.declared.watches.StoredKind.{StoredKind}
use Rattle.ecs_model.specs.declared.watches.StoredKind.TheVariants.{Kept, Monitor, OnAdd, OnRemove, OnSet}
use Rattle.ecs_model.specs.steps.Outcomes.{Changed, differences}
use Rattle.ecs_model.specs.Map.{count_at, has_key, value_at, without}
use Rattle.ecs_model.specs.Print.{entity_text, handle_text, id_text, index_text}
use Rattle.ecs_model.specs.World.{WorldState, Key, entities, holds, is_live, key_cmp, name_of}
use Rattle.ecs_model.specs.rows.Rows.{rows}
use Rattle.ecs_model.specs.rows.View.{view_of}
use Rattle.ecs_model.specs.stored.Watches.{entity_event, fact_event, matching, missing_from, observes, is_this, told_of, told_of_rows}
use Rattle.ecs_model.specs.steps.Step.{Command, step, written_by}
use Rattle.ecs_model.specs.steps.WellFormed.{IsWellFormed}
use Rattle.ecs_model.proofs.Maps.{both_true, key_cmp_total, some_of}
use Rattle.ecs_model.proofs.Members.{filtered}
use Rattle.ecs_model.proofs.Removals.{value_at-without}
use Rattle.ecs_model.proofs.steps.Deletions.{was_there}
use Rattle.ecs_model.proofs.steps.Differences.{with_name}
use Rattle.ecs_model.proofs.steps.Facts.{listed_live, there_key}
use Rattle.ecs_model.proofs.steps.RefusalNumbers.{accepted_step}
use Rattle.watch_concerns.specs.ToldLaws.{TellsSince}
use Rattle.watch_concerns.specs.Since.{Dead, dead_text, died_at, entity_before, entity_now, entity_text_before, id_text_before, index_text_before, left_event, observed_before, removed_event, told_of_sets, told_since}
use Rattle.watch_concerns.proofs.Deaths.{died-differences}
use Rattle.watch_concerns.proofs.IdsBefore.{observed_before_is}
use Rattle.watch_concerns.proofs.LastingEntities.{lives_on}

-- functions that agree on the elements make the same of a list
map_alike : {A B : Type 0} (f g : A → B) (xs : List A) → ((x : A) → Contains xs x → f x ≡ g x) → map f xs ≡ map g xs
map_alike f g [] same = refl
map_alike f g (x ∷ xs) same =
    let rest = map_alike f g xs (λ y c. same y (Contains-append_right (x ∷ []) xs y c)) in λ j. same x (0, omega arith, refl) j ∷ rest j

-- who died or lives on, as one who lived before: by its generation and name, with what has died at its index
module _ (v : WorldState) (changed : Changed) (i g : ℕ) (name : Option (List ℕ)) where
  abbrev entity : EntityId
  entity = record { index = i; generation = g }

  abbrev name_or_handle : List ℕ
  name_or_handle = option_map_or (λ n. n) name (handle_text entity)

  -- in events it has the generation and the name that it had
  record WasTold : Type 0 where
    told_entity : entity_before v changed i ≡ entity
    told_text : entity_text_before v changed i ≡ name_or_handle
    told_index : index_text_before v changed i ≡ name_or_handle

  of_dead : died_at v changed i ≡ Some (entity, name) → WasTold
  of_dead e = record {
    told_entity = ap (λ o. option_map_or (λ (d : Dead). d.0) o (entity_now v changed i)) e;
    told_text = ap (λ o. option_map_or dead_text o (entity_text v (entity_now v changed i))) e;
    told_index = ap (λ o. option_map_or dead_text o (index_text v i)) e;
  }

  of_living : died_at v changed i ≡ None → value_at nat_cmp v.live i ≡ Some g → name_of v i ≡ name → WasTold
  of_living e live named =
      let now : entity_now v changed i ≡ entity = ap (λ o. record { index = i; generation = unwrap_or o 0 }) live in
      let text : entity_text v entity ≡ name_or_handle = ap (λ o. option_map_or (λ n. n) o (handle_text entity)) named in
      record {
        told_entity = ap (λ o. option_map_or (λ (d : Dead). d.0) o (entity_now v changed i)) e ∙ now;
        told_text = ap (λ o. option_map_or dead_text o (entity_text v (entity_now v changed i))) e ∙ (ap (entity_text v) now ∙ text);
        told_index =
            ap (λ o. option_map_or dead_text o (index_text v i)) e
            ∙ (ap (λ o. option_map_or (entity_text v) (option_map (λ n. record { index = i; generation = n }) o) []) live ∙ text);
      }

module _ (w v : WorldState) (c : Command) (changed : Changed) (h : IsWellFormed w) (done : step w c ≡ Ok (v, changed)) where
  abbrev since : Changed
  since = differences w v (written_by c)

  -- each who lived before is in events as it is in the world before
  was_told : (i g : ℕ) → value_at nat_cmp w.live i ≡ Some g → WasTold v since i g (name_of w i)
  was_told i g live = by (is_live v i) refl
    where
      lives : is_live w i ≡ true
      lives = ap is_some live

      died : (b : Bool) → is_live v i ≡ b → died_at v since i ≡ cond b None (Some (with_name w (i, g)))
      died b e = died-differences w i v (written_by c) ∙ (λ j. cond (e j) None (option_map (λ g. with_name w (i, g)) (live j)))

      by : (b : Bool) → is_live v i ≡ b → WasTold v since i g (name_of w i)
      by true e = let on = lives_on w i lives v c changed done e in of_living v since i g (name_of w i) (died true e) (on.0 ∙ live) on.1
      by false e = of_dead v since i g (name_of w i) (died false e)

  -- so are its entity, its text and that of its index
  record IsToldAsBefore (i : ℕ) : Type 0 where
    entity_is : entity_before v since i ≡ record { index = i; generation = count_at w.live i }
    text_is : entity_text_before v since i ≡ entity_text w (record { index = i; generation = count_at w.live i })
    index_is : index_text_before v since i ≡ index_text w i

  told_as_before : (i : ℕ) → is_live w i ≡ true → IsToldAsBefore i
  told_as_before i lives =
      let found = some_of (value_at nat_cmp w.live i) lives in
      let t = was_told i found.0 found.1 in
      let own : record { index = i; generation = found.0 } ≡ record { index = i; generation = count_at w.live i } = ap (λ o. record { index = i; generation = unwrap_or o 0 }) (sym found.1) in
      record {
        entity_is = t.told_entity ∙ own;
        text_is = t.told_text ∙ ap (entity_text w) own;
        index_is = t.told_index ∙ sym (ap (λ o. option_map_or (entity_text w) (option_map (λ n. record { index = i; generation = n }) o) []) found.1);
      }

  -- and the text of an id that mentions who lived
  id_told : (i : Id) → list_all (is_live w) (mentioned i) ≡ true → id_text_before v since i ≡ id_text w i
  id_told (plain c) l = (told_as_before c (both_true (is_live w c) true l).0).index_is
  id_told (pair r t) l =
      let first = both_true (is_live w r) (list_all (is_live w) (t ∷ [])) l in
      let second = both_true (is_live w t) true first.1 in
      let relationship = (told_as_before r first.0).index_is in
      let target = (told_as_before t second.0).index_is in
      λ j. codes "(" ++ relationship j ++ codes "," ++ target j ++ codes ")"

  module _ (watch : List ℕ) (q : Query) where
    left_told : (i : ℕ) → is_live w i ≡ true → entity_event watch Left w i ≡ left_event v since watch i
    left_told i l =
        let t = told_as_before i l in
        λ j. record { watch = watch; kind = Left; entity = sym t.entity_is j; id = None; value = None; entity_text = sym t.text_is j; id_text = [] }

    removed_told : (k : Key) → holds w k.0 k.1 ≡ true → fact_event watch Removed w (λ k. None) k ≡ removed_event v since watch k
    removed_told k held =
        let lives = (h.live).facts k.0 k.1 held in
        let t = told_as_before k.0 lives.0 in
        let id = id_told k.1 lives.1 in
        λ j. record { watch = watch; kind = Removed; entity = sym t.entity_is j; id = Some k.1; value = None; entity_text = sym t.text_is j; id_text = sym id j }

    -- the entities of rows live
    matching_live : (i : ℕ) → Contains (matching (view_of w) q) i → is_live w i ≡ true
    unfolding matching
    matching_live i c = listed_live w i ((filtered (λ e. list_any (is_this e) (rows (view_of w) q)) (entities w) i).0 c).0

    missing_in : (xs ys : List ℕ) (i : ℕ) → Contains (missing_from xs ys) i → Contains xs i
    missing_in xs ys i c = ((filtered (λ x. not (list_any (λ y. y == x) ys)) xs i).0 c).0

    rows_told : (new : List ℕ) → told_of_rows w v since watch (matching (view_of w) q) new ≡ told_of_sets v since watch (matching (view_of w) q) new
    unfolding told_of_rows
    rows_told new =
        let old = matching (view_of w) q in
        ap (λ es. es ++ map (entity_event watch Entered v) (missing_from new old))
        (map_alike (entity_event watch Left w) (left_event v since watch) (missing_from old new) (λ i m. left_told i (matching_live i (missing_in old new i m))))

    -- a fact that went was held
    went_held : (k : Key) → Contains since.went k → holds w k.0 k.1 ≡ true
    unfolding differences
    went_held k m =
        (was_there (has_key key_cmp v.facts k) (value_at key_cmp (without key_cmp w.facts (has_key key_cmp v.facts)) k) (value_at key_cmp w.facts k)
        (value_at-without w.facts (has_key key_cmp v.facts) k) (there_key key_cmp key_cmp_total (without key_cmp w.facts (has_key key_cmp v.facts)) k m)).1

    gone_told : map (fact_event watch Removed w (λ k. None)) (filter (observes (view_of w) q) since.went) ≡ map (removed_event v since watch) (filter (observed_before v since q) since.went)
    gone_told =
        map_alike (fact_event watch Removed w (λ k. None)) (removed_event v since watch) (filter (observes (view_of w) q) since.went)
        (λ k m. removed_told k (went_held k ((filtered (observes (view_of w) q) since.went k).0 m).0))
        ∙ (λ j. map (removed_event v since watch) (filter (λ k. sym (observed_before_is w v (written_by c) q k) j) since.went))

    told_by_kind : (kind : StoredKind) → told_of w v since watch kind q ≡ told_since v since watch kind q (matching (view_of w) q)
    unfolding told_of told_since
    told_by_kind Kept = refl
    told_by_kind Monitor = rows_told (matching (view_of v) q)
    told_by_kind OnAdd = refl
    told_by_kind OnRemove = gone_told
    told_by_kind OnSet = refl

pub watches_are_told_since : TellsSince
watches_are_told_since w v c changed watch kind q h done =
    let last = accepted_step w v c changed done in
    let same : changed ≡ differences w v (written_by c) = last.2 ∙ ap (λ u. differences w u (written_by c)) (sym last.1) in
    subst (λ d. told_of w v d watch kind q ≡ told_since v d watch kind q (matching (view_of w) q)) (sym same) (told_by_kind w v c changed h done watch q kind)
