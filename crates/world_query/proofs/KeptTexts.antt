-- Texts of entities at the places of a row.
use Rattle.std.specs.Prelude.{◌≡◌, ℕ, ◌^◌, ◌<◌, List, ◌++◌, All, get_or, length, take}
use Rattle.std.specs.Vec.{with_items}
use Rattle.std.proofs.Common.{ap, append_assoc, arith, below_more, length-set, refl, set, subst, sym, ◌∙◌}
use Rattle.std.proofs.lemmas.Grind.{get_or-set_at}
use Rattle.std.proofs.lemmas.List.{get_or_default, take-set, with_items_is}
use Rattle.std.proofs.lemmas.List.Elements.{All-get_or}
use Rattle.ecs_model.specs.World.{WorldState}
use Rattle.ecs_model.specs.Print.{index_text}
use Rattle.world_query.specs.Lines.{AreTexts, IsAskedOnce, IsEntityText, IsKept, IsTextAt, started, text_of}
use Rattle.world_query.specs.declared.labels.EntityText.{EntityText}
use Rattle.world_query.specs.declared.labels.PaddedText.{PaddedText}
use Rattle.world_query.specs.declared.row_lines.Texts.{Texts}

-- the text of an entity may be kept
pub kept_whole : {A : Type 0} (w : WorldState) (t : EntityText A) → IsEntityText w t → IsKept w t
kept_whole w t whole = record { text = λ _. whole; room = λ _. whole.room }

-- one that was found at a place
pub found_at : {A : Type 0} (w : WorldState) (texts : List (EntityText A)) (entity place : ℕ) (t : EntityText A) → All (IsKept w) texts → place < length texts → (get_or texts place t).index ≡ entity → entity < 2 ^ 32 → IsTextAt w texts entity place
found_at {A} w texts entity place t kept within of below =
    let there = get_or texts place t in
    let same : (d : EntityText A) → get_or texts place d ≡ there = λ d. get_or_default texts place d t within in
    let told : IsKept w there = All-get_or (IsKept w) texts place t within kept in
    let whole : IsEntityText w there = told.text (omega (arith, of)) in
    record { within = within; index = λ d. ap (λ x. x.index) (same d) ∙ of; text = λ d. subst (IsEntityText w) (sym (same d)) whole }

-- one that was looked up into its place
pub looked_up_at : {A : Type 0} (w : WorldState) (texts : List (EntityText A)) (entity place : ℕ) (t : EntityText A) → place < length texts → t.index ≡ entity → IsEntityText w t → IsTextAt w (set texts place t) entity place
looked_up_at {A} w texts entity place t within of whole =
    let same : (d : EntityText A) → get_or (set texts place t) place d ≡ t = λ d. get_or-set_at texts place place t d refl within in
    record { within = omega (arith, length-set texts place t); index = λ d. ap (λ x. x.index) (same d) ∙ of; text = λ d. subst (IsEntityText w) (sym (same d)) whole }

-- where it was known, all stay
pub asked_known : {A : Type 0} (texts : List (EntityText A)) (entity place : ℕ) → IsAskedOnce texts texts entity place
asked_known texts entity place = record { before = refl; known = λ k t here of. refl }

-- and where it was not, only its place is another's
pub asked_anew : {A : Type 0} (texts : List (EntityText A)) (entity place : ℕ) (last new : EntityText A) → place < length texts
    → ((k : ℕ) → k < place → (t : EntityText A) → (get_or texts k t).index ≡ entity → ⊥) → ((get_or texts place last).index ≡ entity → ⊥) → IsAskedOnce texts (set texts place new) entity place
asked_anew {A} texts entity place last new within none other = record {
  before = take-set texts place new;
  known = λ k t here of. absurd (below_more (λ n. (t : EntityText A) → (get_or texts n t).index ≡ entity → ⊥) place none
      (λ t of. other (ap (λ x. x.index) (get_or_default texts place last t within) ∙ of)) k (omega arith) t of);
}

-- the start of a binding, and after it the text that stands at a place
pub binding_put : {A B : Type 0} (w : WorldState) (texts : List (EntityText A)) (entity place : ℕ) (t : EntityText A) (start : PaddedText B) (before first other : List ℕ) → IsTextAt w texts entity place → first ≡ (start.bytes).items → other ≡ ((get_or texts place t).bytes).items
    → (before ++ take start.count first) ++ take (get_or texts place t).alone other ≡ before ++ started w (text_of start, entity)
binding_put w texts entity place t start before first other there here behind =
    append_assoc before (take start.count first) (take (get_or texts place t).alone other)
    ∙ ap (λ s. before ++ (take start.count s ++ take (get_or texts place t).alone other)) here
    ∙ ap (λ s. before ++ (text_of start ++ s)) (ap (take (get_or texts place t).alone) behind ∙ (there.text t).alone ∙ ap (index_text w) (there.index t))

-- texts of which those of entities were lent and came back
pub texts_lent : {A B : Type 0} (w : WorldState) (columns fields : ℕ) (t : Texts A B) (new : List (EntityText B)) → AreTexts w columns fields t → length new ≡ (t.entities).len → All (IsKept w) new
    → AreTexts w columns fields (record t { entities = with_items t.entities new })
texts_lent w columns fields t new are long kept =
    let same = with_items_is t.entities new long in
    record {
      entities = subst (All (IsKept w)) (sym same) kept;
      places = are.places ∙ sym (t.entities).ok.0 ∙ sym long ∙ ap length (sym same);
      labels = are.labels;
      enough = are.enough;
    }
