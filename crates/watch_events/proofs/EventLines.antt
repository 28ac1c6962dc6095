-- The line of an event that stops in the midst of its id or its value.
use Rattle.std.specs.Prelude.{◌≡◌, ℕ, List, [], ◌++◌, true, codes, is_some, Option, None, Some}
use Rattle.std.specs.Option.{option_map_or}
use Rattle.std.proofs.Common.{refl, subst, ◌∙◌, append_assoc}
use Rattle.ecs_id.specs.Id.{Id}
use Rattle.ecs_model.specs.Print.{value_text}
use Rattle.ecs_model.specs.stored.Watches.{Event, event_id_text, event_text, event_word}
use Rattle.ecs_print.specs.Stops.{StopsWithin}
use Rattle.ecs_print.proofs.Stops.{stops_behind, stops_sooner}

four_pieces : {X : Type 0} (s a b c d : List X) → s ++ a ++ b ++ c ++ d ≡ s ++ (a ++ b ++ c ++ d)
four_pieces s a b c d = simp append_assoc

module _ (e : Event) (before mid after : List ℕ) where
  pub line_of_entity : mid ≡ before ++ event_word e.kind ++ e.watch ++ codes " " ++ e.entity_text → StopsWithin mid after (event_id_text e) → StopsWithin before after (event_text e)
  line_of_entity is so =
      let done = event_word e.kind ++ e.watch ++ codes " " ++ e.entity_text in
      stops_sooner before after (done ++ event_id_text e) (codes "\n")
      (stops_behind before done mid after (event_id_text e) (is ∙ four_pieces before (event_word e.kind) e.watch (codes " ") e.entity_text) so)

  shown : (o : Option Id) → is_some o ≡ true → codes " " ++ e.id_text ++ value_text e.value ≡ option_map_or (λ (i : Id). codes " " ++ e.id_text ++ value_text e.value) o []
  shown None none = cc
  shown (Some i) none = refl

  pub id_of_text : is_some e.id ≡ true → mid ≡ before ++ codes " " ++ e.id_text → StopsWithin mid after (value_text e.value) → StopsWithin before after (event_id_text e)
  id_of_text some is so =
      subst (StopsWithin before after) (shown e.id some)
      (stops_behind before (codes " " ++ e.id_text) mid after (value_text e.value) (is ∙ append_assoc before (codes " ") e.id_text) so)
