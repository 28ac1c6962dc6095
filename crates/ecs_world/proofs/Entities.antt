-- Whether two entities are one.
pub use Rattle.ecs_archetypes.proofs.Soundness.{some_eq as alive_of}
pub use Rattle.ecs_model.proofs.FirstWorld.{is_value as generation_of}
pub use Rattle.name_index.proofs.NamesLemmas.{same_entity, entity_eq_true}
