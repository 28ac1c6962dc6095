-- what contracts of a program's own may cite of those of the calls
pub use Rattle.ecs_model.specs.rows.Rows
pub use Rattle.ecs_model.specs.stored.Session
pub use Rattle.ecs_observe.specs.Answers
pub use Rattle.ecs_observe.specs.Standing
