use Rattle.std.proofs.Common.{refl}
use Rattle.world_script.specs.declared.errors.RunError.TheVariants.{Memory}
use Rattle.flecsq_c.proofs.RunFronts.{RunsScript-none}
use Rattle.flecsq_c.proofs.flecsq_run.Goals as goal

pub returns-in-Err : goal.returns-in-Err
returns-in-Err c = RunsScript-none _ _ _ _ Memory tt refl refl
