use Rattle.std.proofs.Common.{refl}
use Rattle.world_script.specs.declared.errors.RunError.TheVariants.{Write}
use Rattle.flecsq_c.proofs.RunFronts.{RunsScript-err, RunsScript-none, RunsScript-out, status_fits}
use Rattle.flecsq_c.proofs.run_in_memory.Goals as goal

pub returns-in_default : goal.returns-in_default
returns-in_default c = RunsScript-none _ _ _ _ Write tt (c.in_default.ensures.kept refl) c.requires

pub returns-then-is_out : goal.returns-then-is_out
returns-then-is_out c =
    let e = c.run-done.ensures in
    RunsScript-out _ _ _ _ _ _ _ _ _ _ c.new-reader.ensures c.new-writer.ensures c.bytes.ensures c.in-Some.ensures.copied c.requires c.in-Err.error c.run-done.result
    c.in-Err.is e.read e.too_long e.memory e.write

pub returns : goal.returns
returns c =
    let e = c.run-done.ensures in
    RunsScript-err _ _ _ _ _ _ _ _ _ _ c.new-reader.ensures c.new-writer.ensures c.bytes.ensures c.in-Some.ensures.copied c.requires c.in-Err.error _ c.run-done.result
    c.in-Err.is (status_fits c.in-Err.error c.run_status.result c.run_status.ensures) e.read e.too_long e.memory e.write
