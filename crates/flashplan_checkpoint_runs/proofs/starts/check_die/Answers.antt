use Rattle.std.proofs.Common.{subst}
use Rattle.die_checkpoint.specs.Faults.{HasCheckpointFault}
use Rattle.die_checkpoint.specs.declared.checkpoint.Checkpoint.{Checkpoint}
use Rattle.flashplan_checkpoint_runs.proofs.starts.check_die.Goals as goal

pub returns-in-Err-clause-refused : goal.returns-in-Err-clause-refused
returns-in-Err-clause-refused c =
    c.unfit.ensures c.args.plan.now
    (subst (λ (made : Checkpoint). HasCheckpointFault c.args.plan.now made c.in-Err.fault) c.in_ok-checkpoint.ensures.ok c.in-Err.ensures.fault)
