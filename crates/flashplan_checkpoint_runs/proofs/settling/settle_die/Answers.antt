use Rattle.flashplan_script_runs.specs.RunningDies.{running_of}
use Rattle.flashplan_script_runs.proofs.Calls.{goes_nowhere, goes_twice}
use Rattle.flashplan_checkpoint_runs.proofs.settling.settle_die.Goals as goal

pub loop-number-init : goal.loop-number-init
loop-number-init c = goes_nowhere (running_of c.args.die.now)

pub loop-number-preserved : goal.loop-number-preserved
loop-number-preserved c =
    goes_twice (running_of c.args.die.now) (running_of c.loop-number.die) (running_of c.carry_out.new.die) c.loop-number.invariant
    c.in_ok-carry_out.ensures.went_on
