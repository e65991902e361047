use Rattle.flashplan_script_runs.specs.RunningDies.{running_of}
use Rattle.flashplan_script_runs.proofs.Calls.{goes_further, goes_nowhere}
use Rattle.flashplan_checkpoint_runs.proofs.settling.carry_out.Goals as goal

pub loop-slot-init : goal.loop-slot-init
loop-slot-init c = goes_nowhere (running_of c.args.die.now)

pub loop-slot-preserved : goal.loop-slot-preserved
loop-slot-preserved c =
    goes_further _ (running_of c.args.die.now) (running_of c.loop-slot.die) (running_of c.carry_to.new.self) c.loop-slot.invariant
    c.in_ok-carry_to.ensures.carried
