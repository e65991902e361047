use Rattle.std.proofs.Common.{List}
use Rattle.std.specs.List.{AllZip}
use Rattle.std.proofs.lemmas.Result.{on_ok_weaker}
use Rattle.flashplan_script_runs.specs.RunningDies.{RunningDie, running_of}
use Rattle.flashplan_script_runs.specs.ScriptRuns.{GoesOn}
use Rattle.flashplan_script_runs.proofs.EachDie.{starts_stay}
use Rattle.flashplan_script_runs.proofs.GoingOn.{one_goes_on}
use Rattle.flashplan_checkpoint_runs.specs.Runs.{running}
use Rattle.flashplan_checkpoint_runs.proofs.settling.settle_at.Goals as goal

pub returns-clause-went_on : goal.returns-clause-went_on
returns-clause-went_on c =
    on_ok_weaker c.settle_die.result
    (λ (on : GoesOn (running_of c.index_mut.result.now) (running_of c.settle_die.new.die)) (came : List RunningDie)
    (h : AllZip GoesOn came (running c.args.dies.now.items)).
    one_goes_on running_of came c.args.dies.now.items c.args.place c.index_mut.result.now c.settle_die.new.die c.index_mut.ensures.value
    on h)
    c.settle_die.ensures.went_on

pub returns-clause-starts : goal.returns-clause-starts
returns-clause-starts c =
    starts_stay running_of c.args.dies.now.items c.args.place c.index_mut.result.now c.settle_die.new.die c.settle_die.ensures.start
    c.index_mut.ensures.value
