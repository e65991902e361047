use Rattle.flashplan_script_runs.proofs.Calls.{way_goes_on}
use Rattle.flashplan_power_cuts.specs.CutDies.{running_of}
use Rattle.flashplan_power_cuts.proofs.cut_dies.CutDieScriptDie.carry_to.Goals as goal

pub loop-present-preserved : goal.loop-present-preserved
loop-present-preserved c =
    way_goes_on c.args.slot c.loop-present._present (running_of c.args.self.now) (running_of c.loop-present.self)
    (running_of c.carry_slot.new.self) c.loop-present-test.true c.loop-present.invariant c.in-Ok.ensures
