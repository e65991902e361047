use Rattle.std.specs.Box.{box_value}
use Rattle.flashplan_script_runs.specs.RunningDies.{running_of}
use Rattle.flashplan_script_runs.proofs.Calls.{way_goes_on}
use Rattle.flashplan_watched_runs.proofs.die_runs.DieRunScriptDie.carry_to.Goals as goal

pub loop-present-preserved : goal.loop-present-preserved
loop-present-preserved c = record {
  way = way_goes_on c.args.slot c.loop-present._present (running_of (box_value c.args.self.now.core))
      (running_of (box_value c.loop-present.self.core)) (running_of (box_value c.step.new.self.core)) c.loop-present-test.true
      c.loop-present.invariant.way c.in-Ok.ensures.took;
  well = λ well. c.step.ensures.well (c.loop-present.invariant.well well);
}
