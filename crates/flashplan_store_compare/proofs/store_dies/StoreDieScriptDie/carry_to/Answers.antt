use Rattle.std.proofs.Common.{◌∙◌}
use Rattle.std.specs.Box.{box_value}
use Rattle.flashplan_script_runs.specs.RunningDies.{running_of}
use Rattle.flashplan_script_runs.proofs.Calls.{way_goes_on}
use Rattle.flashplan_store_compare.proofs.store_dies.StoreDieScriptDie.carry_to.Goals as goal

pub loop-present-preserved : goal.loop-present-preserved
loop-present-preserved c =
    way_goes_on c.args.slot c.loop-present._present (running_of (box_value c.args.self.now.core))
    (running_of (box_value c.loop-present.self.core)) (running_of (box_value c.step.new.self.core)) c.loop-present-test.true
    c.loop-present.invariant c.in-Ok.ensures.took

pub returns-in-Err-clause-well : goal.returns-in-Err-clause-well
returns-in-Err-clause-well c = λ well. c.step.ensures.well (c.loop-present.invariant.stopped_stays ∙ well)

pub returns-in-Err-2-clause-well : goal.returns-in-Err-2-clause-well
returns-in-Err-2-clause-well c = λ well. c.step.ensures.well (c.loop-present.invariant.stopped_stays ∙ well)

pub returns-clause-well : goal.returns-clause-well
returns-clause-well c = λ well. c.loop-present.invariant.stopped_stays ∙ well
