use Rattle.std.proofs.Common.{refl, ◌∙◌}
use Rattle.flashplan_script_runs.proofs.GoingOn.{all_stay}
use Rattle.flashplan_checkpoint_runs.specs.Runs.{running}
use Rattle.flashplan_checkpoint_runs.proofs.settling.settle.Goals as goal

pub loop-place-init : goal.loop-place-init
loop-place-init c = record { went_on = all_stay (running c.args.dies.now.items); starts = refl; count = refl }

pub loop-place-preserved : goal.loop-place-preserved
loop-place-preserved c = record {
  went_on = c.in_ok-slots.ensures.went_on (running c.args.dies.now.items) c.loop-place.invariant.went_on;
  starts = c.settle_at.ensures.starts ∙ c.loop-place.invariant.starts;
  count = c.settle_at.ensures.count ∙ c.loop-place.invariant.count;
}
