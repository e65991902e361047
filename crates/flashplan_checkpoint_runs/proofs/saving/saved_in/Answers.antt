use Rattle.std.proofs.Common.{ap, ◌∙◌}
use Rattle.slot_core.specs.Core.{Core}
use Rattle.flash_die.specs.Memory.{Memory}
use Rattle.flashplan_checkpoint_runs.proofs.GoingOn.{end_saved, saved_end_goes_on, saved_fits}
use Rattle.flashplan_checkpoint_runs.proofs.saving.saved_in.Goals as goal

pub returns-in-Ok-clause-saved : goal.returns-in-Ok-clause-saved
returns-in-Ok-clause-saved c =
    end_saved c.args.die.now c.device.result.now c.in_ok-taken.taken c.in-Ok.saved
    (c.device.ensures.device ∙ ap (λ (core : Core Memory). core.device) c.checkpoint.ensures.unchanged) c.in_ok-taken.ensures.ok
    c.in-Ok.ensures.ok

pub returns-in-Ok-clause-fits : goal.returns-in-Ok-clause-fits
returns-in-Ok-clause-fits c =
    saved_fits c.args.die.now.start.plan c.device.result.now.blocks c.in_ok-taken.taken c.in-Ok.saved c.in-Ok.ensures.ok
    c.in_ok-taken.ensures.fits

pub returns-in-Ok-clause-goes_on : goal.returns-in-Ok-clause-goes_on
returns-in-Ok-clause-goes_on c =
    saved_end_goes_on c.args.die.now c.device.result.now c.in_ok-taken.taken c.in-Ok.saved
    (c.device.ensures.device ∙ ap (λ (core : Core Memory). core.device) c.checkpoint.ensures.unchanged) c.in-Ok.ensures.ok
    c.in_ok-taken.ensures.goes_on
