use Rattle.flashplan_checkpoint_runs.proofs.GoingOn.{saved_with}
use Rattle.flashplan_checkpoint_runs.proofs.saving.saved_of.Goals as goal

pub returns-clause-ok : goal.returns-clause-ok
returns-clause-ok c =
    saved_with c.args.taken c.args.device.now.blocks c.as_slice.result.now c.in_ok-pages.pages c.as_slice.ensures
    c.in_ok-pages.ensures.ok
