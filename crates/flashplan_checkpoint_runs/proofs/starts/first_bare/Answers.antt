use Rattle.std.proofs.Common.{sym}
use Rattle.flashplan_checkpoint_runs.proofs.LeftDevices.{none_bare}
use Rattle.flashplan_checkpoint_runs.proofs.starts.first_bare.Goals as goal

pub returns-in-None-clause-none : goal.returns-in-None-clause-none
returns-in-None-clause-none c = none_bare c.args.pages.now (sym c.in-None.ensures)
