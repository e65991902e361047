use Rattle.std.proofs.Common.{subst, sym}
use Rattle.die_checkpoint.proofs.Excluding.{fault_breaks}
use Rattle.labelled_die.specs.Beside.{Beside}
use Rattle.device_mount.proofs.Ended.{born}
use Rattle.clean_shutdown.specs.Starting.{GoesOn}
use Rattle.clean_shutdown.proofs.Starts.{goes_so}
use Rattle.clean_shutdown.proofs.starting.resumed.Goals as goal

pub returns-in-Ok-clause-goes_on : goal.returns-in-Ok-clause-goes_on
returns-in-Ok-clause-goes_on g c =
    let blocks = g.N.Nand.blocks in
    let labels = g.N.LabelledNand.labels in
    let saved = g.N.SavingNand.saved in
    rw c.in-Ok.ensures.ok
    (subst (λ (d : Beside g.row.N.Denot). GoesOn saved labels c.args.plan (blocks c.args.part) (labels c.args.part) c.args.saved.now
    (born blocks c.args.plan c.args.saved.now.checkpoint d)) (sym c.new.ensures)
    (goes_so saved labels blocks c.args.plan (g.N.Nand.shape_of c.args.part) c.args.part c.args.saved.now c.requires.void c.requires.fits.0))

pub unreachable-requires-in_default : goal.unreachable-requires-in_default
unreachable-requires-in_default g c =
    fault_breaks c.args.plan c.args.saved.now.checkpoint c.in-Unfit.fault (rw c.in-Unfit.is at c.in-Err.ensures.refused).1 c.in_default.not-NoMemory
    c.requires.fits.1
