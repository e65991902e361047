use Rattle.slot_core.proofs.Taking.{did_leaves}
use Rattle.slot_core.proofs.head_steps.collect.Goals as goal

pub returns-in-Ok-clause-plan : goal.returns-in-Ok-clause-plan
returns-in-Ok-clause-plan g c = (did_leaves g.N.Nand.blocks c.args.volume.now c.collect_slot.new.self c.args.task c.requires.fits.0
    c.in-Ok.did (c.in-Ok.ensures.did c.requires.fits.0 c.requires.fits.1)).0
