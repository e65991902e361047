use Rattle.labelled_spares.proofs.Powered.{mountable}
use Rattle.labelled_spares.proofs.labelled.LabelledSpares.power_up.Goals as goal

pub returns-in-Ok-clause-mountable : goal.returns-in-Ok-clause-mountable
returns-in-Ok-clause-mountable g c =
    mountable g.D.WearingNand.blocks g.D.WearingNand.next c.in-Ok.spares c.args.blocks (g.D.WearingNand.shape_of c.args.part)
    (g.D.WearingNand.blocks c.args.part) c.args.bad.now c.requires.powered c.in-Ok.ensures.powered
