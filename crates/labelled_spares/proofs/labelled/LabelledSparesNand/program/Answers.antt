use Rattle.std.proofs.Common.{rules}
use Rattle.labelled_spares.proofs.Follows.{ends_labelled}
use Rattle.labelled_spares.proofs.labelled.LabelledSparesNand.program.Goals as goal

pub returns-clause-ends : goal.returns-clause-ends
returns-clause-ends g c =
    rw (← c.self.view_is) (ends_labelled g.D.WearingNand.blocks g.D.WearingNand.next g.D.WearingNand.spent g.D.WearingNand.keeps_labels
    g.met.D.LabelledWearing.is_labelled c.self.inside.spares c.program.new.self _ _ c.program.ensures.ends)
