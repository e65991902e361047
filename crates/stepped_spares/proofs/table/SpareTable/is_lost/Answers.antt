use Rattle.std.proofs.Common.{◌∙◌, sym}
use Rattle.stepped_spares.proofs.table.SpareTable.is_lost.Goals as goal

pub replace-requires-clause-block : goal.replace-requires-clause-block
replace-requires-clause-block c =
    (c.count.ensures.sound.listed c.args.block c.in-InPlan.number (sym c.use_of.ensures ∙ c.in-InPlan.is)).0
