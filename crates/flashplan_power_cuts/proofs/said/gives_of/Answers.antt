use Rattle.flashplan_power_cuts.proofs.Holding.{denied}
use Rattle.flashplan_power_cuts.proofs.said.gives_of.Goals as goal

pub returns : goal.returns
returns c = (
  denied _ c.is_last.ensures c.if-is_last.false,
  denied _ c.is_writing.ensures c.if-is_writing.false,
  denied _ c.is_blank.ensures c.if-is_blank.false,
  denied _ c.is_earlier.ensures c.if-is_earlier.false,
)
