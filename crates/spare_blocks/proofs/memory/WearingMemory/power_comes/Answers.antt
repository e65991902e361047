use Rattle.std.proofs.Common.{sym, subst}
use Rattle.spare_blocks.specs.Powering.{IsPoweredPart}
use Rattle.spare_blocks.specs.Wearing.{Wearing}
use Rattle.spare_blocks.proofs.WearingPower.{powered_part}
use Rattle.spare_blocks.proofs.memory.WearingMemory.power_comes.Goals as goal

pub returns-clause-powered : goal.returns-clause-powered
returns-clause-powered c =
    subst (λ (m : Wearing). IsPoweredPart m.shape m.blocks) (sym c.close_all.ensures)
    (powered_part c.args.self.now c.is_within.ensures.count c.is_within.ensures.within)
