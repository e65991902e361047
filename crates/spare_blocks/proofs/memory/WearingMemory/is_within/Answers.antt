use Rattle.std.proofs.Common.{◌∙◌}
use Rattle.std.proofs.lemmas.List.{length-map}
use Rattle.spare_blocks.specs.WearingView.{seen_block}
use Rattle.spare_blocks.proofs.WearingPower.{cells_within}
use Rattle.spare_blocks.proofs.memory.WearingMemory.is_within.Goals as goal

pub returns-clause-count : goal.returns-clause-count
returns-clause-count c =
    rw (← c.self.view_is) (length-map c.self.inside.blocks.items seen_block ∙ c.self.invariant.count)

pub returns-clause-within : goal.returns-clause-within
returns-clause-within c =
    rw (← c.self.view_is) (cells_within c.self.inside.shape.pages c.self.inside.shape.erase_slots c.self.inside.blocks.items c.self.invariant.each)
