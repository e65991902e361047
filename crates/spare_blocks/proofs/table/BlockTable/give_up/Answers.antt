use Rattle.spare_blocks.proofs.Numbers.{without_sound}
use Rattle.spare_blocks.proofs.table.BlockTable.give_up.Goals as goal

pub invariant_of-self : goal.invariant_of-self
invariant_of-self c =
    let t = c.self.inside in
    without_sound (record { blocks = t.blocks.items; uses = t.uses.items }) c.self.invariant c.args.spare
    (rw (← c.self.view_is) at c.requires.spare)
