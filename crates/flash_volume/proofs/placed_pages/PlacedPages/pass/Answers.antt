use Rattle.flash_volume.proofs.FirstCells.{passed}
use Rattle.flash_volume.proofs.placed_pages.PlacedPages.pass.Goals as goal

pub invariant_of-self : goal.invariant_of-self
invariant_of-self c =
    passed c.self.inside.map.shape.blocks c.self.inside.map.places c.self.inside.firsts.items c.self.invariant c.args.cell
    (rw (← c.self.view_is) at c.requires.block) (rw (← c.self.view_is) at c.requires.none)
