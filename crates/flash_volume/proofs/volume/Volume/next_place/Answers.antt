use Rattle.flash_volume.proofs.Kept.{some_free}
use Rattle.flash_volume.proofs.Opening.{some_open}
use Rattle.flash_volume.proofs.volume.Volume.next_place.Goals as goal

pub next_cell-requires-clause-free : goal.next_cell-requires-clause-free
next_cell-requires-clause-free g c =
    some_free c.args.task (c.self.invariant (rw (← c.self.view_is) at c.requires.alive)) (rw (← c.self.view_is) at c.requires.held)

pub returns-clause-place : goal.returns-clause-place
returns-clause-place g c =
    let sound = c.self.invariant (rw (← c.self.view_is) at c.requires.alive) in
    rw (← c.self.view_is) (rw (← sound.shape_is) c.next_cell.ensures)

pub returns-clause-finds : goal.returns-clause-finds
returns-clause-finds g c =
    let sound = c.self.invariant (rw (← c.self.view_is) at c.requires.alive) in
    rw (← c.self.view_is) (rw (← sound.shape_is) (some_open (g.N.Nand.shape_of c.self.inside.array.device).pages
    (g.N.Nand.blocks c.self.inside.array.device) (some_free c.args.task sound (rw (← c.self.view_is) at c.requires.held))))
