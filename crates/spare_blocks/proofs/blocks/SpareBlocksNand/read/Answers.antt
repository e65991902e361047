use Rattle.std.proofs.Common.{◌≡◌, ℕ, ◌∙◌, ap, sym, subst, arith}
use Rattle.spare_blocks.specs.Parts.{IsCell, cell_on}
use Rattle.spare_blocks.specs.Tables.{on_part}
use Rattle.spare_blocks.proofs.PlanCells.{cell_here, cell_is}
use Rattle.spare_blocks.proofs.blocks.SpareBlocksNand.read.Goals as goal

pub on_part-requires : goal.on_part-requires
on_part-requires g c =
    let h = cell_here g.D.WearingNand.blocks (record { part = c.self.inside.part; shape = c.self.inside.shape; table = c.self.inside.table; erases = c.self.inside.erases.items; health = c.self.inside.health; failures = c.self.inside.failures }) c.args.place (rw (← c.self.view_is) at c.requires.programmed) in
    omega (arith, h.lt, c.self.invariant.count)

pub read-requires-clause-cell : goal.read-requires-clause-cell
read-requires-clause-cell g c =
    let h = cell_here g.D.WearingNand.blocks (record { part = c.self.inside.part; shape = c.self.inside.shape; table = c.self.inside.table; erases = c.self.inside.erases.items; health = c.self.inside.health; failures = c.self.inside.failures }) c.args.place (rw (← c.self.view_is) at c.requires.programmed) in
    let e : c.on_part.result ≡ on_part c.self.inside.table c.args.place.block = c.on_part.ensures.number in
    subst (λ (x : ℕ). IsCell (g.D.WearingNand.blocks c.self.inside.part) (record { block = x; page = c.args.place.page })) (sym e)
    (record { filled = h.filled; quiet = h.quiet })

pub returns-in-Ok-clause-cell : goal.returns-in-Ok-clause-cell
returns-in-Ok-clause-cell g c =
    let h = cell_here g.D.WearingNand.blocks (record { part = c.self.inside.part; shape = c.self.inside.shape; table = c.self.inside.table; erases = c.self.inside.erases.items; health = c.self.inside.health; failures = c.self.inside.failures }) c.args.place (rw (← c.self.view_is) at c.requires.programmed) in
    let e : c.on_part.result ≡ on_part c.self.inside.table c.args.place.block = c.on_part.ensures.number in
    let read = c.in-Ok.ensures.bytes in
    rw (← c.self.view_is) (
    read
    ∙ (ap (λ (x : ℕ). (cell_on (g.D.WearingNand.blocks c.self.inside.part) (record { block = x; page = c.args.place.page })).bytes) e
    ∙ cell_is g.D.WearingNand.blocks (record { part = c.self.inside.part; shape = c.self.inside.shape; table = c.self.inside.table; erases = c.self.inside.erases.items; health = c.self.inside.health; failures = c.self.inside.failures }) c.args.place h)
    )
