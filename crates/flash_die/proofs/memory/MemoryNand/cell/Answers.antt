use Rattle.std.proofs.Common.{◌+◌, ◌*◌, ◌≤◌, length, sym, ap, ◌∙◌}
use Rattle.flash_die.specs.Flash.{blank}
use Rattle.flash_die.specs.MemoryView.{cells_of}
use Rattle.flash_die.specs.Flash.{Block}
use Rattle.std.proofs.Common.{get_or}
use Rattle.flash_die.proofs.Laid.{read-laid}
use Rattle.flash_die.proofs.Looking.{within, cell_in, cell_free, block_outside}
use Rattle.flash_die.proofs.memory.MemoryNand.cell.Goals as goal

pub returns-in-Some : goal.returns-in-Some
returns-in-Some c =
    let m = c.self.inside in
    let look = rw c.deref.ensures.value at c.in-Some.ensures.lookup in
    let at = c.args.place.block * m.shape.pages + c.args.place.page in
    rw (← c.self.view_is) (rw c.deref-in-Some.ensures.value at c.read_cell.ensures
    ∙ sym (read-laid (m.shape.blocks * m.shape.pages) m.cells.items at)
    ∙ sym (cell_in m.shape.pages (cells_of m) m.filled.items m.erasing.items m.erases.items c.args.place _ (within look.0) look.1 c.if-place-filled.true))

pub returns-in_default : goal.returns-in_default
returns-in_default c =
    let m = c.self.inside in
    let look = rw c.deref.ensures.value at c.in-Some.ensures.lookup in
    rw (← c.self.view_is)
    (sym (cell_free m.shape.pages (cells_of m) m.filled.items m.erasing.items m.erases.items c.args.place _ (within look.0) look.1 c.if-place-filled.false))

pub returns-in_default-2 : goal.returns-in_default-2
returns-in_default-2 c =
    let m = c.self.inside in
    let none = rw c.in_default.is at c.get.ensures.lookup in
    let past : length m.filled.items ≤ c.args.place.block = rw c.deref.ensures.value at none.3 in
    rw (← c.self.view_is) (sym (ap (λ (x : Block). get_or x.pages c.args.place.page blank)
    (block_outside m.shape.pages (cells_of m) m.filled.items m.erasing.items m.erases.items c.args.place.block past)))
