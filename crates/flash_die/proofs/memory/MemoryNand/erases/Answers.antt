use Rattle.std.proofs.Common.{◌≤◌, length, sym, ◌∙◌}
use Rattle.flash_die.specs.MemoryView.{cells_of}
use Rattle.flash_die.proofs.Looking.{within, erases_in, erases_outside}
use Rattle.flash_die.proofs.memory.MemoryNand.erases.Goals as goal

pub returns-in-Some : goal.returns-in-Some
returns-in-Some c =
    let m = c.self.inside in
    let is = c.self.invariant.memory in
    let look = rw c.deref.ensures.value at c.in-Some.ensures.lookup in
    rw (← c.self.view_is)
    (sym (erases_in m.shape.pages (cells_of m) m.filled.items m.erasing.items m.erases.items c.args.block _ (is.filled_len ∙ sym is.erases_len) (within look.0) look.1))

pub returns-in-None : goal.returns-in-None
returns-in-None c =
    let m = c.self.inside in
    let is = c.self.invariant.memory in
    let past : length m.erases.items ≤ c.args.block = rw c.deref.ensures.value at c.in-None.ensures.lookup.3 in
    rw (← c.self.view_is)
    (sym (erases_outside m.shape.pages (cells_of m) m.filled.items m.erasing.items m.erases.items c.args.block (is.filled_len ∙ sym is.erases_len) past))
