use Rattle.std.proofs.Common.{ℕ, ◌+◌, ◌≤◌, length, nat_eq, sym, ap, ◌∙◌}
use Rattle.flash_die.specs.MemoryView.{cells_of}
use Rattle.flash_die.proofs.Looking.{within, erasing_in, erasing_outside}
use Rattle.flash_die.proofs.memory.MemoryNand.ends_erase.Goals as goal

pub returns-in-Some : goal.returns-in-Some
returns-in-Some c =
    let m = c.self.inside in
    let is = c.self.invariant.memory in
    let look = rw c.deref.ensures.value at c.in-Some.ensures.lookup in
    rw (← c.self.view_is) (ap (λ (n : ℕ). nat_eq (n + 1) m.shape.erase_slots)
    (sym (erasing_in m.shape.pages (cells_of m) m.filled.items m.erasing.items m.erases.items c.args.block _ (is.filled_len ∙ sym is.erasing_len) (within look.0) look.1)))

pub returns-in-None : goal.returns-in-None
returns-in-None c =
    let m = c.self.inside in
    let is = c.self.invariant.memory in
    let past : length m.erasing.items ≤ c.args.block = rw c.deref.ensures.value at c.in-None.ensures.lookup.3 in
    rw (← c.self.view_is) (ap (λ (n : ℕ). nat_eq (n + 1) m.shape.erase_slots)
    (sym (erasing_outside m.shape.pages (cells_of m) m.filled.items m.erasing.items m.erases.items c.args.block (is.filled_len ∙ sym is.erasing_len) past)))
