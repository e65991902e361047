use Rattle.std.proofs.Common.{rules, arith, ◌≡◌, ◌<◌, ◌≤◌, ◌+◌, ◌*◌, ℕ, List, length, set, sym, ap, ◌∙◌, subst}
use Rattle.std.proofs.lemmas.List.{length-set}
use Rattle.slot_types.specs.declared.pages.PageData.{PageData}
use Rattle.slot_types.specs.declared.plans.Shape.{Shape}
use Rattle.flash_die.specs.Memory.{IsMemory, blocks_of, cells_up_to}
use Rattle.flash_die.specs.MemoryView.{cells_of}
use Rattle.flash_die.proofs.Cut.{Fits, fits, blocks_programmed, memory_programmed}
use Rattle.flash_die.proofs.Laid.{below-laid, length-laid, some-laid, write-laid}
use Rattle.flash_die.proofs.memory.MemoryNandNand.program.Goals as goal
use Rattle.flash_die.proofs.memory.MemoryNandNand.program.Goals.{After-self}

-- the cell is the next one of its block
next : (c : After-self) → Fits c.self.inside.shape (cells_of c.self.inside) c.self.inside.filled.items c.self.inside.erasing.items
    c.args.place
next c =
    let m = c.self.inside in
    fits m.shape (cells_of m) m.filled.items m.erasing.items m.erases.items c.args.place c.self.invariant.memory
    (rw (← c.self.view_is) at c.requires.next)

-- the cells after the program
written : (shape : Shape) (cells longer : List PageData) (at : ℕ) (bytes : PageData) → longer ≡ cells_up_to (at + 1) cells → at + 1
    ≤ shape.blocks * shape.pages → length cells ≤ shape.blocks * shape.pages → cells_up_to (shape.blocks * shape.pages) (set longer at bytes)
    ≡ set (cells_up_to (shape.blocks * shape.pages) cells) at bytes
written shape cells longer at bytes is few some =
    ap (λ (l : List PageData). cells_up_to (shape.blocks * shape.pages) (set l at bytes)) is
    ∙ write-laid (shape.blocks * shape.pages) (at + 1) cells at bytes few (omega arith) some

-- and one of the device
of_device : (c : After-self) → c.args.place.block * c.self.inside.shape.pages + c.args.place.page + 1
    ≤ c.self.inside.shape.blocks * c.self.inside.shape.pages
of_device c =
    let m = c.self.inside in
    omega (arith, (next c).at, length-laid (m.shape.blocks * m.shape.pages) m.cells.items c.self.invariant.some)

pub overflow_mul-at : goal.overflow_mul-at
overflow_mul-at c = omega (arith, (next (goal.at.overflow_mul-at c).After-self).small)

pub overflow_add-at : goal.overflow_add-at
overflow_add-at c = omega (arith, (next (goal.at.overflow_add-at c).After-self).small)

pub lay_down-requires : goal.lay_down-requires
lay_down-requires c = omega (arith, of_device (goal.at.lay_down-requires c).After-self, c.self.invariant.room)

pub index_mut-requires : goal.index_mut-requires
index_mut-requires c =
    let m = c.self.inside in
    let at = c.args.place.block * m.shape.pages + c.args.place.page in
    let below : at < length c.lay_down.new.cells.items = rw c.lay_down.ensures.cells (below-laid (at + 1) at m.cells.items (omega arith)) in
    search (rules, below)

pub index_mut-requires-2 : goal.index_mut-requires-2
index_mut-requires-2 c = search (rules, (next (goal.at.index_mut-requires-2 c).After-self).block)

pub invariant_of-self : goal.invariant_of-self
invariant_of-self c =
    let m = c.self.inside in
    let at = c.args.place.block * m.shape.pages + c.args.place.page in
    let here = (goal.at.invariant_of-self c).After-self in
    let programmed : IsMemory m.shape (cells_up_to (m.shape.blocks * m.shape.pages) (set c.lay_down.new.cells.items at c.args.bytes))
    (set m.filled.items c.args.place.block (c.args.place.page + 1)) m.erasing.items m.erases.items = subst
    (λ (l : List PageData). IsMemory m.shape l (set m.filled.items c.args.place.block (c.args.place.page + 1)) m.erasing.items
    m.erases.items) (sym (written m.shape m.cells.items c.lay_down.new.cells.items at c.args.bytes c.lay_down.ensures.cells
    (of_device here) c.self.invariant.some)) (memory_programmed m.shape (cells_of m) m.filled.items m.erasing.items m.erases.items
    c.args.place c.args.bytes c.self.invariant.memory (next here)) in
    record {
      memory = programmed;
      some = omega (
        arith,
        length-set c.lay_down.new.cells.items at c.args.bytes,
        ap length c.lay_down.ensures.cells,
        some-laid
            (m.shape.blocks * m.shape.pages) (at + 1) m.cells.items (of_device here) c.self.invariant.some,
      );
      room = omega (arith, c.self.invariant.room, c.lay_down.ensures.room);
    }

pub returns-clause-blocks : goal.returns-clause-blocks
returns-clause-blocks c =
    let m = c.self.inside in
    let at = c.args.place.block * m.shape.pages + c.args.place.page in
    let here = (goal.at.returns-clause-blocks c).After-self in
    rw (← c.self.view_is) (
    ap (λ (l : List PageData). blocks_of m.shape.pages l (set m.filled.items c.args.place.block (c.args.place.page + 1)) m.erasing.items
    m.erases.items) (written m.shape m.cells.items c.lay_down.new.cells.items at c.args.bytes c.lay_down.ensures.cells (of_device here)
    c.self.invariant.some)
    ∙ blocks_programmed m.shape (cells_of m) m.filled.items m.erasing.items m.erases.items c.args.place c.args.bytes c.self.invariant.memory
    (next here)
    )
