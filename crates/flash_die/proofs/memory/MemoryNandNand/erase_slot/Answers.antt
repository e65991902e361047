use Rattle.std.proofs.Common.{rules, arith, sym, ◌≡◌, ◌≤◌, ◌<◌, ◌+◌, get_or}
use Rattle.std.proofs.lemmas.List.{get_or_read}
use Rattle.flash_die.specs.MemoryView.{cells_of}
use Rattle.flash_die.proofs.Erase.{Erasing, erasing_at, going_tested, last_tested, blocks_going, blocks_freed, still_memory}
use Rattle.flash_die.proofs.memory.MemoryNandNand.erase_slot.Goals as goal
use Rattle.flash_die.proofs.memory.MemoryNandNand.erase_slot.Goals.{After-self}

-- the block may be erased, and each list has it
erasing : (c : After-self) → Erasing c.self.inside.shape (cells_of c.self.inside) c.self.inside.filled.items c.self.inside.erasing.items
    c.self.inside.erases.items c.args.block
erasing c =
    let m = c.self.inside in
    erasing_at m.shape (cells_of m) m.filled.items m.erasing.items m.erases.items c.args.block c.self.invariant.memory
    (rw (← c.self.view_is) at c.requires.erasable)

pub index-requires : goal.index-requires
index-requires c = search (rules, (erasing (goal.at.index-requires c).After-self).in_erasing)

pub overflow_add-done : goal.overflow_add-done
overflow_add-done c =
    let m = c.self.inside in
    let at = erasing (goal.at.overflow_add-done c).After-self in
    let read : c.index.result.now ≡ get_or m.erasing.items c.args.block 0 = get_or_read m.erasing.items c.args.block c.index.result.now
    at.in_erasing c.index.ensures 0 in
    omega (arith, read, c.self.invariant.memory.few_slots c.args.block, c.self.invariant.memory.limits.few_slots)

pub index_mut-requires : goal.index_mut-requires
index_mut-requires c = search (rules, (erasing (goal.at.index_mut-requires c).After-self).in_erasing)

pub returns-then-done-self-clause-last : goal.returns-then-done-self-clause-last
returns-then-done-self-clause-last c =
    let m = c.self.inside in
    let at = erasing (goal.at.returns-then-done-self-clause-last c).After-self in
    let read : c.index.result.now ≡ get_or m.erasing.items c.args.block 0 = get_or_read m.erasing.items c.args.block c.index.result.now
    at.in_erasing c.index.ensures 0 in
    let less : get_or m.erasing.items c.args.block 0 + 1 < m.shape.erase_slots = omega (arith, c.if-done-self.true, read) in
    rw (← c.self.view_is) (sym (going_tested m.shape (cells_of m) m.filled.items m.erasing.items m.erases.items c.args.block at less))

pub returns-then-done-self-clause-blocks : goal.returns-then-done-self-clause-blocks
returns-then-done-self-clause-blocks c =
    let m = c.self.inside in
    let at = erasing (goal.at.returns-then-done-self-clause-blocks c).After-self in
    let read : c.index.result.now ≡ get_or m.erasing.items c.args.block 0 = get_or_read m.erasing.items c.args.block c.index.result.now
    at.in_erasing c.index.ensures 0 in
    let less : get_or m.erasing.items c.args.block 0 + 1 < m.shape.erase_slots = omega (arith, c.if-done-self.true, read) in
    rw (← c.self.view_is, read) (blocks_going m.shape (cells_of m) m.filled.items m.erasing.items m.erases.items c.args.block at less)

pub index_mut-requires-2 : goal.index_mut-requires-2
index_mut-requires-2 c = search (rules, (erasing (goal.at.index_mut-requires-2 c).After-self).in_filled)

pub index_mut-requires-3 : goal.index_mut-requires-3
index_mut-requires-3 c = search (rules, (erasing (goal.at.index_mut-requires-3 c).After-self).in_erasing)

pub index_mut-requires-4 : goal.index_mut-requires-4
index_mut-requires-4 c = search (rules, (erasing (goal.at.index_mut-requires-4 c).After-self).in_erases)

pub overflow_add-index_mut : goal.overflow_add-index_mut
overflow_add-index_mut c =
    let m = c.self.inside in
    let at = erasing (goal.at.overflow_add-index_mut c).After-self in
    let counted : c.index_mut-4.result.now ≡ get_or m.erases.items c.args.block 0 = get_or_read m.erases.items c.args.block
    c.index_mut-4.result.now at.in_erases c.index_mut-4.ensures.value 0 in
    omega (arith, counted, at.few_erases)

pub invariant_of-self-2 : goal.invariant_of-self-2
invariant_of-self-2 c =
    let m = c.self.inside in
    let at = erasing (goal.at.invariant_of-self-2 c).After-self in
    record {
      memory = still_memory m.shape (cells_of m) m.filled.items m.erasing.items m.erases.items c.args.block
          (c.index_mut-4.result.now + 1) c.self.invariant.memory at;
      some = c.self.invariant.some;
      room = c.self.invariant.room;
    }

pub returns-clause-last : goal.returns-clause-last
returns-clause-last c =
    let m = c.self.inside in
    let at = erasing (goal.at.returns-clause-last c).After-self in
    let read : c.index.result.now ≡ get_or m.erasing.items c.args.block 0 = get_or_read m.erasing.items c.args.block c.index.result.now
    at.in_erasing c.index.ensures 0 in
    let enough : m.shape.erase_slots ≤ get_or m.erasing.items c.args.block 0 + 1 = omega (arith, c.if-done-self.false, read) in
    rw (← c.self.view_is) (sym (last_tested m.shape (cells_of m) m.filled.items m.erasing.items m.erases.items c.args.block
    c.self.invariant.memory at enough))

pub returns-clause-blocks : goal.returns-clause-blocks
returns-clause-blocks c =
    let m = c.self.inside in
    let at = erasing (goal.at.returns-clause-blocks c).After-self in
    let read : c.index.result.now ≡ get_or m.erasing.items c.args.block 0 = get_or_read m.erasing.items c.args.block c.index.result.now
    at.in_erasing c.index.ensures 0 in
    let enough : m.shape.erase_slots ≤ get_or m.erasing.items c.args.block 0 + 1 = omega (arith, c.if-done-self.false, read) in
    let counted : c.index_mut-4.result.now ≡ get_or m.erases.items c.args.block 0 = get_or_read m.erases.items c.args.block
    c.index_mut-4.result.now at.in_erases c.index_mut-4.ensures.value 0 in
    rw (← c.self.view_is, counted) (blocks_freed m.shape (cells_of m) m.filled.items m.erasing.items m.erases.items c.args.block
    c.self.invariant.memory at enough)
