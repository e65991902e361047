use Rattle.std.proofs.Common.{rules, ◌+◌, [], arith}
use Rattle.flash_die.specs.Flash.{block_at}
use Rattle.flash_volume.proofs.Opening.{seen}
use Rattle.flash_volume.proofs.Erasing.{IsEmptied, erases_are_counted, unplaced_of, stands_going, stands_freed, contents_erased}
use Rattle.flash_volume.proofs.Erasing.{erased_last, erased_going, free_freed, free_going}
use Rattle.flash_volume.proofs.array.PageArray.erase_slot.Given.{Over}
use Rattle.flash_volume.proofs.array.PageArray.erase_slot.Goals as goal
use Rattle.flash_volume.proofs.array.PageArray.erase_slot.Goals.{After-erase_slot}

-- the block is closed, and no page lies in it
emptied : (g : Over) (c : After-erase_slot g) → IsEmptied (g.N.Nand.shape_of c.self.inside.device) (g.N.Nand.blocks c.self.inside.device)
    c.self.inside.placed.places c.args.block
emptied g c =
    let stands = c.self.invariant (rw (← c.self.view_is) at c.requires.alive) in
    let in_range = rw (← c.self.view_is) at c.requires.block in
    let closed = rw (← c.self.view_is) at c.requires.closed in
    unplaced_of c.args.block stands in_range closed (rw (← c.self.view_is) at c.requires.unplaced)

pub overflow_add-index_mut : goal.overflow_add-index_mut
overflow_add-index_mut g c =
    let stands = c.self.invariant (rw (← c.self.view_is) at c.requires.alive) in
    let in_range = rw (← c.self.view_is) at c.requires.block in
    let worn_is = erases_are_counted c.args.block c.index_mut.result.now stands in_range c.index_mut.ensures.value in
    omega (arith, worn_is, rw (← c.self.view_is) at c.requires.few_erases)

pub invariant_of-self-in-Ok-true : goal.invariant_of-self-in-Ok-true
invariant_of-self-in-Ok-true g c = λ _.
    let stands = c.self.invariant (rw (← c.self.view_is) at c.requires.alive) in
    let clear = emptied g (goal.at.invariant_of-self-in-Ok-true g c).After-erase_slot in
    let b = g.N.Nand.blocks c.self.inside.device in
    let is = erased_last b (g.N.Nand.blocks c.erase_slot.new.self) (g.N.Nand.shape_of c.self.inside.device).erase_slots c.args.block
    c.in-Ok-true.field-0 c.in-Ok-true.ensures.blocks c.in-Ok-true.ensures.last c.in-Ok-true.field-0-test in
    let worn_is = erases_are_counted c.args.block c.index_mut.result.now stands clear.in_range
    c.index_mut.ensures.value in
    rw (c.erase_slot.ensures.shape, c.in-Ok-true.ensures.fails.well, is, worn_is, c.set.ensures)
    (stands_freed ((block_at b c.args.block).erases + 1) stands clear (rw (← c.self.view_is) at c.requires.taken))

pub invariant_of-self-in-Ok-false : goal.invariant_of-self-in-Ok-false
invariant_of-self-in-Ok-false g c = λ _.
    let stands = c.self.invariant (rw (← c.self.view_is) at c.requires.alive) in
    let clear = emptied g (goal.at.invariant_of-self-in-Ok-false g c).After-erase_slot in
    let b = g.N.Nand.blocks c.self.inside.device in
    let is = erased_going b (g.N.Nand.blocks c.erase_slot.new.self) (g.N.Nand.shape_of c.self.inside.device).erase_slots c.args.block
    c.in-Ok-false.field-0 c.in-Ok-false.ensures.blocks c.in-Ok-false.ensures.last c.in-Ok-false.field-0-test in
    rw (c.erase_slot.ensures.shape, c.in-Ok-false.ensures.fails.well, is) (stands_going stands clear
    (rw (← c.self.view_is) at c.requires.taken))

pub returns-in-Ok-true-clause-erased : goal.returns-in-Ok-true-clause-erased
returns-in-Ok-true-clause-erased g c =
    let clear = emptied g (goal.at.returns-in-Ok-true-clause-erased g c).After-erase_slot in
    let b = g.N.Nand.blocks c.self.inside.device in
    let is = erased_last b (g.N.Nand.blocks c.erase_slot.new.self) (g.N.Nand.shape_of c.self.inside.device).erase_slots c.args.block
    c.in-Ok-true.field-0 c.in-Ok-true.ensures.blocks c.in-Ok-true.ensures.last c.in-Ok-true.field-0-test in
    record {
      last_is = search rules;
      cells = search rules;
      going = search rules;
      freed = λ _. rw (c.erase_slot.ensures.shape, is, ← c.self.view_is) (free_freed ((block_at b c.args.block).erases + 1) clear);
      pages = rw (is, ← c.self.view_is)
          (contents_erased (record { pages = []; erasing = 0; erases = (block_at b c.args.block).erases + 1 }) clear);
    }

pub returns-in-Ok-false-clause-erased : goal.returns-in-Ok-false-clause-erased
returns-in-Ok-false-clause-erased g c =
    let clear = emptied g (goal.at.returns-in-Ok-false-clause-erased g c).After-erase_slot in
    let b = g.N.Nand.blocks c.self.inside.device in
    let is = erased_going b (g.N.Nand.blocks c.erase_slot.new.self) (g.N.Nand.shape_of c.self.inside.device).erase_slots c.args.block
    c.in-Ok-false.field-0 c.in-Ok-false.ensures.blocks c.in-Ok-false.ensures.last c.in-Ok-false.field-0-test in
    record {
      last_is = search rules;
      cells = search rules;
      going = λ _. rw (c.erase_slot.ensures.shape, is, ← c.self.view_is) (free_going clear);
      freed = search rules;
      pages = rw (is, ← c.self.view_is)
          (contents_erased (record (block_at b c.args.block) { erasing = (block_at b c.args.block).erasing + 1 }) clear);
    }

pub returns-in-Ok-true-clause-sound : goal.returns-in-Ok-true-clause-sound
returns-in-Ok-true-clause-sound g c = λ again. seen (invariant_of-self-in-Ok-true g c again)

pub returns-in-Ok-false-clause-sound : goal.returns-in-Ok-false-clause-sound
returns-in-Ok-false-clause-sound g c = λ again. seen (invariant_of-self-in-Ok-false g c again)
