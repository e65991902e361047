use Rattle.std.proofs.Common.{rules, ◌≡◌, ◌+◌, ◌<◌, ◌++◌, ◌∷◌, [], List, length, true, ap, sym, ◌∙◌, arith}
use Rattle.std.proofs.lemmas.List.{length-set}
use Rattle.spare_blocks.specs.declared.cells.Cell.{Cell}
use Rattle.spare_blocks.specs.Parts.{PartBlock}
use Rattle.spare_blocks.specs.Wearing.{Wearing}
use Rattle.spare_blocks.proofs.WearingBlocks.{within, seen_at, sound_at, changed_seen, changed_sound}
use Rattle.spare_blocks.proofs.memory.WearingMemory.clear.Goals as goal

pub index_mut-requires : goal.index_mut-requires
index_mut-requires c =
    let lt = within c.self.inside.blocks.items c.args.block (rw (← c.self.view_is) at c.requires.whole) in
    search (rules, lt)

pub invariant_of-self : goal.invariant_of-self
invariant_of-self c =
    let lt = within c.self.inside.blocks.items c.args.block (rw (← c.self.view_is) at c.requires.whole) in
    let s = sound_at c.self.inside.blocks.items c.args.block c.index_mut.result.now c.index_mut.ensures.value lt c.self.inside.shape.pages c.self.inside.shape.erase_slots c.self.invariant.each in
    record {
      some_slots = c.self.invariant.some_slots;
      count = length-set c.self.inside.blocks.items c.args.block c.empty_block.new.block ∙ c.self.invariant.count;
      each = changed_sound c.self.inside.blocks.items c.args.block c.index_mut.result.now c.index_mut.ensures.value lt c.self.inside.shape.pages
          c.self.inside.shape.erase_slots c.empty_block.new.block c.self.invariant.each (omega (arith, ap (λ (l : List Cell). length l) c.empty_block.ensures.cells)) (omega (arith, s.room, c.empty_block.ensures.capacity))
          (omega (arith, c.self.invariant.some_slots, c.empty_block.ensures.erasing));
    }

pub returns : goal.returns
returns c =
    let lt = within c.self.inside.blocks.items c.args.block (rw (← c.self.view_is) at c.requires.whole) in
    let W : List PartBlock → Wearing = λ l. record {
      shape = c.self.inside.shape;
      blocks = l;
      next = c.self.inside.next;
      spent = c.self.inside.spent;
      faulted = c.self.inside.faulted;
    } in
    rw (← c.self.view_is) (ap W (changed_seen c.self.inside.blocks.items c.args.block c.index_mut.result.now c.index_mut.ensures.value lt
    c.empty_block.new.block (λ b. record { cells = []; erasing = 0; failed = c.args.failed }) (λ i. record {
      cells = c.empty_block.ensures.cells i;
      erasing = c.empty_block.ensures.erasing i;
      failed = c.empty_block.ensures.failed i;
    })))
