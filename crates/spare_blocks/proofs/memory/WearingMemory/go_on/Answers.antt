use Rattle.std.proofs.Common.{rules, ◌≡◌, ◌+◌, ◌<◌, ◌++◌, ◌∷◌, [], List, length, true, ap, sym, ◌∙◌, arith}
use Rattle.std.proofs.lemmas.List.{length-set}
use Rattle.spare_blocks.specs.declared.cells.Cell.{Cell}
use Rattle.spare_blocks.specs.Parts.{PartBlock}
use Rattle.spare_blocks.specs.Wearing.{Wearing}
use Rattle.spare_blocks.proofs.WearingBlocks.{within, seen_at, sound_at, changed_seen, changed_sound}
use Rattle.spare_blocks.proofs.memory.WearingMemory.go_on.Goals as goal

pub index_mut-requires : goal.index_mut-requires
index_mut-requires c =
    let lt = within c.self.inside.blocks.items c.args.block (rw (← c.self.view_is) at c.requires.whole) in
    search (rules, lt)

pub erase_on-requires : goal.erase_on-requires
erase_on-requires c =
    let lt = within c.self.inside.blocks.items c.args.block (rw (← c.self.view_is) at c.requires.whole) in
    let more = rw (← c.self.view_is) at c.requires.more in
    let seen = ap (λ (b : PartBlock). b.erasing) (seen_at c.self.inside.blocks.items c.args.block c.index_mut.result.now c.index_mut.ensures.value lt) in
    omega (arith, more, seen, c.self.ranges)

pub invariant_of-self : goal.invariant_of-self
invariant_of-self c =
    let lt = within c.self.inside.blocks.items c.args.block (rw (← c.self.view_is) at c.requires.whole) in
    let s = sound_at c.self.inside.blocks.items c.args.block c.index_mut.result.now c.index_mut.ensures.value lt c.self.inside.shape.pages c.self.inside.shape.erase_slots c.self.invariant.each in
    let more = rw (← c.self.view_is) at c.requires.more in
    let seen = ap (λ (b : PartBlock). b.erasing) (seen_at c.self.inside.blocks.items c.args.block c.index_mut.result.now c.index_mut.ensures.value lt) in
    record {
      some_slots = c.self.invariant.some_slots;
      count = length-set c.self.inside.blocks.items c.args.block c.erase_on.new.block ∙ c.self.invariant.count;
      each = changed_sound c.self.inside.blocks.items c.args.block c.index_mut.result.now c.index_mut.ensures.value lt c.self.inside.shape.pages
          c.self.inside.shape.erase_slots c.erase_on.new.block c.self.invariant.each (omega (arith, s.within, ap (λ (l : List Cell). length l) c.erase_on.ensures.cells)) (omega (arith, s.room, c.erase_on.ensures.capacity))
          (omega (arith, more, seen, c.erase_on.ensures.erasing));
    }

pub returns : goal.returns
returns c =
    let lt = within c.self.inside.blocks.items c.args.block (rw (← c.self.view_is) at c.requires.whole) in
    let W : List PartBlock → Wearing = λ l. record {
      shape = c.self.inside.shape;
      blocks = l;
      next = c.self.inside.next;
      spent = c.self.inside.spent;
      faulted = c.self.inside.faulted;
    } in
    rw (← c.self.view_is) (ap W (changed_seen c.self.inside.blocks.items c.args.block c.index_mut.result.now c.index_mut.ensures.value lt
    c.erase_on.new.block (λ b. record b { erasing = b.erasing + 1 }) (λ i. record {
      cells = c.erase_on.ensures.cells i;
      erasing = c.erase_on.ensures.erasing i;
      failed = c.erase_on.ensures.failed i;
    })))
