use Rattle.std.proofs.Common.{rules, ◌≡◌, ◌+◌, ◌<◌, ◌++◌, ◌∷◌, [], List, length, true, ap, sym, ◌∙◌, arith}
use Rattle.std.proofs.lemmas.List.{length-set, length_push}
use Rattle.spare_blocks.specs.declared.cells.Cell.{Cell}
use Rattle.spare_blocks.specs.Parts.{PartBlock}
use Rattle.spare_blocks.specs.Wearing.{Wearing}
use Rattle.spare_blocks.proofs.WearingBlocks.{within, seen_at, sound_at, changed_seen, changed_sound}
use Rattle.spare_blocks.proofs.memory.WearingMemory.fill.Goals as goal

pub index_mut-requires : goal.index_mut-requires
index_mut-requires c =
    let lt = within c.self.inside.blocks.items c.args.place.block ((rw (← c.self.view_is) at c.requires.free).whole) in
    search (rules, lt)

pub fill_cell-requires : goal.fill_cell-requires
fill_cell-requires c =
    let free = rw (← c.self.view_is) at c.requires.free in
    let lt = within c.self.inside.blocks.items c.args.place.block free.whole in
    let s = sound_at c.self.inside.blocks.items c.args.place.block c.index_mut.result.now c.index_mut.ensures.value lt c.self.inside.shape.pages c.self.inside.shape.erase_slots c.self.invariant.each in
    let seen = ap (λ (b : PartBlock). length b.cells) (seen_at c.self.inside.blocks.items c.args.place.block c.index_mut.result.now c.index_mut.ensures.value lt) in
    omega (arith, free.next, free.room, s.room, seen)

pub invariant_of-self : goal.invariant_of-self
invariant_of-self c =
    let lt = within c.self.inside.blocks.items c.args.place.block ((rw (← c.self.view_is) at c.requires.free).whole) in
    let s = sound_at c.self.inside.blocks.items c.args.place.block c.index_mut.result.now c.index_mut.ensures.value lt c.self.inside.shape.pages c.self.inside.shape.erase_slots c.self.invariant.each in
    record {
      some_slots = c.self.invariant.some_slots;
      count = length-set c.self.inside.blocks.items c.args.place.block c.fill_cell.new.block ∙ c.self.invariant.count;
      each = changed_sound c.self.inside.blocks.items c.args.place.block c.index_mut.result.now c.index_mut.ensures.value lt c.self.inside.shape.pages
          c.self.inside.shape.erase_slots c.fill_cell.new.block c.self.invariant.each (omega (arith, (rw (← c.self.view_is) at c.requires.free).next, (rw (← c.self.view_is) at c.requires.free).room, ap (λ (b : PartBlock). length b.cells) (seen_at c.self.inside.blocks.items c.args.place.block c.index_mut.result.now c.index_mut.ensures.value lt), ap (λ (l : List Cell). length l) c.fill_cell.ensures.cells, length_push c.index_mut.result.now.cells.items c.args.cell)) (omega (arith, s.room, c.fill_cell.ensures.capacity))
          (omega (arith, s.few_slots, c.fill_cell.ensures.erasing));
    }

pub returns : goal.returns
returns c =
    let lt = within c.self.inside.blocks.items c.args.place.block ((rw (← c.self.view_is) at c.requires.free).whole) in
    let W : List PartBlock → Wearing = λ l. record {
      shape = c.self.inside.shape;
      blocks = l;
      next = c.self.inside.next;
      spent = c.self.inside.spent;
      faulted = c.self.inside.faulted;
    } in
    rw (← c.self.view_is) (ap W (changed_seen c.self.inside.blocks.items c.args.place.block c.index_mut.result.now c.index_mut.ensures.value lt
    c.fill_cell.new.block (λ b. record b { cells = b.cells ++ c.args.cell ∷ [] }) (λ i. record {
      cells = c.fill_cell.ensures.cells i;
      erasing = c.fill_cell.ensures.erasing i;
      failed = c.fill_cell.ensures.failed i;
    })))
