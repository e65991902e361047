use Rattle.std.proofs.Common.{◌<◌, ◌∙◌, List, length, map, ap, refl, arith, None}
use Rattle.std.proofs.lemmas.List.{length-set}
use Rattle.std.proofs.lemmas.List.Elements.{All-set}
use Rattle.labelled_nand.specs.Memory.{MarkedCells, block_labels, device_block}
use Rattle.labelled_nand.specs.MemoryView.{IsSoundBlock, cells_of}
use Rattle.labelled_nand.proofs.Marking.{cells_long, cells_sound, programmed, programs, programs_label, sound, within, within_seen}
use Rattle.labelled_nand.proofs.memory.LabelledMemoryNand.program.Goals as goal

-- there is room in the block
pub program_cell-requires : goal.program_cell-requires
program_cell-requires c =
    let m = c.self.inside in
    let b = c.args.place.block in
    let r = c.index_mut.result.now in
    let h = rw (← c.self.view_is) at c.requires.next in
    let lt = within m.blocks.items b r c.index_mut.ensures.value h.in_range in
    let s = sound m.blocks.items b r c.index_mut.ensures.value m.shape.pages m.shape.erase_slots lt c.self.invariant.each in
    record { room = omega (arith, h.next, h.room, s.room, cells_long m.blocks.items b r c.index_mut.ensures.value lt) }

pub invariant_of-self : goal.invariant_of-self
invariant_of-self c =
    let m = c.self.inside in
    let b = c.args.place.block in
    let r = c.index_mut.result.now in
    let new = c.program_cell.new.block in
    let h = rw (← c.self.view_is) at c.requires.next in
    let lt = within m.blocks.items b r c.index_mut.ensures.value h.in_range in
    let s = sound m.blocks.items b r c.index_mut.ensures.value m.shape.pages m.shape.erase_slots lt c.self.invariant.each in
    let room : length r.cells.items < m.shape.pages = omega (arith, h.next, h.room, cells_long m.blocks.items b r c.index_mut.ensures.value lt) in
    record {
      limits = c.self.invariant.limits;
      count = length-set m.blocks.items b new ∙ c.self.invariant.count;
      each = All-set (IsSoundBlock m.shape.pages m.shape.erase_slots) m.blocks.items b new
          (cells_sound m.blocks.items b r c.index_mut.ensures.value new (record { bytes = c.args.bytes; label = None }) m.shape.pages m.shape.erase_slots s room
          c.program_cell.ensures.cells c.program_cell.ensures.capacity c.program_cell.ensures.erasing) c.self.invariant.each;
    }

pub returns-clause-blocks : goal.returns-clause-blocks
returns-clause-blocks c =
    let blocks = c.self.inside.blocks.items in
    let b = c.args.place.block in
    let r = c.index_mut.result.now in
    let h = rw (← c.self.view_is) at c.requires.next in
    let lt = within blocks b r c.index_mut.ensures.value h.in_range in
    rw (← c.self.view_is) (
    ap (λ (all : List MarkedCells). map device_block all) (programmed blocks b r c.index_mut.ensures.value c.program_cell.new.block
    (record { bytes = c.args.bytes; label = None }) lt c.program_cell.ensures.cells c.program_cell.ensures.erasing c.program_cell.ensures.erases)
    ∙ programs (map cells_of blocks) b (record { bytes = c.args.bytes; label = None }) (within_seen blocks b r c.index_mut.ensures.value h.in_range)
    )

pub returns-clause-ends : goal.returns-clause-ends
returns-clause-ends c =
    let blocks = c.self.inside.blocks.items in
    let b = c.args.place.block in
    let r = c.index_mut.result.now in
    let h = rw (← c.self.view_is) at c.requires.next in
    let lt = within blocks b r c.index_mut.ensures.value h.in_range in
    let e = ap (λ (all : List MarkedCells). map block_labels all) (programmed blocks b r c.index_mut.ensures.value c.program_cell.new.block
    (record { bytes = c.args.bytes; label = None }) lt c.program_cell.ensures.cells c.program_cell.ensures.erasing c.program_cell.ensures.erases)
    ∙ programs_label (map cells_of blocks) b (record { bytes = c.args.bytes; label = None }) (within_seen blocks b r c.index_mut.ensures.value h.in_range) in
    rw (← c.self.view_is) (record { ends_well = refl; labels = λ i. record { blocks = e i; next = c.self.inside.next } })
