use Rattle.std.proofs.Common.{◌+◌, ◌==◌, ◌∙◌, List, [], ap, sym, refl, map, arith}
use Rattle.std.specs.Prelude.{slice_set}
use Rattle.flash_die.specs.Flash.{Block, block_at}
use Rattle.power_loss.specs.Labels.{Shown}
use Rattle.labelled_nand.specs.Memory.{MarkedCells, block_labels, device_block}
use Rattle.labelled_nand.specs.MemoryView.{cells_of}
use Rattle.labelled_nand.proofs.Marking.{block_is, chosen_labels, erased, erases, erases_labels, numbered, within, within_seen}
use Rattle.labelled_nand.proofs.memory.LabelledMemoryNand.erase_slot.Goals as goal

pub erase_block-requires-clause-few_erases : goal.erase_block-requires-clause-few_erases
erase_block-requires-clause-few_erases c =
    let blocks = c.self.inside.blocks.items in
    let r = c.index_mut.result.now in
    let h = rw (← c.self.view_is) at c.requires.erasable in
    let lt = within blocks c.args.block r c.index_mut.ensures.value h.in_range in
    omega (arith, h.few_erases, ap (λ (s : Block). s.erases) (block_is blocks c.args.block r c.index_mut.ensures.value lt))

pub returns-clause-last : goal.returns-clause-last
returns-clause-last c =
    let m = c.self.inside in
    let r = c.index_mut.result.now in
    let h = rw (← c.self.view_is) at c.requires.erasable in
    let lt = within m.blocks.items c.args.block r c.index_mut.ensures.value h.in_range in
    rw (← c.self.view_is) (c.erase_block.ensures.last
    ∙ ap (λ (s : Block). s.erasing + 1 == m.shape.erase_slots) (sym (block_is m.blocks.items c.args.block r c.index_mut.ensures.value lt)))

pub returns-clause-blocks : goal.returns-clause-blocks
returns-clause-blocks c =
    let m = c.self.inside in
    let b = c.args.block in
    let r = c.index_mut.result.now in
    let h = rw (← c.self.view_is) at c.requires.erasable in
    let lt = within m.blocks.items b r c.index_mut.ensures.value h.in_range in
    let done = c.erase_block.ensures in
    rw (← c.self.view_is) (
    ap (λ (all : List MarkedCells). map device_block all) (erased m.blocks.items b r c.index_mut.ensures.value c.erase_block.new.block
    m.shape.erase_slots c.erase_block.result lt done.last done.cells done.erasing done.erases)
    ∙ erases m.shape.erase_slots (map cells_of m.blocks.items) b (within_seen m.blocks.items b r c.index_mut.ensures.value h.in_range)
    )

pub returns-clause-ends : goal.returns-clause-ends
returns-clause-ends c =
    let m = c.self.inside in
    let b = c.args.block in
    let r = c.index_mut.result.now in
    let h = rw (← c.self.view_is) at c.requires.erasable in
    let lt = within m.blocks.items b r c.index_mut.ensures.value h.in_range in
    let done = c.erase_block.ensures in
    let seen = map cells_of m.blocks.items in
    let e = ap (λ (all : List MarkedCells). map block_labels all) (erased m.blocks.items b r c.index_mut.ensures.value c.erase_block.new.block
    m.shape.erase_slots c.erase_block.result lt done.last done.cells done.erasing done.erases)
    ∙ erases_labels m.shape.erase_slots seen b (within_seen m.blocks.items b r c.index_mut.ensures.value h.in_range) in
    rw (← c.self.view_is) (record {
      ends_well = refl;
      labels = ap (λ (bs : Shown). numbered bs m.next) e
          ∙ chosen_labels ((block_at (map device_block seen) b).erasing + 1 == m.shape.erase_slots) (slice_set (map block_labels seen) b [])
          (map block_labels seen) m.next;
    })
