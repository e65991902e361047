use Rattle.std.proofs.Common.{◌≡◌, ◌∙◌, ◌+◌, ◌<◌, ◌≤◌, List, ap, length, map, subst, sym, refl, arith}
use Rattle.std.proofs.lemmas.Grind.{drop_more_same}
use Rattle.std.specs.Prelude.{vec_capacity}
use Rattle.std.proofs.lemmas.List.{drop-set-lt, with_items_is}
use Rattle.std.proofs.lemmas.List.Elements.{All-set}
use Rattle.labelled_nand.specs.Memory.{Marked, closed_cells, device_blocks, device_labels}
use Rattle.labelled_nand.specs.MemoryView.{IsSoundBlock, cells_of}
use Rattle.labelled_nand.specs.PoweredUp.{IsPoweredUp}
use Rattle.labelled_nand.specs.declared.memory.MarkedBlock.{MarkedBlock}
use Rattle.labelled_nand.proofs.Powering.{all_borne, cells_within, closed_more, closed_sound, powered_is}
use Rattle.labelled_nand.proofs.memory.LabelledMemory.power_comes.Goals as goal

pub loop-block-preserved : goal.loop-block-preserved
loop-block-preserved c =
    let pages = c.self.inside.shape.pages in
    let slots = c.args.self.now.shape.erase_slots in
    let all = c.loop-block.block-items in
    let k = c.loop-block.block-index in
    let old = c.block-item.result in
    let new = c.close_block.new.block in
    let lt : k < length all = omega arith in
    let some : 0 < slots = omega (arith, c.self.invariant.limits.some_slots, ap (λ (m : Marked). m.shape.erase_slots) c.self.view_is) in
    let sound : IsSoundBlock pages slots old = subst (IsSoundBlock pages slots) (sym c.block-item.is) (c.loop-block.invariant.sound k old lt) in
    let closed : cells_of new ≡ closed_cells pages (cells_of old) =
    c.close_block.ensures.closed ∙ ap (λ (b : MarkedBlock). closed_cells pages (cells_of b)) (sym c.block-item.is) in
    record {
      closed = closed_more pages k all c.deref_mut-block-items.result.now old new lt c.loop-block.invariant.left c.block-item.is
          closed c.loop-block.invariant.closed;
      left = drop-set-lt (k + 1) all k new (omega arith) ∙ drop_more_same all c.deref_mut-block-items.result.now k c.loop-block.invariant.left;
      sound = All-set (IsSoundBlock pages slots) all k new
          (closed_sound pages slots old new some sound closed (c.close_block.ensures.capacity ∙ ap (λ (b : MarkedBlock). vec_capacity b.cells) (sym c.block-item.is)))
          c.loop-block.invariant.sound;
    }

pub returns-clause-powered : goal.returns-clause-powered
returns-clause-powered c =
    let pages = c.self.inside.shape.pages in
    let start = c.deref_mut-block-items.result.now in
    let all = c.loop-block.block-items in
    let is : start ≡ c.self.inside.blocks.items = c.deref_mut-block-items.ensures.value in
    let m : Marked = record { shape = c.self.inside.shape; blocks = map cells_of all; next = 0 } in
    let past : length all ≤ c.loop-block.block-index = omega arith in
    let up : IsPoweredUp m.shape (device_blocks m) (device_labels m) 0 = record {
      closed = powered_is pages c.self.inside.shape.blocks c.loop-block.block-index all start (ap (λ (l : List MarkedBlock). length l) is ∙ c.self.invariant.count)
          c.loop-block.auto.block-items past c.loop-block.invariant.closed
          (cells_within pages c.self.inside.shape.erase_slots start (rw is c.self.invariant.each));
      borne = all_borne (map cells_of all);
      well = refl;
    } in
    let same : length all ≡ c.self.inside.blocks.len = omega (arith, ap (λ (l : List MarkedBlock). length l) is, c.self.inside.blocks.ok.0) in
    subst (λ (items : List MarkedBlock). IsPoweredUp m.shape (device_blocks (record { shape = m.shape; blocks = map cells_of items; next = 0 }))
    (device_labels (record { shape = m.shape; blocks = map cells_of items; next = 0 })) 0) (sym (with_items_is c.self.inside.blocks all same)) up
