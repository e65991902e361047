use Rattle.std.proofs.Common.{◌≡◌, ◌∙◌, ◌+◌, ◌<◌, ◌≤◌, List, ap, length, map, subst, sym, refl, arith}
use Rattle.std.proofs.lemmas.Grind.{drop_more_same}
use Rattle.std.specs.Prelude.{vec_capacity}
use Rattle.std.proofs.lemmas.List.{drop-set-lt}
use Rattle.std.proofs.lemmas.List.Elements.{All-set}
use Rattle.spare_blocks.specs.Wearing.{Wearing, closed_part_block}
use Rattle.spare_blocks.specs.WearingView.{seen_block, IsSoundWearingBlock}
use Rattle.spare_blocks.specs.declared.memory.WearingBlock.{WearingBlock}
use Rattle.spare_blocks.proofs.WearingPower.{closed_more, closed_sound}
use Rattle.spare_blocks.proofs.memory.WearingMemory.close_all.Goals as goal

pub loop-block-preserved : goal.loop-block-preserved
loop-block-preserved c =
    let pages = c.self.inside.shape.pages in
    let slots = c.args.self.now.shape.erase_slots in
    let all = c.loop-block.block-items in
    let k = c.loop-block.block-index in
    let old = c.block-item.result in
    let new = c.close_block.new.block in
    let lt : k < length all = omega arith in
    let some : 0 < slots = omega (arith, c.self.invariant.some_slots, ap (λ (m : Wearing). m.shape.erase_slots) c.self.view_is) in
    let sound : IsSoundWearingBlock pages slots old = subst (IsSoundWearingBlock pages slots) (sym c.block-item.is) (c.loop-block.invariant.sound k old lt) in
    let closed : seen_block new ≡ closed_part_block pages (seen_block old) =
    c.close_block.ensures.closed ∙ ap (λ (b : WearingBlock). closed_part_block pages (seen_block b)) (sym c.block-item.is) in
    record {
      closed = closed_more pages k all c.deref_mut-block-items.result.now old new lt c.loop-block.invariant.left c.block-item.is
          closed c.loop-block.invariant.closed;
      left = drop-set-lt (k + 1) all k new (omega arith) ∙ drop_more_same all c.deref_mut-block-items.result.now k c.loop-block.invariant.left;
      sound = All-set (IsSoundWearingBlock pages slots) all k new
          (closed_sound pages slots old new some sound closed (c.close_block.ensures.capacity ∙ ap (λ (b : WearingBlock). vec_capacity b.cells) (sym c.block-item.is)))
          c.loop-block.invariant.sound;
    }
