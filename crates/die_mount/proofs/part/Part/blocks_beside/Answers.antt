use Rattle.std.proofs.Common.{◌≡◌, ◌∙◌, ◌+◌, ◌++◌, ◌∷◌, [], ap, sym, length, arith, ℕ}
use Rattle.die_checkpoint.specs.declared.checkpoint.BlockCounts.{BlockCounts}
use Rattle.power_loss.proofs.Aside.Lists.{part_aside, part_other}
use Rattle.die_mount.specs.PartState.{PartState}
use Rattle.die_mount.proofs.Ending.{block_more}
use Rattle.die_mount.proofs.part.Part.blocks_beside.Goals.{then-block-aside, else-block-aside}
use Rattle.die_mount.proofs.part.Part.blocks_beside.Goals as goal

pub loop-block-preserved : goal.loop-block-preserved
loop-block-preserved c =
    let items = c.self.inside.blocks.items in
    let last = c.args.last in
    let aside = c.args.aside in
    let n = c.loop-block.block in
    let long : length items ≡ last + 1 = omega (arith, c.self.invariant.blocks, ap (λ (s : PartState). s.shape.blocks) c.self.view_is, c.requires.last) in
    let pushed = c.push_reserved.ensures.items
    ∙ (ap (λ (x : BlockCounts). c.loop-block.blocks.items ++ x ∷ []) (c.counts_of.ensures
    ∙ ap (λ (k : ℕ). record { filled = c.index.result.now.filled; erases = k + c.index.result.now.erases }) c.erases_before.ensures)) in
    let room = c.push_reserved.ensures.capacity ∙ c.loop-block.invariant.room in
    elim c.if-block-aside.branch [
      | then-block-aside w ↦ record {
        so_far = pushed
            ∙ block_more items c.args.self.now.cells c.args.before.now last aside n c.if-block-aside.from c.index.result.now c.loop-block.blocks.items
            (ap (λ (s : PartState). s.cells.blocks) c.self.view_is) long c.loop-block-test.true (omega (arith, w.from-is))
            (w.from-is ∙ sym (part_aside last aside n w.if-block-aside.true)) c.index.ensures c.loop-block.invariant.so_far;
        room = room;
      }
      | else-block-aside w ↦ record {
        so_far = pushed
            ∙ block_more items c.args.self.now.cells c.args.before.now last aside n c.if-block-aside.from c.index.result.now c.loop-block.blocks.items
            (ap (λ (s : PartState). s.cells.blocks) c.self.view_is) long c.loop-block-test.true (omega (arith, w.from-is, c.loop-block-test.true))
            (w.from-is ∙ sym (part_other last aside n w.if-block-aside.false)) c.index.ensures c.loop-block.invariant.so_far;
        room = room;
      }
    ]
