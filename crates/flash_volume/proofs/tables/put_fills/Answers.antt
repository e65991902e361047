use Rattle.std.proofs.Common.{ℕ, map, sym, ◌∙◌, arith}
use Rattle.std.proofs.lemmas.List.{ext_get_or, get_or-map, length-map}
use Rattle.die_checkpoint.specs.Counts.{no_counts}
use Rattle.die_checkpoint.specs.declared.checkpoint.BlockCounts.{BlockCounts}
use Rattle.flash_volume.proofs.tables.put_fills.Goals as goal

pub returns : goal.returns
returns c =
    let filled : BlockCounts → ℕ = λ b. b.filled in
    let blocks = c.args.blocks.now in
    let so = c.loop-block.invariant in
    ext_get_or 0 c.loop-block.fills (map filled blocks) (so.len ∙ sym (length-map blocks filled))
    (λ k below. so.so_far k (omega (arith, below, so.len, c.loop-block-test.false))
    ∙ sym (get_or-map filled blocks k no_counts 0 (omega (arith, below, so.len))))
