use Rattle.std.proofs.Common.{◌∙◌, sym, arith}
use Rattle.std.proofs.lemmas.List.FromFn.{map-range_with_len_more}
use Rattle.die_mount.specs.Erases.{counts_with}
use Rattle.die_mount.proofs.erases.counts_of.Goals as goal

pub loop-block-preserved : goal.loop-block-preserved
loop-block-preserved c =
    c.in_ok-push.ensures.items
    ∙ rw (c.loop-block.invariant, c.count_with.ensures)
    (sym (map-range_with_len_more (counts_with c.args.told.now c.args.erased) 0 c.loop-block.block c.loop-block.block (omega arith)))
