use Rattle.std.proofs.Common.{◌+◌, get_or, None, sym, subst}
use Rattle.spare_blocks.specs.Powering.{IsSeen}
use Rattle.spare_blocks.proofs.Seen.{one_cell}
use Rattle.stepped_spares.proofs.scan.seen_in.Goals as goal

pub loop-page-preserved : goal.loop-page-preserved
loop-page-preserved c = λ b tells.
    let k = c.loop-page.page in
    subst (IsSeen b (k + 1)) (sym c.with_cell-seen.ensures) (one_cell b k (get_or c.args.labels.now k None) c.loop-page.seen (sym (tells k)) (c.loop-page.invariant b tells))
