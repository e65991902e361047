use Rattle.std.proofs.Common.{◌≡◌, ◌+◌, ◌∙◌, List, ap, sym, subst}
use Rattle.std.specs.Prelude.{slice_get}
use Rattle.spare_blocks.specs.Parts.{PartBlock, part_block}
use Rattle.spare_blocks.specs.Powering.{IsSeen, mark_in, mark_at}
use Rattle.spare_blocks.proofs.Seen.{mark_of, one_cell}
use Rattle.spare_blocks.proofs.powering.see_block.Goals as goal

pub loop-page-preserved : goal.loop-page-preserved
loop-page-preserved g c =
    let i = c.loop-page.invariant in
    let k = c.loop-page.page in
    let b = part_block (g.D.WearingNand.blocks c.args.part.now) c.args.block in
    let mark : mark_at b k ≡ c.mark_in.result =
    sym (c.mark_in.ensures ∙ (ap mark_in c.in_ok-cell.ensures.cell
    ∙ (ap (λ (l : List PartBlock). mark_in (slice_get (part_block l c.args.block).cells k)) i.blocks ∙ mark_of b k))) in
    record {
      seen = subst (IsSeen b (k + 1)) (sym c.with_cell-seen.ensures) (one_cell b k c.mark_in.result c.loop-page.seen mark i.seen);
      blocks = c.in_ok-cell.ensures.blocks ∙ i.blocks;
      well = c.in_ok-cell.ensures.faults.well;
      shape = c.look.ensures.shape ∙ i.shape;
    }
