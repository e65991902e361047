use Rattle.std.proofs.Common.{rules, ◌≡◌, ◌+◌, ◌∙◌, List, ap, sym, subst}
use Rattle.std.specs.Prelude.{Option, None}
use Rattle.spare_blocks.specs.declared.powering.Labelled.{Labelled}
use Rattle.spare_blocks.specs.Parts.{PartBlock, part_block}
use Rattle.spare_blocks.specs.Powering.{IsSeen}
use Rattle.spare_blocks.proofs.Prepared.{not_listed}
use Rattle.spare_blocks.proofs.Seen.{AreSeenTo, one_seen}
use Rattle.spare_blocks.proofs.Tabled.{is_in}
use Rattle.spare_blocks.proofs.powering.see_blocks.Goals as goal
use Rattle.spare_blocks.proofs.powering.see_blocks.Goals.{then-contains, else-contains+in_ok-seen}

pub loop-block-preserved : goal.loop-block-preserved
loop-block-preserved g c =
    let i = c.loop-block.invariant in
    let k = c.loop-block.block-counter in
    let pages = c.shape-shape.result.pages in
    let first = g.D.WearingNand.blocks c.args.part.now in
    let bad = c.args.bad.now in
    elim c.if-contains.branch [
      | then-contains w ↦ record {
        seen = subst (λ (l : List (Option Labelled)). AreSeenTo pages (k + 1) first bad l) (sym c.in_ok-push.ensures.items)
            (one_seen pages k first bad c.loop-block.all.items c.if-contains.seen i.seen (λ listed. w.seen-is)
            (λ off. absurd (off (is_in bad k (sym c.contains.ensures.value ∙ w.if-contains.true)))));
        blocks = ap g.D.WearingNand.blocks w.part-is ∙ i.blocks;
        well = ap g.D.WearingNand.faulted w.part-is ∙ i.well;
        shape = ap g.D.WearingNand.shape_of w.part-is ∙ i.shape;
      }
      | else-contains+in_ok-seen w ↦ record {
        seen = subst (λ (l : List (Option Labelled)). AreSeenTo pages (k + 1) first bad l) (sym c.in_ok-push.ensures.items)
            (one_seen pages k first bad c.loop-block.all.items c.if-contains.seen i.seen
            (λ listed. absurd (not_listed bad k (sym c.contains.ensures.value ∙ w.if-contains.false) listed))
            (λ off. subst (IsSeen (part_block first k) pages) (sym w.seen-is)
            (subst (λ (l : List PartBlock). IsSeen (part_block l k) pages w.in_ok-seen.seen) i.blocks w.in_ok-seen.ensures.seen)));
        blocks = ap g.D.WearingNand.blocks w.part-is ∙ (w.in_ok-seen.ensures.blocks ∙ i.blocks);
        well = ap g.D.WearingNand.faulted w.part-is ∙ w.in_ok-seen.ensures.faults.well;
        shape = ap g.D.WearingNand.shape_of w.part-is ∙ (w.see_block.ensures.shape ∙ i.shape);
      }
    ]
