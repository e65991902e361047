use Rattle.std.proofs.Common.{◌≡◌, ◌+◌, ◌≤◌, List, length, false, refl, ap, sym, ◌∙◌, arith}
use Rattle.std.proofs.lemmas.List.{length_push}
use Rattle.spare_blocks.specs.declared.cells.BlockUse.TheVariants as use_as
use Rattle.spare_blocks.specs.declared.cells.Ended.{Ended}
use Rattle.spare_blocks.specs.declared.cells.Ended.TheVariants as ended
use Rattle.spare_blocks.specs.Parts.{PartBlock, part_block, free_part_block, block_after_erase, blocks_after_erase}
use Rattle.spare_blocks.specs.Tables.{Table}
use Rattle.spare_blocks.proofs.PlanCells.{set_here, set_other}
use Rattle.spare_blocks.proofs.Prepared.{IsPreparing, one_more, not_listed}
use Rattle.spare_blocks.proofs.prepare.prepare.Goals as goal
use Rattle.spare_blocks.proofs.prepare.prepare.Goals.{then-contains+in_ok-add_other, else-contains+in_ok-erase+in-Failed+in_ok-add_other-in-Failed, else-contains+in_ok-erase+in-Done+then-given-blocks+in_ok-add_to_plan-in-Done, else-contains+in_ok-erase+in-Done+else-given-blocks+in_ok-add_other-in-Done}

pub loop-block-preserved : goal.loop-block-preserved
loop-block-preserved g c =
    let i = c.loop-block.invariant in
    let was : IsPreparing c.args.blocks c.args.bad.now c.loop-block.table (g.D.WearingNand.blocks c.loop-block.part) c.loop-block.given c.loop-block.block-counter c.shape-block-end.result.blocks =
    record { uses = i.uses; given_is = i.given; prepared = i.prepared; whole = i.whole } in
    let here : (part_block (g.D.WearingNand.blocks c.loop-block.part) c.loop-block.block-counter).failed ≡ false = i.whole c.loop-block.block-counter (omega arith) c.loop-block-test.true in
    let few : c.loop-block.given ≤ c.args.blocks = omega (arith, i.given, i.prepared.few) in
    elim c.if-contains.branch [
      | then-contains+in_ok-add_other w ↦
          let added = w.table-is ∙ w.in_ok-add_other.ensures.added in
          let r : IsPreparing c.args.blocks c.args.bad.now c.if-contains.table (g.D.WearingNand.blocks c.if-contains.part) c.if-contains.given (c.loop-block.block-counter + 1) c.shape-block-end.result.blocks =
          one_more c.args.blocks c.args.bad.now c.loop-block.table c.if-contains.table use_as.Bad (g.D.WearingNand.blocks c.loop-block.part) (g.D.WearingNand.blocks c.if-contains.part)
          c.loop-block.given c.if-contains.given c.loop-block.block-counter c.shape-block-end.result.blocks was (ap (λ (t : Table). t.uses) added)
          (w.given-is ∙ (i.given ∙ sym (ap (λ (t : Table). length t.blocks) added))) (omega (arith, w.given-is, few)) (λ y far. ap (λ p. part_block (g.D.WearingNand.blocks p) y) w.part-is)
          (λ other. absurd (other refl)) (λ listed. refl) in
          record { uses = r.uses; given = r.given_is; prepared = r.prepared; whole = r.whole; well = ap g.D.WearingNand.faulted w.part-is ∙ i.well; shape = ap g.D.WearingNand.shape_of w.part-is ∙ i.shape }
      | else-contains+in_ok-erase+in-Failed+in_ok-add_other-in-Failed w ↦
          let erased : g.D.WearingNand.blocks w.erase.new.self ≡ blocks_after_erase ended.Failed (g.D.WearingNand.blocks c.loop-block.part) c.loop-block.block-counter =
          w.in_ok-erase.ensures.blocks ∙ ap (λ (e : Ended). blocks_after_erase e (g.D.WearingNand.blocks c.loop-block.part) c.loop-block.block-counter) w.in-Failed.is in
          let added = w.table-is ∙ w.in_ok-add_other-in-Failed.ensures.added in
          let r : IsPreparing c.args.blocks c.args.bad.now c.if-contains.table (g.D.WearingNand.blocks c.if-contains.part) c.if-contains.given (c.loop-block.block-counter + 1) c.shape-block-end.result.blocks =
          one_more c.args.blocks c.args.bad.now c.loop-block.table c.if-contains.table use_as.Bad (g.D.WearingNand.blocks c.loop-block.part) (g.D.WearingNand.blocks c.if-contains.part)
          c.loop-block.given c.if-contains.given c.loop-block.block-counter c.shape-block-end.result.blocks was (ap (λ (t : Table). t.uses) added)
          (w.given-is ∙ (i.given ∙ sym (ap (λ (t : Table). length t.blocks) added))) (omega (arith, w.given-is, few)) (λ y far. ap (λ p. part_block (g.D.WearingNand.blocks p) y) w.part-is ∙ (ap (λ (l : List PartBlock). part_block l y) erased ∙ set_other (g.D.WearingNand.blocks c.loop-block.part) c.loop-block.block-counter y (block_after_erase ended.Failed) far))
          (λ other. absurd (other refl)) (λ listed. refl) in
          record { uses = r.uses; given = r.given_is; prepared = r.prepared; whole = r.whole; well = ap g.D.WearingNand.faulted w.part-is ∙ w.in_ok-erase.ensures.faults.well; shape = ap g.D.WearingNand.shape_of w.part-is ∙ (w.erase.ensures.shape ∙ i.shape) }
      | else-contains+in_ok-erase+in-Done+then-given-blocks+in_ok-add_to_plan-in-Done w ↦
          let erased : g.D.WearingNand.blocks w.erase.new.self ≡ blocks_after_erase ended.Done (g.D.WearingNand.blocks c.loop-block.part) c.loop-block.block-counter =
          w.in_ok-erase.ensures.blocks ∙ ap (λ (e : Ended). blocks_after_erase e (g.D.WearingNand.blocks c.loop-block.part) c.loop-block.block-counter) w.in-Done.is in
          let added = w.table-is ∙ w.in_ok-add_to_plan-in-Done.ensures.added in
          let r : IsPreparing c.args.blocks c.args.bad.now c.if-contains.table (g.D.WearingNand.blocks c.if-contains.part) c.if-contains.given (c.loop-block.block-counter + 1) c.shape-block-end.result.blocks =
          one_more c.args.blocks c.args.bad.now c.loop-block.table c.if-contains.table (use_as.InPlan (length c.loop-block.table.blocks)) (g.D.WearingNand.blocks c.loop-block.part) (g.D.WearingNand.blocks c.if-contains.part)
          c.loop-block.given c.if-contains.given c.loop-block.block-counter c.shape-block-end.result.blocks was (ap (λ (t : Table). t.uses) added)
          (omega (arith, w.given-is, i.given, ap (λ (t : Table). length t.blocks) added, length_push c.loop-block.table.blocks (length c.loop-block.table.uses))) (omega (arith, w.given-is, w.if-given-blocks.true)) (λ y far. ap (λ p. part_block (g.D.WearingNand.blocks p) y) w.part-is ∙ (ap (λ (l : List PartBlock). part_block l y) erased ∙ set_other (g.D.WearingNand.blocks c.loop-block.part) c.loop-block.block-counter y (block_after_erase ended.Done) far))
          (λ other. ap (λ p. part_block (g.D.WearingNand.blocks p) c.loop-block.block-counter) w.part-is ∙ (ap (λ (l : List PartBlock). part_block l c.loop-block.block-counter) erased ∙ set_here (g.D.WearingNand.blocks c.loop-block.part) c.loop-block.block-counter free_part_block here)) (λ listed. absurd (not_listed c.args.bad.now c.loop-block.block-counter (sym c.contains.ensures.value ∙ w.if-contains.false) listed)) in
          record { uses = r.uses; given = r.given_is; prepared = r.prepared; whole = r.whole; well = ap g.D.WearingNand.faulted w.part-is ∙ w.in_ok-erase.ensures.faults.well; shape = ap g.D.WearingNand.shape_of w.part-is ∙ (w.erase.ensures.shape ∙ i.shape) }
      | else-contains+in_ok-erase+in-Done+else-given-blocks+in_ok-add_other-in-Done w ↦
          let erased : g.D.WearingNand.blocks w.erase.new.self ≡ blocks_after_erase ended.Done (g.D.WearingNand.blocks c.loop-block.part) c.loop-block.block-counter =
          w.in_ok-erase.ensures.blocks ∙ ap (λ (e : Ended). blocks_after_erase e (g.D.WearingNand.blocks c.loop-block.part) c.loop-block.block-counter) w.in-Done.is in
          let added = w.table-is ∙ w.in_ok-add_other-in-Done.ensures.added in
          let r : IsPreparing c.args.blocks c.args.bad.now c.if-contains.table (g.D.WearingNand.blocks c.if-contains.part) c.if-contains.given (c.loop-block.block-counter + 1) c.shape-block-end.result.blocks =
          one_more c.args.blocks c.args.bad.now c.loop-block.table c.if-contains.table use_as.Spare (g.D.WearingNand.blocks c.loop-block.part) (g.D.WearingNand.blocks c.if-contains.part)
          c.loop-block.given c.if-contains.given c.loop-block.block-counter c.shape-block-end.result.blocks was (ap (λ (t : Table). t.uses) added)
          (w.given-is ∙ (i.given ∙ sym (ap (λ (t : Table). length t.blocks) added))) (omega (arith, w.given-is, few)) (λ y far. ap (λ p. part_block (g.D.WearingNand.blocks p) y) w.part-is ∙ (ap (λ (l : List PartBlock). part_block l y) erased ∙ set_other (g.D.WearingNand.blocks c.loop-block.part) c.loop-block.block-counter y (block_after_erase ended.Done) far))
          (λ other. ap (λ p. part_block (g.D.WearingNand.blocks p) c.loop-block.block-counter) w.part-is ∙ (ap (λ (l : List PartBlock). part_block l c.loop-block.block-counter) erased ∙ set_here (g.D.WearingNand.blocks c.loop-block.part) c.loop-block.block-counter free_part_block here)) (λ listed. absurd (not_listed c.args.bad.now c.loop-block.block-counter (sym c.contains.ensures.value ∙ w.if-contains.false) listed)) in
          record { uses = r.uses; given = r.given_is; prepared = r.prepared; whole = r.whole; well = ap g.D.WearingNand.faulted w.part-is ∙ w.in_ok-erase.ensures.faults.well; shape = ap g.D.WearingNand.shape_of w.part-is ∙ (w.erase.ensures.shape ∙ i.shape) }
    ]
