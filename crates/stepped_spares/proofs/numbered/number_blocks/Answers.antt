use Rattle.std.proofs.Common.{sym, subst, arith}
use Rattle.std.specs.Prelude.{replicate}
use Rattle.std.proofs.lemmas.List.{get_or-replicate}
use Rattle.spare_blocks.specs.Parts.{free_part_block, lost_block}
use Rattle.spare_blocks.specs.Tables.{Table}
use Rattle.spare_blocks.proofs.Tabled.{AreNumberedTo, one_numbered, none_numbered, told_listed, told_unlisted}
use Rattle.stepped_spares.proofs.numbered.number_blocks.Goals as goal

pub loop-block-init : goal.loop-block-init
loop-block-init c =
    let free = replicate c.args.count free_part_block in
    subst (λ (t : Table). AreNumberedTo 0 c.args.bad.now c.args.all.now t free free) (sym c.new-table.ensures)
    (none_numbered c.args.bad.now c.args.all.now free)

pub loop-block-preserved : goal.loop-block-preserved
loop-block-preserved c =
    let i = c.loop-block.invariant in
    let k = c.loop-block.block-counter in
    let bad = c.args.bad.now in
    let listed = c.contains-listed.result in
    let free = replicate c.args.count free_part_block in
    one_numbered k bad c.args.all.now c.loop-block.table c.number_block.new.table free free free listed c.group_of-group.result i
    (c.in_ok-number_block.ensures.numbered free (get_or-replicate c.args.count _ free_part_block lost_block (omega (arith, i.uses, c.loop-block-test.true))))
    (told_listed bad k listed c.contains-listed.ensures.value) (told_unlisted bad k listed c.contains-listed.ensures.value)
    c.group_of-group.ensures
