use Rattle.std.proofs.Common.{rules, ◌≡◌, ◌≤◌, length, refl, ap, arith}
use Rattle.slot_types.specs.Shapes.{IsShape}
use Rattle.spare_blocks.specs.Spares.{plan_shape}
use Rattle.spare_blocks.specs.declared.blocks.Health.TheVariants as health
use Rattle.spare_blocks.proofs.Prepared.{fresh_on}
use Rattle.spare_blocks.proofs.blocks.SpareBlocks.new.Goals as goal

pub returns-clause-fresh : goal.returns-clause-fresh
returns-clause-fresh g c =
    let same : record { blocks = c.args.blocks; pages = c.shape-whole.result.pages; erase_slots = c.shape-whole.result.erase_slots }
    ≡ plan_shape c.args.blocks (g.D.WearingNand.shape_of c.args.part) = ap (plan_shape c.args.blocks) c.shape-whole.ensures in
    let limits : IsShape (plan_shape c.args.blocks c.shape-whole.result) = search rules in
    let enough : c.args.blocks ≤ length c.in_ok-table.table.blocks = omega (arith, c.if-count-blocks.false, c.count.ensures.count) in
    rw c.table.view_is (fresh_on g.D.WearingNand.blocks (record {
      part = c.prepare.new.part;
      shape = record { blocks = c.args.blocks; pages = c.shape-whole.result.pages; erase_slots = c.shape-whole.result.erase_slots };
      table = c.in_ok-table.table;
      erases = c.in_ok-vec.field-0.items;
      health = health.Working;
      failures = 0;
    }) (plan_shape c.args.blocks (g.D.WearingNand.shape_of c.args.part)) c.args.bad.now c.count.ensures.sound c.in_ok-table.ensures.prepared enough same
    (rw (← c.shape-whole.ensures) limits) refl (c.in_ok-vec.ensures.items_if_clones_equal (λ _ same. same)) refl)
