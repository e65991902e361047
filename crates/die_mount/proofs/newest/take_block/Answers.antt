use Rattle.std.proofs.Common.{length, ap, ◌∙◌, sym}
use Rattle.die_mount.proofs.Blocks.{no_label, with_label}
use Rattle.die_mount.proofs.newest.take_block.Goals as goal
use Rattle.die_mount.proofs.newest.take_block.Goals.{in-Some, in_default}

pub loop-k-preserved : goal.loop-k-preserved
loop-k-preserved c = elim c.match-cells-k.branch [
  | in-Some w ↦ rw (w.map-is, w.serials-is) (with_label c.args.block c.loop-k.k c.args.cells.now c.args.map.now c.args.serials.now c.loop-k.map c.loop-k.serials
      c.loop-k.invariant c.loop-k-test.true w.in-Some.label w.in-Some.is w.take_label.new.map w.take_label.new.serials w.take_label.ensures.shape
      w.take_label.ensures.pages (sym (ap length w.serials-is) ∙ c.match-cells-k.auto.serials) w.take_label.ensures.before w.take_label.ensures.found)
  | in_default w ↦ rw (w.map-is, w.serials-is) (no_label c.args.block c.loop-k.k c.args.cells.now c.args.map.now c.args.serials.now c.loop-k.map c.loop-k.serials
      c.loop-k.invariant c.loop-k-test.true w.in_default.is)
]
