use Rattle.flash_volume.specs.Checkpoints.{AreClosedBelow}
use Rattle.flash_volume.proofs.tables.close_all.Given as goal

abbrev pub invariant-loop-block : goal.invariant-loop-block
invariant-loop-block l = AreClosedBelow l.shape.pages l.blocks l.map.places l.victims l.block
