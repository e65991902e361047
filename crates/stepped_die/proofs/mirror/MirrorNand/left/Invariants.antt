use Rattle.std.proofs.Common.{◌≡◌}
use Rattle.stepped_die.proofs.Naming.{filled_up_to}
use Rattle.stepped_die.proofs.mirror.MirrorNand.left.Given as goal

abbrev pub invariant-loop-block : goal.invariant-loop-block
invariant-loop-block l = record {
  shape : l.memory.shape ≡ l.plan.shape;
  blocks : l.memory.blocks ≡ filled_up_to l.checkpoint l.names l.block;
}
