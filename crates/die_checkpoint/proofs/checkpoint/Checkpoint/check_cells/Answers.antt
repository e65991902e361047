use Rattle.die_checkpoint.proofs.Looking.{few_cells, in_cells}
use Rattle.die_checkpoint.proofs.checkpoint.Checkpoint.check_cells.Goals as goal

pub of_places-requires-clause-cells : goal.of_places-requires-clause-cells
of_places-requires-clause-cells c = rw c.as_slice.ensures (in_cells c.args.plan.now c.args.self.now c.requires.others)

pub of_places-requires-clause-few_cells : goal.of_places-requires-clause-few_cells
of_places-requires-clause-few_cells c = few_cells c.args.plan.now.shape c.requires.others.blocks.plan_is.bound.shape
