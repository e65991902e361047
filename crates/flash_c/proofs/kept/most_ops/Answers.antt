use Rattle.std.proofs.Common.{arith}
use Rattle.flash_c.proofs.Rooms.{with_next, of_all}
use Rattle.flash_c.proofs.kept.most_ops.Goals as goal

pub loop-task-preserved : goal.loop-task-preserved
loop-task-preserved c = with_next c.as_slice-task-items.result.now c.loop-task.task-index _ c.loop-task.most c.max-most.result c.loop-task-test.true
    c.max-most.ensures c.loop-task.invariant

pub returns : goal.returns
returns c = record {
  room = record {
    job = c.loop-task.invariant.0;
    burst = of_all c.as_slice-task-items.result.now c.args.terms.now.tasks c.loop-task.task-index c.loop-task.most c.as_slice-task-items.ensures
        (omega (arith, c.loop-task-test.false)) c.loop-task.invariant.1;
  };
}
