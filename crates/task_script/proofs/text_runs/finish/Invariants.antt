use Rattle.std.specs.Vec.Iter.{into_iter_items}
use Rattle.task_script.specs.RanScripts.{dies_in}
use Rattle.task_script.proofs.Ending.{AreLeft}
use Rattle.task_script.proofs.text_runs.finish.Given as goal

abbrev pub invariant-loop-runner : goal.invariant-loop-runner
invariant-loop-runner g l = record {
  can_next : (goal.iterator-loop-runner g).can_next l.runner-iterator;
  is_finite : (goal.iterator-loop-runner g).is_finite l.runner-iterator;
  left : AreLeft (dies_in l.fn.runners.items) (into_iter_items l.runner-iterator) l.cores.items l.count;
}
