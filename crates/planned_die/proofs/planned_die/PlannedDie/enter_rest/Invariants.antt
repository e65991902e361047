use Rattle.std.proofs.Common.{◌≡◌, ℕ, ◌+◌, ◌≤◌, false, None, length}
use Rattle.die_log.specs.Model.Log.{jobs}
use Rattle.die_log.specs.Model.Lives.{Lives}
use Rattle.planned_log.specs.Bursts.{jobs_of}
use Rattle.planned_die.specs.Planned.{Planned, HasLived}
use Rattle.planned_die.specs.PlannedCalls.{burst_refusal_in, HaveAsked}
use Rattle.planned_die.proofs.planned_die.PlannedDie.enter_rest.Given as goal

abbrev pub invariant-loop-left : goal.invariant-loop-left
invariant-loop-left g l = record {
  lived : (earlier : Lives) → HasLived l.fn.self earlier → HasLived l.self earlier;
  rest : (earlier : Lives) × HasLived l.self earlier × (1 ≤ length l.left → burst_refusal_in l.self earlier l.task l.left ≡ None);
  runs : l.self.core.stopped ≡ false;
  asked : (earlier : Lives) → HasLived l.fn.self earlier → (after : Planned g.row.N.Denot)
      → HaveAsked l.caller l.task (jobs_of l.left) earlier (length (jobs l.self.core.log)) l.self after
      → HaveAsked l.caller l.task (jobs_of l.fn.ops) earlier (length (jobs l.fn.self.core.log)) l.fn.self after;
  counts : l.entered + length (jobs_of l.left) ≡ length (jobs_of l.fn.ops);
  few : l.entered + length l.left ≤ length l.fn.ops;
}

abbrev pub decreases-loop-left : goal.decreases-loop-left
decreases-loop-left g l = length l.left
