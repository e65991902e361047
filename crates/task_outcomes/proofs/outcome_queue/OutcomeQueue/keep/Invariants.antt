use Rattle.std.proofs.Common.{◌≡◌, length}
use Rattle.task_outcomes.specs.Queues.{with_outcome}
use Rattle.task_outcomes.specs.Rings.{with_reads}
use Rattle.task_outcomes.proofs.outcome_queue.OutcomeQueue.keep.Given as goal

abbrev pub invariant-loop-self : goal.invariant-loop-self
invariant-loop-self l = with_outcome (with_reads l.job l.reads) l.self ≡ with_outcome (with_reads l.job l.reads) l.fn.self

abbrev pub decreases-loop-self : goal.decreases-loop-self
decreases-loop-self l = length l.self.kept
