use Rattle.std.proofs.Common.{ℕ, ◌≤◌, ◌<◌, slice_index}
use Rattle.planned_die.specs.Resuming.{needs}
use Rattle.planned_die.proofs.lacks.first_shortage.Given as goal

abbrev pub invariant-loop-task : goal.invariant-loop-task
invariant-loop-task l = (k : ℕ) → k < l.task → needs l.plan l.terms k ≤ slice_index l.balances k
