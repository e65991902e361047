use Rattle.std.proofs.Common.{ℕ, ◌<◌, get_or}
use Rattle.slot_types.specs.declared.plans.TaskTimes.{TaskTimes}
use Rattle.flashplan_fit.specs.Fits.{IsTimedTask}
use Rattle.flashplan_fit.specs.declared.datasheets.Need.{Need}
use Rattle.flashplan_fit.proofs.plan_checks.are_timed_tasks.Given as goal

abbrev pub invariant-loop-i : goal.invariant-loop-i
invariant-loop-i l = (k : ℕ) (need : Need) (task : TaskTimes) → k < l.i
    → IsTimedTask l.slot_us (get_or l.needs k need) (get_or l.tasks k task)
