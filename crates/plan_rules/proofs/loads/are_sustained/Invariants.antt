use Rattle.std.proofs.Common.{ℕ, ◌<◌, get_or}
use Rattle.slot_types.specs.declared.plans.TaskTimes.{TaskTimes}
use Rattle.plan_rules.specs.Times.{IsSustained}
use Rattle.plan_rules.proofs.loads.are_sustained.Given as goal

abbrev pub invariant-loop-i : goal.invariant-loop-i
invariant-loop-i l = (k : ℕ) (cap : ℕ) (task : TaskTimes) → k < l.i
    → IsSustained l.plan l.common (get_or l.caps k cap) (get_or l.tasks k task)
