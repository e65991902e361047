use Rattle.std.proofs.Common.{ℕ, Option, Some, None, sym, subst}
use Rattle.slot_types.specs.declared.plans.TaskTimes.{TaskTimes}
use Rattle.flashplan_design.specs.Commons.{DividesAll, FindsDivisor, IsMultiple, IsMultipleFor}
use Rattle.flashplan_design.specs.declared.commons.Periods.TheVariants as periods
use Rattle.flashplan_design.proofs.Multiples.{through}
use Rattle.flashplan_design.proofs.commons.multiple_for_task.Goals as goal

both_periods : (of middle : ℕ) (task : TaskTimes) (found : Option ℕ) → DividesAll (IsMultiple of task.collect_period) middle
    → FindsDivisor (IsMultiple middle task.period) found → FindsDivisor (IsMultipleFor periods.All of task) found
both_periods of middle task None one none = λ n some few p. none n some few (one.all n (p.0, p.1.1), p.1.0)
both_periods of middle task (Some m) one other = record {
  some = other.some;
  few = other.few;
  own = (through of middle m one.own.0 other.own.0, (other.own.1, through task.collect_period middle m one.own.1 other.own.0));
  all = λ n p. other.all n (one.all n (p.0, p.1.1), p.1.0);
}

pub returns-in-All : goal.returns-in-All
returns-in-All c =
    subst (λ p. FindsDivisor (IsMultipleFor p c.args.of c.args.task.now) c.multiple_for-in-All.result) (sym c.in-All.is)
    (both_periods c.args.of c.in_ok-multiple.multiple c.args.task.now c.multiple_for-in-All.result c.in_ok-multiple.ensures
    c.multiple_for-in-All.ensures)
