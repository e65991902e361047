-- A plan with times as one with terms: a job is due a period after its release, and comes at most once in a period.
use Rattle.std.specs.Prelude.{map}
use Rattle.slot_types.specs.declared.plans.TaskTimes.{TaskTimes}
use Rattle.slot_types.specs.declared.plans.Times.{Times}
use Rattle.demand_rules.specs.declared.terms.TaskTerms.{TaskTerms}
use Rattle.demand_rules.specs.declared.terms.Terms.{Terms}

abbrev pub as_task_terms : TaskTimes → TaskTerms
as_task_terms t = record {
  period = t.period;
  deadline = t.period;
  held = t.period;
  work = t.work;
  writes = t.writes;
  collect_period = t.collect_period;
  collect_deadline = t.collect_period;
}

abbrev pub as_terms : Times → Terms
as_terms times = record { tasks = map as_task_terms times.tasks }
