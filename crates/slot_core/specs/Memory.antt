-- The memory of a die in which nothing has happened.
use Rattle.std.specs.Prelude.{◌≡◌, [], length}
use Rattle.slot_types.specs.declared.plans.DiePlan.{DiePlan}
use Rattle.plan_rules.specs.Bound.{MeetsBound}
use Rattle.event_log.specs.Notes.{Events}
use Rattle.job_table.specs.Table.{Table, empty_table}

-- a plan that may be used, a table of its tasks without jobs, and a log without events
pub record IsUnused (plan : DiePlan) (t : Table) (log : Events) : Type 0 where
  pub bound : MeetsBound plan
  pub jobs : t ≡ empty_table (length plan.caps)
  pub events : log.notes ≡ []
  pub marked : log.marked ≡ 0
