-- Which logs events leave, and what a plan with times promises of them.
use Rattle.std.specs.Prelude.{◌≡◌, ℕ, ◌⊎◌, ◌<◌, ◌≤◌, ◌%◌, List, [], ◌∷◌, ◌++◌, length, Contains, IsTrue, pos, ◌≤ℤ◌}
use Rattle.slot_types.specs.Arrivals.{IsArrival}
use Rattle.slot_types.specs.declared.plans.DiePlan.{DiePlan}
use Rattle.slot_types.specs.declared.plans.Times.{Times}
use Rattle.plan_rules.specs.Times.{times_of}
use Rattle.slot_types.specs.declared.events.Event.{Event}
use Rattle.slot_types.specs.declared.replies.Reply.{Reply}
use Rattle.die_log.specs.Model.Log.{Log, Job, jobs, now, is_waived}
use Rattle.die_log.specs.Model.Work.{is_done, lateness_of}
use Rattle.die_log.specs.Model.Answers.{answer, IsAccepted, after_call}
use Rattle.die_log.specs.Model.Start.{Start}

-- the events of a log, in their order
abbrev pub events_of_log : Log → List Event
events_of_log [] = []
events_of_log (e ∷ past) = events_of_log past ++ e.event ∷ []

-- the log has one more entry, for this event
abbrev pub Adds : Event → Log → Log → Type 0
Adds event past log = (caller : ℕ) × (reply : Reply) × (log ≡ record { caller = caller; event = event; reply = reply } ∷ past)

-- the log that events leave after `past`: in their order each is an entry, except for jobs and collections that were
-- refused
abbrev pub AreEntered : List Event → Log → Log → Type 0
AreEntered [] past log = log ≡ past
AreEntered (event ∷ rest) past log = (next : Log) × (Adds event past next ⊎ (IsArrival event × (next ≡ past))) × AreEntered rest next log

-- what is due by now is done or was waived, and nothing is done late
pub record IsInTime (plan : DiePlan) (log : Log) : Type 0 where
  pub due_by_now : (j : Job) → Contains (jobs log) j → j.due ≤ now log → IsTrue (is_done plan log j) ⊎ IsTrue (is_waived log j.number)
  pub never_late : (j : Job) → Contains (jobs log) j → IsTrue (is_done plan log j) → lateness_of log j ≤ℤ pos 0

-- none of these calls, made one after the other, is refused
abbrev pub AreAccepted : Start → Log → List (ℕ × Event) → Type 0
AreAccepted start past [] = Unit {0}
AreAccepted start past (call ∷ calls) = IsAccepted (answer start past call.1) × AreAccepted start (after_call start past call) calls

-- a moment at which the periods end: all that was accepted is due by now, and the slot is a multiple of every collect
-- period
pub record IsAtPeriodEnd (plan : DiePlan) (times : Times) (log : Log) : Type 0 where
  pub due_by_now : (j : Job) → Contains (jobs log) j → j.due ≤ now log
  pub multiple : (task : ℕ) → task < length plan.caps → now log % (times_of times task).collect_period ≡ 0
