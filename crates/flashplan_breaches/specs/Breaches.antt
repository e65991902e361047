-- Conditions of a plan with times that don't hold of events.
use Rattle.std.specs.Prelude.{◌≡◌, ◌≢◌, ℕ, ◌+◌, ◌<◌, ◌≤◌, ◌%◌, Bool, true, false, List, length, count_by, All, Some, slice_get}
use Rattle.slot_types.specs.declared.plans.DiePlan.{DiePlan}
use Rattle.slot_types.specs.declared.limits.TheConstants.{MAX_SLOT, MAX_JOBS}
use Rattle.slot_types.specs.declared.events.Event.{Event}
use Rattle.slot_types.specs.declared.plans.Times.{Times}
use Rattle.slot_types.specs.Operations.{page_of, writes}
use Rattle.plan_rules.specs.Times.{times_of}
use Rattle.plan_rules.specs.Keeping.{AreApart, TaskArrival, IsCollectSlot, arrivals, is_collection_at, slots}
use Rattle.flashplan_breaches.specs.declared.rules.JobRule.{JobRule}
use Rattle.flashplan_breaches.specs.declared.rules.JobRule.TheVariants as job
use Rattle.flashplan_breaches.specs.declared.rules.CollectionRule.{CollectionRule}
use Rattle.flashplan_breaches.specs.declared.rules.CollectionRule.TheVariants as collection
use Rattle.flashplan_breaches.specs.declared.breaches.Breach.{Breach}
use Rattle.flashplan_breaches.specs.declared.breaches.Breach.TheVariants as breach

-- a condition holds of a job
abbrev pub JobHolds : DiePlan → Times → TaskArrival → JobRule → Type 0
JobHolds plan times a job.Task = a.task < length plan.caps
JobHolds plan times a job.Release = a.release ≡ a.at
JobHolds plan times a job.Due = a.due ≡ a.release + (times_of times a.task).period
JobHolds plan times a job.LastDue = a.due ≤ MAX_SLOT
JobHolds plan times a job.SomeOps = 1 ≤ length a.ops
JobHolds plan times a job.FewOps = length a.ops ≤ (times_of times a.task).work
JobHolds plan times a job.Pages = All (λ op. page_of op < plan.logical) a.ops
JobHolds plan times a job.FewWrites = writes a.ops ≤ (times_of times a.task).writes

-- a condition holds of a collection, where `end` slots are carried out
abbrev pub CollectionHolds : DiePlan → Times → ℕ → TaskArrival → CollectionRule → Type 0
CollectionHolds plan times end a collection.Task = a.task < length plan.caps
CollectionHolds plan times end a collection.Release = a.release ≡ a.at
CollectionHolds plan times end a collection.Multiple = a.release % (times_of times a.task).collect_period ≡ 0
CollectionHolds plan times end a collection.BeforeEnd = a.release < end
CollectionHolds plan times end a collection.Due = a.due ≡ a.release + (times_of times a.task).collect_period
CollectionHolds plan times end a collection.LastDue = a.release + (times_of times a.task).collect_period ≤ MAX_SLOT

-- a condition doesn't hold of the job at this place
pub record BreaksJob (plan : DiePlan) (times : Times) (all : List TaskArrival) (place : ℕ) (rule : JobRule) : Type 0 where
  pub arrival : TaskArrival
  pub there : slice_get all place ≡ Some arrival
  pub job : arrival.collects ≡ false
  pub broken : ¬ JobHolds plan times arrival rule

-- a condition doesn't hold of the collection at this place
pub record BreaksCollection (plan : DiePlan) (times : Times) (end : ℕ) (all : List TaskArrival) (place : ℕ) (rule : CollectionRule) : Type 0 where
  pub arrival : TaskArrival
  pub there : slice_get all place ≡ Some arrival
  pub collects : arrival.collects ≡ true
  pub broken : ¬ CollectionHolds plan times end arrival rule

-- the job at a place isn't apart from an earlier one
pub record IsNearAt (times : Times) (all : List TaskArrival) (first : TaskArrival) (later : ℕ) : Type 0 where
  pub second : TaskArrival
  pub there : slice_get all later ≡ Some second
  pub broken : ¬ AreApart times first second

-- the jobs at two places, of which the first comes first, aren't apart
pub record BreaksPeriod (times : Times) (all : List TaskArrival) (earlier later : ℕ) : Type 0 where
  pub first : TaskArrival
  pub there : slice_get all earlier ≡ Some first
  pub order : earlier < later
  pub near : IsNearAt times all first later

-- in a slot in which the plan has a collection of the task, `came` come: none, or two or more
pub record BreaksCount (plan : DiePlan) (times : Times) (end : ℕ) (all : List TaskArrival) (task slot came : ℕ) : Type 0 where
  pub own : task < length plan.caps
  pub planned : IsCollectSlot times end task slot
  pub counted : count_by (is_collection_at task slot) all ≡ came
  pub broken : came ≢ 1

-- what is reported of jobs and collections is a condition that doesn't hold
abbrev pub BreaksAt : DiePlan → Times → ℕ → List TaskArrival → Breach → Type 0
BreaksAt plan times end all (breach.Job place rule) = BreaksJob plan times all place rule
BreaksAt plan times end all (breach.Collection place rule) = BreaksCollection plan times end all place rule
BreaksAt plan times end all (breach.Period earlier later) = BreaksPeriod times all earlier later
BreaksAt plan times end all (breach.Count task slot came) = BreaksCount plan times end all task slot came
BreaksAt plan times end all breach.TooMany = MAX_JOBS < length all
BreaksAt plan times end all breach.TooManySlots = MAX_SLOT < end

-- what is reported of events
abbrev pub IsBreach : DiePlan → Times → List Event → Breach → Type 0
IsBreach plan times all b = BreaksAt plan times (slots all) (arrivals 0 all) b
