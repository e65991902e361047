-- The conditions on a single job or collection, one by one, and the first that doesn't hold.
use Rattle.std.specs.Prelude.{ℕ, ◌≡◌, ◌+◌, ◌%◌, ◌<◌, ◌≤◌, true, false, List, [], length, All}
use Rattle.slot_types.specs.declared.plans.DiePlan.{DiePlan}
use Rattle.slot_types.specs.declared.limits.TheConstants.{MAX_OPS, MAX_SLOT}
use Rattle.slot_types.specs.declared.events.Op.{Op}
use Rattle.slot_types.specs.Operations.{page_of}
use Rattle.plan_rules.specs.Keeping.{TaskArrival}
use Rattle.demand_rules.specs.declared.terms.Terms.{Terms}
use Rattle.demand_rules.specs.Demand.{terms_of}
use Rattle.demand_keeping.specs.declared.planning.JobRule.{JobRule}
use Rattle.demand_keeping.specs.declared.planning.JobRule.TheVariants as job
use Rattle.demand_keeping.specs.declared.planning.CollectionRule.{CollectionRule}
use Rattle.demand_keeping.specs.declared.planning.CollectionRule.TheVariants as collection

abbrev pub job_of : ℕ → ℕ → ℕ → ℕ → List Op → TaskArrival
job_of now task release due ops = record { at = now; collects = false; task = task; release = release; due = due; ops = ops }

abbrev pub collection_of : ℕ → ℕ → ℕ → ℕ → TaskArrival
collection_of now task release due = record { at = now; collects = true; task = task; release = release; due = due; ops = [] }

abbrev pub JobHolds : DiePlan → Terms → TaskArrival → JobRule → Type 0
JobHolds plan terms a job.Task = a.task < length plan.caps
JobHolds plan terms a job.Release = a.at ≤ a.release
JobHolds plan terms a job.Due = a.release + (terms_of terms a.task).deadline ≤ a.due
JobHolds plan terms a job.Held = a.due ≤ a.at + (terms_of terms a.task).held
JobHolds plan terms a job.LastDue = a.due ≤ MAX_SLOT
JobHolds plan terms a job.SomeOps = 1 ≤ length a.ops
JobHolds plan terms a job.FewOps = length a.ops ≤ MAX_OPS
JobHolds plan terms a job.Pages = All (λ op. page_of op < plan.logical) a.ops

abbrev pub CollectionHolds : DiePlan → Terms → ℕ → TaskArrival → CollectionRule → Type 0
CollectionHolds plan terms end a collection.Task = a.task < length plan.caps
CollectionHolds plan terms end a collection.Release = a.release ≡ a.at
CollectionHolds plan terms end a collection.Multiple = a.release % (terms_of terms a.task).collect_period ≡ 0
CollectionHolds plan terms end a collection.BeforeEnd = a.release < end
CollectionHolds plan terms end a collection.Due = a.due ≡ a.release + (terms_of terms a.task).collect_deadline
CollectionHolds plan terms end a collection.LastDue = a.due ≤ MAX_SLOT

-- the place of a condition in the order in which they are looked at
abbrev pub job_place : JobRule → ℕ
job_place job.Task = 0
job_place job.Release = 1
job_place job.Due = 2
job_place job.Held = 3
job_place job.LastDue = 4
job_place job.SomeOps = 5
job_place job.FewOps = 6
job_place job.Pages = 7

abbrev pub collection_place : CollectionRule → ℕ
collection_place collection.Task = 0
collection_place collection.Release = 1
collection_place collection.Multiple = 2
collection_place collection.BeforeEnd = 3
collection_place collection.Due = 4
collection_place collection.LastDue = 5

-- a condition doesn't hold, and each before it does
pub record IsFirstJobFault (plan : DiePlan) (terms : Terms) (a : TaskArrival) (rule : JobRule) : Type 0 where
  pub fails : ¬ JobHolds plan terms a rule
  pub before : (earlier : JobRule) → job_place earlier < job_place rule → JobHolds plan terms a earlier

pub record IsFirstCollectionFault (plan : DiePlan) (terms : Terms) (end : ℕ) (a : TaskArrival) (rule : CollectionRule) : Type 0 where
  pub fails : ¬ CollectionHolds plan terms end a rule
  pub before : (earlier : CollectionRule) → collection_place earlier < collection_place rule → CollectionHolds plan terms end a earlier
