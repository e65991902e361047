-- A die that keeps its plan goes on from a checkpoint, where nobody knows what its tasks asked for before.
use Rattle.std.specs.Prelude.{◌≡◌, ℕ, zero, suc, ◌+◌, ◌-◌, ◌<◌, ◌≤◌, List, [], ◌∷◌, ◌++◌, length, replicate, slice_index}
use Rattle.slot_types.specs.declared.events.Op.TheVariants as asks
use Rattle.slot_types.specs.declared.events.Event.TheVariants as events
use Rattle.slot_types.specs.declared.replies.Reply.TheVariants as replies
use Rattle.slot_types.specs.declared.plans.DiePlan.{DiePlan}
use Rattle.slot_types.specs.declared.plans.Shape.{Shape}
use Rattle.demand_rules.specs.declared.terms.Terms.{Terms}
use Rattle.demand_rules.specs.Demand.{terms_of, PassesDemand}
use Rattle.demand_rules.specs.Supply.{PassesSupply}
use Rattle.demand_rules.specs.Faults.{IsTermsFault}
use Rattle.die_checkpoint.specs.declared.checkpoint.Checkpoint.{Checkpoint}
use Rattle.die_checkpoint.specs.Fits.{Fits}
use Rattle.die_log.specs.Model.Log.{Log}
use Rattle.die_log.specs.Model.Lives.{Lives}
use Rattle.die_log.specs.Model.Start.{blank_page}
use Rattle.slot_core.specs.Resumptions.{RefusesResume, no_memory}
use Rattle.planned_die.specs.declared.memory.AskedJob.{AskedJob}
use Rattle.planned_die.specs.declared.lacks.Shortage.{Shortage}
use Rattle.planned_die.specs.declared.resumptions.PlanResumeRefusal.{PlanResumeRefusal}
use Rattle.planned_die.specs.declared.resumptions.PlanResumeRefusal.TheVariants as refuses
use Rattle.planned_die.specs.NewPlans.{IsSomeLife}

-- Pages

-- the fewest pages with which a task goes on: its cap, less alpha and what it may write in a period
abbrev pub needs : DiePlan → Terms → ℕ → ℕ
needs plan terms task = slice_index plan.caps task - (plan.alpha + (terms_of terms task).writes)

-- each task's balance has as many pages as it needs
abbrev pub HaveEnough : DiePlan → Terms → List ℕ → Type 0
HaveEnough plan terms balances = (task : ℕ) → task < length plan.caps → needs plan terms task ≤ slice_index balances task

-- the first task whose balance hasn't
pub record IsFirstShort (plan : DiePlan) (terms : Terms) (balances : List ℕ) (s : Shortage) : Type 0 where
  pub known : s.task < length plan.caps
  pub have_is : s.have ≡ slice_index balances s.task
  pub need_is : s.need ≡ needs plan terms s.task
  pub short : s.have < s.need
  pub first : (before : ℕ) → before < s.task → needs plan terms before ≤ slice_index balances before

-- a job is held for its deadline alone, and a life is long enough for it
abbrev pub AreDueAsHeld : Terms → ℕ → Type 0
AreDueAsHeld terms life = (task : ℕ) → task < length terms.tasks → let t = terms_of terms task in
    (t.held ≡ t.deadline) × (t.deadline ≤ life)

-- What was asked for before

-- what a task lacks to its cap beyond alpha pages: that is what it asked to write, not long ago
abbrev pub lack : DiePlan → List ℕ → ℕ → ℕ
lack plan balances task = slice_index plan.caps task - (slice_index balances task + plan.alpha)

-- a log with one more job, for which the task asked in slot 0: it writes all pages that the task lacks; where it lacks
-- none, the log alone
abbrev pub with_lack : ℕ → ℕ → Log → Log
with_lack task zero log = log
with_lack task (suc n) log = record {
  caller = 0;
  event = events.Submit task 0 0 (replicate (suc n) (asks.Write 0 blank_page));
  reply = replies.Taken 0;
} ∷ log

-- the log of what the first `n` tasks lack
abbrev pub lacked_by : DiePlan → List ℕ → ℕ → Log
lacked_by plan balances zero = []
lacked_by plan balances (suc n) = with_lack n (lack plan balances n) (lacked_by plan balances n)

-- The lives that a resumed die is taken to have had: one of no slots, in which each task asked to write what it lacks.
abbrev pub lacked : DiePlan → List ℕ → Lives
lacked plan balances = lacked_by plan balances (length plan.caps) ∷ []

-- and by task what the die remembers of that
abbrev pub lack_jobs : ℕ → List AskedJob
lack_jobs zero = []
lack_jobs (suc n) = record { at = 0; operations = suc n; writes = suc n } ∷ []

abbrev pub lacks_of : DiePlan → List ℕ → ℕ → List (List AskedJob)
lacks_of plan balances zero = []
lacks_of plan balances (suc n) = lacks_of plan balances n ++ lack_jobs (lack plan balances n) ∷ []

-- Refusals

-- Why a die that may go on doesn't keep its plan: the terms don't pass their tests; else there is no life of at most
-- `longest` slots; else this task has too few pages; or there was no memory.
abbrev pub RefusesPlanned : DiePlan → Terms → ℕ → List ℕ → PlanResumeRefusal → Type 0
RefusesPlanned plan terms longest balances (refuses.Die why) = why ≡ no_memory
RefusesPlanned plan terms longest balances (refuses.Terms fault) = IsTermsFault plan terms fault
RefusesPlanned plan terms longest balances refuses.NoLife =
    PassesDemand plan terms × PassesSupply plan terms × ((life : ℕ) → ¬ IsSomeLife plan terms longest life)
RefusesPlanned plan terms longest balances (refuses.NotStocked shortage) =
    PassesDemand plan terms × PassesSupply plan terms × ((life : ℕ) × IsSomeLife plan terms longest life) × IsFirstShort plan terms balances shortage

-- why none is resumed: as the die below isn't; or else so
abbrev pub RefusesPlanResume : DiePlan → Terms → ℕ → Checkpoint → Shape → PlanResumeRefusal → Type 0
RefusesPlanResume plan terms longest c shape (refuses.Die why) = RefusesResume plan c shape why
RefusesPlanResume plan terms longest c shape refusal = Fits plan c × RefusesPlanned plan terms longest c.balances refusal
