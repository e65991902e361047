-- The plan of a die with one number of a task's terms changed, and how far such a number may change.
use Rattle.std.specs.Prelude.{◌≡◌, ℕ, ◌+◌, ◌<◌, ◌≤◌, max, min, Option, Some, None, slice_set}
use Rattle.plan_rules.specs.Bound.{MeetsBound}
use Rattle.slot_types.specs.declared.limits.TheConstants.{MAX_SLOT}
use Rattle.slot_types.specs.declared.plans.DiePlan.{DiePlan}
use Rattle.demand_rules.specs.declared.terms.TaskTerms.{TaskTerms}
use Rattle.terms_texts.specs.Stores.{IsUsable}
use Rattle.terms_texts.specs.declared.stores.DieTerms.{DieTerms}
use Rattle.flashplan_terms_margins.specs.declared.margins.TaskMargins.{TaskMargins}
use Rattle.flashplan_terms_margins.specs.declared.numbers.Number.{Number}
use Rattle.flashplan_terms_margins.specs.declared.numbers.Number.TheVariants as number

-- terms with one of their numbers changed
abbrev pub with_number : Number → TaskTerms → ℕ → TaskTerms
with_number number.Work t n = record t { work = n }
with_number number.Writes t n = record t { writes = n }
with_number number.Period t n = record t { period = n }
with_number number.Deadline t n = record t { deadline = n }
with_number number.CollectDeadline t n = record t { collect_deadline = n }

-- a die with the terms of a task changed
abbrev pub with_own : DieTerms → ℕ → TaskTerms → DieTerms
with_own made task own = record made { terms = record made.terms { tasks = slice_set made.terms.tasks task own } }

-- two dies that differ in the terms of that task alone
abbrev pub IsAlike : ℕ → DieTerms → DieTerms → Type 0
IsAlike task one other = (own : TaskTerms) → with_own one task own ≡ with_own other task own

-- a plan with the cap of a task changed
abbrev pub with_cap : DiePlan → ℕ → ℕ → DiePlan
with_cap plan task cap = record plan { caps = slice_set plan.caps task cap }

-- two plans that differ in the cap of that task alone
abbrev pub IsAlikeButCap : ℕ → DiePlan → DiePlan → Type 0
IsAlikeButCap task one other = (cap : ℕ) → with_cap one task cap ≡ with_cap other task cap

-- with this cap of a task the plan meets its bound
abbrev pub MeetsWithCap : DiePlan → ℕ → ℕ → Type 0
MeetsWithCap plan task cap = MeetsBound (with_cap plan task cap)

-- with this number in a task's terms the die meets its bound, and passes its tests
abbrev pub Does : DieTerms → ℕ → TaskTerms → Number → ℕ → Type 0
Does made task own which n = IsUsable (with_own made task (with_number which own n))

-- it does with this number, up to `to`, and with the next greater one it doesn't
pub record IsMost (P : ℕ → Type 0) (from to n : ℕ) : Type 0 where
  pub above : from ≤ n
  pub below : n ≤ to
  pub does : P n
  pub beyond : n < to → ¬ P (n + 1)

-- it does with this number, from `from` on, and with the next smaller one it doesn't
pub record IsLeast (P : ℕ → Type 0) (from to n : ℕ) : Type 0 where
  pub above : from ≤ n
  pub below : n ≤ to
  pub does : P n
  pub beyond : (fewer : ℕ) → from ≤ fewer → fewer + 1 ≡ n → ¬ P fewer

-- such a number; there is none where it doesn't do with the number that asks for least
abbrev pub FindsMost : (ℕ → Type 0) → (from to : ℕ) → Option ℕ → Type 0
FindsMost P from to (Some n) = IsMost P from to n
FindsMost P from to None = from ≤ to → ¬ P from

abbrev pub FindsLeast : (ℕ → Type 0) → (from to : ℕ) → Option ℕ → Type 0
FindsLeast P from to (Some n) = IsLeast P from to n
FindsLeast P from to None = from ≤ to → ¬ P to

-- the greatest cap of a task with which the plan meets its bound; there is none where not even a cap of 1 would do
abbrev pub FindsCap : DiePlan → ℕ → Option ℕ → Type 0
FindsCap plan task found = FindsMost (MeetsWithCap plan task) 1 4294967294 found

-- how far each number of a task's terms may change, one at a time
pub record AreMargins (made : DieTerms) (task : ℕ) (own : TaskTerms) (m : TaskMargins) : Type 0 where
  pub work : FindsMost (Does made task own number.Work) (max own.writes 1) MAX_SLOT m.work
  pub writes : FindsMost (Does made task own number.Writes) 0 (min own.work MAX_SLOT) m.writes
  pub period : FindsLeast (Does made task own number.Period) 1 4294967295 m.period
  pub deadline : FindsLeast (Does made task own number.Deadline) 1 own.held m.deadline
  pub collect_deadline : FindsLeast (Does made task own number.CollectDeadline) 1 own.collect_period m.collect_deadline
