-- Events that keep to a plan with times.
use Rattle.std.specs.Prelude.{◌≡◌, ℕ, ◌+◌, ◌<◌, ◌≤◌, ◌%◌, ◌==◌, ◌&&◌, Bool, true, false, List, [], ◌∷◌, length}
use Rattle.std.specs.Prelude.{count_by, All, AllPairs, MatchBool}
use Rattle.slot_types.specs.declared.plans.DiePlan.{DiePlan}
use Rattle.slot_types.specs.declared.limits.TheConstants.{MAX_SLOT, MAX_JOBS}
use Rattle.slot_types.specs.declared.events.Op.{Op}
use Rattle.slot_types.specs.declared.events.Event.{Event}
use Rattle.slot_types.specs.declared.events.Event.TheVariants as events
use Rattle.slot_types.specs.declared.plans.Times.{Times}
use Rattle.slot_types.specs.Operations.{page_of, writes}
use Rattle.plan_rules.specs.Times.{times_of, HasTimes}

abbrev pub is_slot : Event → Bool
is_slot events.Slot = true
is_slot _ = false

-- how many slots are carried out
abbrev pub slots : List Event → ℕ
slots all = count_by is_slot all

-- a job or a collection, and the present slot when it comes
pub record TaskArrival : Type 0 where
  pub at : ℕ
  pub collects : Bool
  pub task : ℕ
  pub release : ℕ
  pub due : ℕ
  pub ops : List Op

-- the jobs and collections of events, the first of which comes in slot `now`
abbrev pub arrivals : ℕ → List Event → List TaskArrival
arrivals now [] = []
arrivals now (events.Submit task release due ops ∷ rest) =
    record { at = now; collects = false; task = task; release = release; due = due; ops = ops } ∷ arrivals now rest
arrivals now (events.Collect task release due ∷ rest) =
    record { at = now; collects = true; task = task; release = release; due = due; ops = [] } ∷ arrivals now rest
arrivals now (events.Slot ∷ rest) = arrivals (now + 1) rest

-- a job comes at its release, has a period until its deadline, and does no more than its task may ask for
pub record IsPlannedJob (plan : DiePlan) (times : Times) (a : TaskArrival) : Type 0 where
  pub task : a.task < length plan.caps
  pub comes : a.release ≡ a.at
  pub due : a.due ≡ a.release + (times_of times a.task).period
  pub due_limit : a.due ≤ MAX_SLOT
  pub some : 1 ≤ length a.ops
  pub few : length a.ops ≤ (times_of times a.task).work
  pub pages : All (λ op. page_of op < plan.logical) a.ops
  pub few_writes : writes a.ops ≤ (times_of times a.task).writes

-- a slot in which the plan has a collection of the task: a multiple of its collect period that is carried out, with a
-- collect period left until the last deadline that there may be
pub record IsCollectSlot (times : Times) (end task slot : ℕ) : Type 0 where
  pub multiple : slot % (times_of times task).collect_period ≡ 0
  pub before_end : slot < end
  pub due_limit : slot + (times_of times task).collect_period ≤ MAX_SLOT

-- a collection comes at its release, which is such a slot, and has a collect period until its deadline
pub record IsPlannedCollection (plan : DiePlan) (times : Times) (end : ℕ) (a : TaskArrival) : Type 0 where
  pub task : a.task < length plan.caps
  pub comes : a.release ≡ a.at
  pub slot : IsCollectSlot times end a.task a.release
  pub due : a.due ≡ a.release + (times_of times a.task).collect_period

abbrev pub IsPlanned : DiePlan → Times → ℕ → TaskArrival → Type 0
IsPlanned plan times end a = MatchBool a.collects (IsPlannedCollection plan times end a) (IsPlannedJob plan times a)

-- of two jobs of a task the later one is released a period after the earlier one, or later
abbrev pub AreApart : Times → TaskArrival → TaskArrival → Type 0
AreApart times earlier later =
    earlier.collects ≡ false → later.collects ≡ false → earlier.task ≡ later.task
    → earlier.release + (times_of times earlier.task).period ≤ later.release

-- a collection of the task that comes in this slot
abbrev pub is_collection_at : ℕ → ℕ → TaskArrival → Bool
is_collection_at task slot a = a.collects && (a.task == task) && (a.at == slot)

-- jobs and collections are all planned, and not too many; the jobs of a task are apart; and in each slot in which the
-- plan has a collection of a task, one comes
pub record KeepsPlan (plan : DiePlan) (times : Times) (all : List Event) : Type 0 where
  pub timed : HasTimes plan times
  pub few_slots : slots all ≤ MAX_SLOT
  pub few_arrivals : length (arrivals 0 all) ≤ MAX_JOBS
  pub planned : All (IsPlanned plan times (slots all)) (arrivals 0 all)
  pub apart : AllPairs (AreApart times) (arrivals 0 all)
  pub collected : (task slot : ℕ) → task < length plan.caps → IsCollectSlot times (slots all) task slot
      → count_by (is_collection_at task slot) (arrivals 0 all) ≡ 1
