-- Events that keep to a plan with deadlines and bursts.
use Rattle.std.specs.Prelude.{◌≡◌, ℕ, ◌+◌, ◌<◌, ◌≤◌, ◌%◌, ◌==◌, ◌&&◌, not, nat_lt, nat_le, Bool, List, length}
use Rattle.std.specs.Prelude.{count_by, sum_by, All, MatchBool, if◌then◌else◌}
use Rattle.slot_types.specs.declared.plans.DiePlan.{DiePlan}
use Rattle.slot_types.specs.declared.limits.TheConstants.{MAX_SLOT, MAX_JOBS, MAX_OPS}
use Rattle.slot_types.specs.declared.events.Event.{Event}
use Rattle.slot_types.specs.Operations.{page_of, writes}
use Rattle.plan_rules.specs.Keeping.{TaskArrival, arrivals, slots, is_collection_at}
use Rattle.demand_rules.specs.declared.terms.Terms.{Terms}
use Rattle.demand_rules.specs.Demand.{terms_of, HasTerms}

-- a job comes at its release or before it, and has at least its deadline's slots; from its coming on, it has at most those
-- for which it may be held
pub record IsDemandedJob (plan : DiePlan) (terms : Terms) (a : TaskArrival) : Type 0 where
  pub task : a.task < length plan.caps
  pub comes : a.at ≤ a.release
  pub due : a.release + (terms_of terms a.task).deadline ≤ a.due
  pub soon : a.due ≤ a.at + (terms_of terms a.task).held
  pub due_limit : a.due ≤ MAX_SLOT
  pub some : 1 ≤ length a.ops
  pub few : length a.ops ≤ MAX_OPS
  pub pages : All (λ op. page_of op < plan.logical) a.ops

-- a slot in which the plan has a collection of the task: a multiple of its collect period that is carried out, with the
-- collection's slots left until the last deadline that there may be
pub record IsCollectSlot (terms : Terms) (end task slot : ℕ) : Type 0 where
  pub multiple : slot % (terms_of terms task).collect_period ≡ 0
  pub before_end : slot < end
  pub due_limit : slot + (terms_of terms task).collect_deadline ≤ MAX_SLOT

-- a collection comes at its release, which is such a slot
pub record IsDemandedCollection (plan : DiePlan) (terms : Terms) (end : ℕ) (a : TaskArrival) : Type 0 where
  pub task : a.task < length plan.caps
  pub comes : a.release ≡ a.at
  pub slot : IsCollectSlot terms end a.task a.release
  pub due : a.due ≡ a.release + (terms_of terms a.task).collect_deadline

abbrev pub IsDemanded : DiePlan → Terms → ℕ → TaskArrival → Type 0
IsDemanded plan terms end a = MatchBool a.collects (IsDemandedCollection plan terms end a) (IsDemandedJob plan terms a)

-- a job of the task that is released in these slots, the last one not among them; and one that comes in them
abbrev pub is_released_in : ℕ → ℕ → ℕ → TaskArrival → Bool
is_released_in task start end a = (not a.collects && (a.task == task)) && (nat_le start a.release && nat_lt a.release end)

abbrev pub comes_in : ℕ → ℕ → ℕ → TaskArrival → Bool
comes_in task start end a = (not a.collects && (a.task == task)) && (nat_le start a.at && nat_lt a.at end)

-- jobs and collections are all planned, and not too many; what is released of a task's jobs in any period has no more
-- operations than the task may ask for, and what comes of them no more writes; and in each slot in which the plan has a
-- collection of a task, one comes
pub record KeepsDemandPlan (plan : DiePlan) (terms : Terms) (all : List Event) : Type 0 where
  pub has : HasTerms plan terms
  pub few_slots : slots all ≤ MAX_SLOT
  pub few_arrivals : length (arrivals 0 all) ≤ MAX_JOBS
  pub planned : All (IsDemanded plan terms (slots all)) (arrivals 0 all)
  pub few_operations : (task slot : ℕ) → task < length plan.caps → let t = terms_of terms task in
      sum_by (λ a. if is_released_in task slot (slot + t.period) a then length a.ops else 0) (arrivals 0 all) ≤ t.work
  pub few_writes : (task slot : ℕ) → task < length plan.caps → let t = terms_of terms task in
      sum_by (λ a. if comes_in task slot (slot + t.period) a then writes a.ops else 0) (arrivals 0 all) ≤ t.writes
  pub collected : (task slot : ℕ) → task < length plan.caps → IsCollectSlot terms (slots all) task slot
      → count_by (is_collection_at task slot) (arrivals 0 all) ≡ 1
