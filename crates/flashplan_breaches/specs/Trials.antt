-- Conditions that are tried in turn, over jobs and collections in their order.
use Rattle.std.specs.Prelude.{◌≡◌, ◌≢◌, ℕ, ◌<◌, ◌≤◌, List, length, count_by, All, AllPairs, Some, slice_get}
use Rattle.slot_types.specs.declared.plans.DiePlan.{DiePlan}
use Rattle.slot_types.specs.declared.plans.Times.{Times}
use Rattle.slot_types.specs.declared.limits.TheConstants.{MAX_JOBS}
use Rattle.plan_rules.specs.Keeping.{AreApart, IsPlanned, TaskArrival, IsCollectSlot, is_collection_at}
use Rattle.flashplan_breaches.specs.declared.coming.Arrived.{Arrived}
use Rattle.flashplan_breaches.specs.Arrivals.{arrival_of}

-- what stands at a place is planned, where `end` slots are carried out
abbrev pub PlannedAt : DiePlan → Times → ℕ → List Arrived → ℕ → Type 0
PlannedAt plan times end all place = (a : Arrived) → slice_get all place ≡ Some a → IsPlanned plan times end (arrival_of a)

-- what stands at two places, of which one comes before the other, is apart
abbrev pub ApartAt : Times → List Arrived → ℕ → ℕ → Type 0
ApartAt times all earlier later = (first second : Arrived) → slice_get all earlier ≡ Some first → slice_get all later ≡ Some second
    → AreApart times (arrival_of first) (arrival_of second)

-- what stands at a place is apart from all before it
abbrev pub ApartBefore : Times → List Arrived → ℕ → Type 0
ApartBefore times all later = (earlier : ℕ) → earlier < later → ApartAt times all earlier later

-- in a slot in which the plan has a collection of a task, one comes
abbrev pub IsCounted : Times → ℕ → List TaskArrival → ℕ → ℕ → Type 0
IsCounted times end all task slot = IsCollectSlot times end task slot → count_by (is_collection_at task slot) all ≡ 1

-- in such a slot `came` come, and not one
pub record IsMiscounted (times : Times) (end : ℕ) (all : List TaskArrival) (task slot came : ℕ) : Type 0 where
  pub planned : IsCollectSlot times end task slot
  pub counted : count_by (is_collection_at task slot) all ≡ came
  pub broken : came ≢ 1

-- each condition on jobs and collections holds
pub record KeepAll (plan : DiePlan) (times : Times) (end : ℕ) (all : List TaskArrival) : Type 0 where
  pub few : length all ≤ MAX_JOBS
  pub planned : All (IsPlanned plan times end) all
  pub apart : AllPairs (AreApart times) all
  pub collected : (task slot : ℕ) → task < length plan.caps → IsCounted times end all task slot
