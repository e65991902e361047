-- The first condition of a plan with terms that doesn't hold of events.
use Rattle.std.specs.Prelude.{ℕ, ◌≡◌, ◌<◌, ◌≤◌, List, All, length, take, slice_get, Some}
use Rattle.slot_types.specs.declared.plans.DiePlan.{DiePlan}
use Rattle.slot_types.specs.declared.limits.TheConstants.{MAX_JOBS, MAX_SLOT}
use Rattle.slot_types.specs.declared.events.Event.{Event}
use Rattle.slot_types.specs.declared.events.Event.TheVariants as events
use Rattle.plan_rules.specs.Keeping.{arrivals, slots}
use Rattle.demand_rules.specs.declared.terms.Terms.{Terms}
use Rattle.demand_rules.specs.Demand.{terms_of, HasTerms}
use Rattle.demand_rules.specs.Faults.{IsLimitFault}
use Rattle.demand_rules.specs.Keeping.{IsDemanded}
use Rattle.demand_keeping.specs.declared.windows.Count.TheVariants as count
use Rattle.demand_keeping.specs.declared.planning.JobRule.{JobRule}
use Rattle.demand_keeping.specs.declared.planning.CollectionRule.{CollectionRule}
use Rattle.demand_keeping.specs.declared.keeping.Breach.{Breach}
use Rattle.demand_keeping.specs.declared.keeping.Breach.TheVariants as breach
use Rattle.demand_keeping.specs.Planned.{IsFirstJobFault, IsFirstCollectionFault, job_of, collection_of}
use Rattle.demand_keeping.specs.Windows.{KeepsLimit}
use Rattle.demand_keeping.specs.Overfull.{IsFirstOverfull}
use Rattle.demand_keeping.specs.Collecting.{IsCollected, IsFirstWrong}

-- the first condition that doesn't hold of a job that comes in slot `now`, and of a collection
abbrev pub BreaksJob : DiePlan → Terms → ℕ → JobRule → Event → Type 0
BreaksJob plan terms now rule (events.Submit task release due ops) = IsFirstJobFault plan terms (job_of now task release due ops) rule
BreaksJob plan terms now rule (events.Collect task release due) = ⊥
BreaksJob plan terms now rule events.Slot = ⊥

abbrev pub BreaksCollection : DiePlan → Terms → ℕ → ℕ → CollectionRule → Event → Type 0
BreaksCollection plan terms end now rule (events.Submit task release due ops) = ⊥
BreaksCollection plan terms end now rule (events.Collect task release due) =
    IsFirstCollectionFault plan terms end (collection_of now task release due) rule
BreaksCollection plan terms end now rule events.Slot = ⊥

-- what is said of an event that comes in slot `now`
abbrev pub BreaksAlone : DiePlan → Terms → (end now index : ℕ) → Event → Breach → Type 0
BreaksAlone plan terms end now index event (breach.Job place rule) = (place ≡ index) × BreaksJob plan terms now rule event
BreaksAlone plan terms end now index event (breach.Collection place rule) = (place ≡ index) × BreaksCollection plan terms end now rule event
BreaksAlone plan terms end now index event _ = ⊥

-- what is said of the event at an index
pub record BreaksAt (P : ℕ → Event → Type 0) (all : List Event) (index : ℕ) : Type 0 where
  pub event : Event
  pub there : slice_get all index ≡ Some event
  pub broken : P (slots (take index all)) event

-- in no period a task asks for more operations than it may, nor for more writes
abbrev pub HasFewOperations : Terms → ℕ → List Event → Type 0
HasFewOperations terms task all = let t = terms_of terms task in KeepsLimit count.Operations task t.period t.work all

abbrev pub HasFewWrites : Terms → ℕ → List Event → Type 0
HasFewWrites terms task all = let t = terms_of terms task in KeepsLimit count.Writes task t.period t.writes all

-- of one task, in each period and each slot all is as planned
pub record IsTaskKept (terms : Terms) (task : ℕ) (all : List Event) : Type 0 where
  pub few_operations : HasFewOperations terms task all
  pub few_writes : HasFewWrites terms task all
  pub collected : IsCollected terms task all

-- of each task below this one
abbrev pub AreTasksKept : Terms → ℕ → List Event → Type 0
AreTasksKept terms task all = (earlier : ℕ) → earlier < task → IsTaskKept terms earlier all

-- the terms are the plan's, and there are no more slots, and no more jobs and collections, than there may be
pub record IsInLimits (plan : DiePlan) (terms : Terms) (all : List Event) : Type 0 where
  pub has : HasTerms plan terms
  pub few_slots : slots all ≤ MAX_SLOT
  pub few_arrivals : length (arrivals 0 all) ≤ MAX_JOBS

-- so it is, and each job and collection of the first events is by itself as planned
pub record ArePlanned (plan : DiePlan) (terms : Terms) (all first : List Event) : Type 0 where
  pub limits : IsInLimits plan terms all
  pub each : All (IsDemanded plan terms (slots all)) (arrivals 0 first)

-- each of all events is, and of the tasks below this one all is as planned
pub record AreKeptBelow (plan : DiePlan) (terms : Terms) (all : List Event) (task : ℕ) : Type 0 where
  pub is_task : task < length plan.caps
  pub planned : ArePlanned plan terms all all
  pub below : AreTasksKept terms task all

-- the first condition that doesn't hold: of terms, of the numbers of slots and of arrivals; of the first job or collection of
-- which one doesn't; of the first task of which one doesn't, its operations, its writes, its collections
abbrev pub IsFirstBreach : DiePlan → Terms → List Event → Breach → Type 0
IsFirstBreach plan terms all (breach.Limits fault) = IsLimitFault plan terms fault
IsFirstBreach plan terms all breach.Slots = HasTerms plan terms × (MAX_SLOT < slots all)
IsFirstBreach plan terms all breach.Arrivals = HasTerms plan terms × (slots all ≤ MAX_SLOT) × (MAX_JOBS < length (arrivals 0 all))
IsFirstBreach plan terms all (breach.Job index rule) =
    ArePlanned plan terms all (take index all) × BreaksAt (λ now event. BreaksJob plan terms now rule event) all index
IsFirstBreach plan terms all (breach.Collection index rule) =
    ArePlanned plan terms all (take index all) × BreaksAt (λ now event. BreaksCollection plan terms (slots all) now rule event) all index
IsFirstBreach plan terms all (breach.Operations task start) =
    let t = terms_of terms task in
    AreKeptBelow plan terms all task × IsFirstOverfull count.Operations task t.period t.work all start
IsFirstBreach plan terms all (breach.Writes task start) =
    let t = terms_of terms task in
    AreKeptBelow plan terms all task × HasFewOperations terms task all × IsFirstOverfull count.Writes task t.period t.writes all start
IsFirstBreach plan terms all (breach.Collections task slot) =
    AreKeptBelow plan terms all task × HasFewOperations terms task all × HasFewWrites terms task all × IsFirstWrong terms task all slot
