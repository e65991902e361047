-- Why a plan with terms doesn't pass its tests.
use Rattle.std.specs.Prelude.{ℕ, ◌≡◌, ◌≢◌, ◌+◌, ◌*◌, ◌<◌, ◌≤◌, ◌↔◌, List, length, slice_index, slice_index_or}
use Rattle.slot_types.specs.declared.plans.DiePlan.{DiePlan}
use Rattle.slot_types.specs.declared.limits.TheConstants.{MAX_SLOT}
use Rattle.demand_rules.specs.declared.terms.TaskTerms.{TaskTerms}
use Rattle.demand_rules.specs.declared.terms.Terms.{Terms}
use Rattle.demand_rules.specs.declared.limits.TermsNumber.{TermsNumber}
use Rattle.demand_rules.specs.declared.limits.TermsNumber.TheVariants as number
use Rattle.demand_rules.specs.declared.limits.LimitFault.{LimitFault}
use Rattle.demand_rules.specs.declared.limits.LimitFault.TheVariants as limit
use Rattle.demand_rules.specs.declared.demands.DemandFault.{DemandFault}
use Rattle.demand_rules.specs.declared.demands.DemandFault.TheVariants as demand
use Rattle.demand_rules.specs.declared.demands.DemandLoad.{DemandLoad}
use Rattle.demand_rules.specs.declared.supplies.SupplyFault.{SupplyFault}
use Rattle.demand_rules.specs.declared.supplies.Lack.{Lack}
use Rattle.demand_rules.specs.declared.supplies.Lack.TheVariants as lack
use Rattle.demand_rules.specs.declared.plans.TermsFault.{TermsFault}
use Rattle.demand_rules.specs.declared.plans.TermsFault.TheVariants as terms_fault
use Rattle.demand_rules.specs.Demand.{no_terms, demand_in, load, IsTaskTerms, HasTerms}
use Rattle.demand_rules.specs.Supply.{IsSustained}

-- a number of a task's terms is within its limits
abbrev pub IsWithin : TaskTerms → TermsNumber → Type 0
IsWithin t number.Period = 1 ≤ t.period
IsWithin t number.Deadline = 1 ≤ t.deadline
IsWithin t number.Held = (t.deadline ≤ t.held) × (t.held ≤ MAX_SLOT)
IsWithin t number.Work = (1 ≤ t.work) × (t.work ≤ MAX_SLOT)
IsWithin t number.Writes = t.writes ≤ t.work
IsWithin t number.CollectPeriod = (1 ≤ t.collect_period) × (t.collect_period ≤ MAX_SLOT)
IsWithin t number.CollectDeadline = (1 ≤ t.collect_deadline) × (t.collect_deadline ≤ t.collect_period)

-- the first task of which a number is out of its limits, and such a number
pub record IsFirstOut (tasks : List TaskTerms) (task : ℕ) (number : TermsNumber) : Type 0 where
  pub there : task < length tasks
  pub out : ¬ IsWithin (slice_index_or tasks task no_terms) number
  pub before : (earlier : ℕ) → earlier < task → IsTaskTerms (slice_index_or tasks earlier no_terms)

abbrev pub IsLimitFault : DiePlan → Terms → LimitFault → Type 0
IsLimitFault plan terms (limit.Tasks have) = (have ≡ length terms.tasks) × (length terms.tasks ≢ length plan.caps)
IsLimitFault plan terms (limit.Number task number) = IsFirstOut terms.tasks task number

-- each number of slots up to `limit` of which anything is asked has at least `slack` slots more than are asked of it
abbrev pub HasSlack : DiePlan → Terms → (limit slack : ℕ) → Type 0
HasSlack plan terms limit slack = (slots : ℕ) → slots ≤ limit → 1 ≤ demand_in plan terms slots → demand_in plan terms slots + slack ≤ slots

-- an interval of which anything is asked, and that is left with the fewest slots
pub record IsTightest (plan : DiePlan) (terms : Terms) (slots slack : ℕ) : Type 0 where
  pub within : slots ≤ MAX_SLOT
  pub asked : 1 ≤ demand_in plan terms slots
  pub left : demand_in plan terms slots + slack ≡ slots
  pub least : HasSlack plan terms MAX_SLOT slack

-- what is said of a plan that passes
pub record IsDemandLoad (plan : DiePlan) (terms : Terms) (found : DemandLoad) : Type 0 where
  pub long_run : found.load ≡ load plan terms
  pub tight : IsTightest plan terms found.tightest found.slack

-- the shortest interval of which more is asked than it has, and how much more
pub record IsFirstOverfull (plan : DiePlan) (terms : Terms) (slots excess : ℕ) : Type 0 where
  pub within : slots ≤ MAX_SLOT
  pub over : demand_in plan terms slots ≡ slots + excess
  pub some : 1 ≤ excess
  pub first : (fewer : ℕ) → fewer < slots → demand_in plan terms fewer ≤ fewer

abbrev pub IsDemandFault : DiePlan → Terms → DemandFault → Type 0
IsDemandFault plan terms (demand.Limits fault) = IsLimitFault plan terms fault
IsDemandFault plan terms (demand.Load found) = HasTerms plan terms × (found ≡ load plan terms) × (1000000 < found)
IsDemandFault plan terms (demand.Overfull slots excess) =
    HasTerms plan terms × (load plan terms ≤ 1000000) × IsFirstOverfull plan terms slots excess

-- a task's collections give it less than its jobs write; and with which collect periods they would give it enough
pub record LacksCollections (plan : DiePlan) (t : TaskTerms) (most : ℕ) : Type 0 where
  pub above : most < t.collect_period
  pub would_do : (collect_period : ℕ) → (t.writes * collect_period ≤ plan.alpha * t.period) ↔ (collect_period ≤ most)

-- they give it enough, and its cap is too small; and which caps would do
pub record LacksCap (plan : DiePlan) (cap : ℕ) (t : TaskTerms) (least : ℕ) : Type 0 where
  pub regained : t.writes * t.collect_period ≤ plan.alpha * t.period
  pub below : cap < least
  pub would_do : (cap : ℕ) → (t.writes * (t.period + t.held) + 2 * plan.alpha * t.period ≤ cap * t.period) ↔ (least ≤ cap)

abbrev pub IsLack : DiePlan → ℕ → TaskTerms → Lack → Type 0
IsLack plan cap t (lack.CollectPeriod most) = LacksCollections plan t most
IsLack plan cap t (lack.Cap least) = LacksCap plan cap t least

-- the first task that runs short
pub record IsFirstShort (plan : DiePlan) (caps : List ℕ) (tasks : List TaskTerms) (fault : SupplyFault) : Type 0 where
  pub there : fault.task < length caps
  pub short : IsLack plan (slice_index caps fault.task) (slice_index_or tasks fault.task no_terms) fault.lack
  pub before : (earlier : ℕ) → earlier < fault.task → IsSustained plan (slice_index caps earlier) (slice_index_or tasks earlier no_terms)

abbrev pub IsSupplyFault : DiePlan → Terms → SupplyFault → Type 0
IsSupplyFault plan terms fault = IsFirstShort plan plan.caps terms.tasks fault

abbrev pub IsTermsFault : DiePlan → Terms → TermsFault → Type 0
IsTermsFault plan terms (terms_fault.Demand fault) = IsDemandFault plan terms fault
IsTermsFault plan terms (terms_fault.Supply fault) = IsSupplyFault plan terms fault
