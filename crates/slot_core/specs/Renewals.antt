-- When a die may be renewed, and why it isn't.
use Rattle.std.specs.Prelude.{◌≡◌, ℕ, ◌⊎◌, ◌&&◌, ◌||◌, ◌==◌, nat_lt, not, Bool, true, false, Some, None, [], position, map, Contains}
use Rattle.slot_types.specs.declared.plans.DiePlan.{DiePlan}
use Rattle.flash_volume.specs.Cells.{is_worn_beyond}
use Rattle.die_log.specs.Model.Start.{Start, Block}
use Rattle.die_log.specs.Model.Log.{Log, Job, jobs, now, is_waived}
use Rattle.die_log.specs.Model.Flash.{cells}
use Rattle.die_log.specs.Model.Work.{is_done, ready, least}
use Rattle.die_log.specs.Model.Opening.{IsQuiet, CanBeErased, renewed_start}
use Rattle.slot_core.specs.Core.{Core}
use Rattle.slot_core.specs.declared.renewals.RenewalRefusal.{RenewalRefusal}
use Rattle.slot_core.specs.declared.renewals.RenewalRefusal.TheVariants as refusals

-- released after the present slot, and neither done nor waived
abbrev pub is_coming : DiePlan → Log → Job → Bool
is_coming plan log j = nat_lt (now log) j.release && (not (is_done plan log j) && not (is_waived log j.number))

-- the earlier release goes first, and of equal ones the smaller number
abbrev pub is_released_before : Job → Job → Bool
is_released_before i j = nat_lt i.release j.release || ((i.release == j.release) && nat_lt i.number j.number)

-- of those that are coming it is released first, and of equal releases it has the smallest number
pub record IsReleasedNext (plan : DiePlan) (log : Log) (j : Job) : Type 0 where
  pub stands : Contains (jobs log) j
  pub coming : is_coming plan log j ≡ true
  pub first : (i : Job) → Contains (jobs log) i → is_coming plan log i ≡ true → is_released_before i j ≡ false

-- The job or collection of this number is the next to be carried: of those that are released it has the least key of
-- deadline and number; or none is released, and it is released next.
pub record IsNextCarried (plan : DiePlan) (log : Log) (number : ℕ) : Type 0 where
  pub job : Job
  pub number_is : job.number ≡ number
  pub next : (least (ready plan log) ≡ Some job) ⊎ ((least (ready plan log) ≡ None) × IsReleasedNext plan log job)

-- a block that was erased more often could reach the greatest count of erases of a device in one life more
abbrev pub most_erases : ℕ
most_erases = 4293918718

-- the first block that was erased more often
abbrev pub IsFirstWorn : Start → Log → ℕ → Type 0
IsFirstWorn start log block = position (is_worn_beyond most_erases) (map (λ (b : Block). b.erases) (cells start log).blocks) ≡ Some block

-- why a die isn't renewed: a fault has stopped it; else this job or collection is the next to be carried; else this
-- block is worn out
abbrev pub RefusesRenewal : {N : Type 0} → Core N → RenewalRefusal → Type 0
RefusesRenewal core refusals.DieStopped = core.stopped ≡ true
RefusesRenewal core (refusals.NotQuiet job) = (core.stopped ≡ false) × IsNextCarried core.start.plan core.log job
RefusesRenewal core (refusals.WornOut block) = (core.stopped ≡ false) × IsQuiet core.start core.log × IsFirstWorn core.start core.log block

-- no fault has stopped the die, all that it accepted is done or was waived, and no block is worn out
pub record MayBeRenewed {N : Type 0} (core : Core N) : Type 0 where
  pub runs : core.stopped ≡ false
  pub quiet : IsQuiet core.start core.log
  pub unworn : CanBeErased (renewed_start core.start core.log)

-- The log starts anew at what stood after it, and as much is reserved again as ever was. The device, the pages and the
-- accounts stay.
abbrev pub renewed_core : {N : Type 0} → Core N → Core N
renewed_core core = record core { start = renewed_start core.start core.log; reserved = core.lasting; log = [] }
