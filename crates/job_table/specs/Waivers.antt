-- The waivers of a slot, and their taking back.
use Rattle.std.specs.Prelude.{◌≡◌, ℕ, Bool, true, false, List, [], ◌∷◌, Option, Some, None, slice_get}
use Rattle.std.specs.List.{AllByRecursion}
use Rattle.slot_types.specs.declared.replies.Waived.{Waived}
use Rattle.job_table.specs.declared.stages.Stage.TheVariants as stages
use Rattle.job_table.specs.Jobs.{JobRecord, is_waived, with_stage}
use Rattle.job_table.specs.Table.{Table, changed_at}

-- the jobs after a collection was waived
abbrev pub jobs_after_waiver : List JobRecord → Waived → List JobRecord
jobs_after_waiver jobs w = changed_at jobs w.number (with_stage (stages.Waived w.given))

-- the jobs after these collections were waived, one after the other
abbrev pub jobs_after_waivers : List JobRecord → List Waived → List JobRecord
jobs_after_waivers jobs [] = jobs
jobs_after_waivers jobs (w ∷ ws) = jobs_after_waivers (jobs_after_waiver jobs w) ws

-- the job of this number is there, and pending
pub record IsPendingAt (jobs : List JobRecord) (number : ℕ) : Type 0 where
  pub job : JobRecord
  pub is_at : slice_get jobs number ≡ Some job
  pub pending_is : job.stage ≡ stages.Pending

-- each of these was pending when it was waived
abbrev pub WerePending : List JobRecord → List Waived → Type 0
WerePending jobs [] = Unit {0}
WerePending jobs (w ∷ ws) = IsPendingAt jobs w.number × WerePending (jobs_after_waiver jobs w) ws

-- the jobs with a waiver taken back
abbrev pub without_waiver : List JobRecord → Waived → List JobRecord
without_waiver jobs w = changed_at jobs w.number (with_stage stages.Pending)

-- the jobs with these waivers taken back
abbrev pub without_waivers : List JobRecord → List Waived → List JobRecord
without_waivers jobs [] = jobs
without_waivers jobs (w ∷ ws) = without_waivers (without_waiver jobs w) ws

abbrev pub is_waived_one : Option JobRecord → Bool
is_waived_one None = false
is_waived_one (Some job) = is_waived job.stage

-- each of these is waived
abbrev pub AreWaived : List JobRecord → List Waived → Type 0
AreWaived jobs waived = AllByRecursion (λ w. is_waived_one (slice_get jobs w.number) ≡ true) waived

-- the die stops, and these waivers are taken back
abbrev pub stopped_table : Table → List Waived → Table
stopped_table table waived = record table { ended = true; jobs = without_waivers table.jobs waived }
