-- What holds within a slot, after some collections were waived and before the head acts.
use Rattle.std.specs.Prelude.{◌≡◌, ◌≢◌, ℕ, ◌≤◌, ◌<◌, not, true, false, List, ◌++◌, length, map, filter, Some, None}
use Rattle.slot_types.specs.declared.plans.DiePlan.{DiePlan}
use Rattle.slot_types.specs.declared.limits.TheConstants.{MAX_SLOT}
use Rattle.slot_types.specs.declared.replies.SlotReply.{SlotReply}
use Rattle.slot_types.specs.declared.replies.Waived.{Waived}
use Rattle.plan_rules.specs.Bound.{MeetsBound}
use Rattle.plan_rules.specs.Accounts.{Accounts}
use Rattle.flash_volume.specs.declared.collection.Collection.{Collection}
use Rattle.flash_volume.specs.Running.{running_of}
use Rattle.job_table.specs.Table.{Table}
use Rattle.job_table.specs.Order.{IsHead}
use Rattle.job_table.specs.Waivers.{WerePending, jobs_after_waivers}
use Rattle.die_log.specs.Model.Log.{Log, Job, jobs, job_at, waived_collections, now}
use Rattle.die_log.specs.Model.Flash.{contents, cells}
use Rattle.die_log.specs.Model.Work.{ready}
use Rattle.die_log.specs.Model.Accounts.{accounts, after_waivers}
use Rattle.die_log.specs.Model.Answers.{IsExact, Choice, choice, choice_among, is_waivable, block_for}
use Rattle.die_log.specs.Results.Legal.{is_among}
use Rattle.die_log.specs.Invariants.RunningCollections.{RunsOnBlock}
use Rattle.slot_core.specs.Records.{record_with, job_records}
use Rattle.slot_core.specs.Device.{FlashState, counts_of, page_in, page_held, IsRunningCollection, AreRunning}
use Rattle.die_log.specs.Model.Start.{Start}
use Rattle.die_log.specs.Model.Opening.{IsOpening, CanBeErased}

-- The choice

-- those of the waiting that are not waived
abbrev pub without_waived : List Waived → List Job → List Job
without_waived ws waiting = filter (λ j. not (is_among j.number ws)) waiting

-- a choice after these waivers
abbrev pub choice_after : List Waived → Choice → Choice
choice_after ws c = record { waived = ws ++ c.waived; head = c.head }

-- so far these were waived, these are the accounts, and the choice goes on among the others that are ready
pub record ChoiceGoesOn (start : Start) (past : Log) (ws : List Waived) (a : Accounts) : Type 0 where
  pub rounds : ℕ
  pub enough : length (without_waived ws (ready start.plan past)) ≤ rounds
  pub rest : choice start past ≡ choice_after ws (choice_among start.plan past rounds a (without_waived ws (ready start.plan past)))

-- the reply of a slot that waived these, without a head
abbrev pub idle_reply : ℕ → List Waived → SlotReply
idle_reply slot ws = record { slot = slot; waived = ws; ran = None; finished = None }

-- The fields

-- the flash of a log whose next slot waived these, before its head acts
pub record IsWaivedFlash (start : Start) (past : Log) (ws : List Waived) (f : FlashState) : Type 0 where
  pub accounts_are : f.tokens ≡ after_waivers past ws (accounts start past)
  pub pages_are : f.pages ≡ contents start past
  pub places_are : f.places ≡ (cells start past).places
  pub blocks_are : map counts_of f.blocks ≡ (cells start past).blocks

-- the table within a slot that waived these
pub record IsWaivedTable (start : Start) (log : Log) (ws : List Waived) (t : Table) : Type 0 where
  pub tasks_are : t.tasks ≡ length start.plan.caps
  pub clock_is : t.clock ≡ now log
  pub running : t.ended ≡ false
  pub jobs_are : t.jobs ≡ map (record_with start log (waived_collections log ++ ws)) (jobs log)
  pub were_pending : WerePending (job_records start log) ws
  pub were : t.jobs ≡ jobs_after_waivers (job_records start log) ws

-- the slot is the log's next, and not the last
pub record IsSlot (start : Start) (log : Log) (present : ℕ) : Type 0 where
  pub exact : IsExact start log
  pub bound : IsOpening start
  pub left : CanBeErased start
  pub now_is : present ≡ now log
  pub few : now log < MAX_SLOT

-- within a slot, after these collections were waived
pub record InSlot (start : Start) (log : Log) (present : ℕ) (ws : List Waived) (t : Table) (f : FlashState) : Type 0 where
  pub slot : IsSlot start log present
  pub table : IsWaivedTable start log ws t
  pub goes_on : ChoiceGoesOn start log ws f.tokens
  pub flash : IsWaivedFlash start log ws f
  pub running : AreRunning start log f.running

-- The head

-- if it is a collection, it runs: on the block that the log gives it, with the page that it holds
pub record RunsHead (start : Start) (log : Log) (j : Job) (f : FlashState) (c : Collection) : Type 0 where
  pub runs : running_of f.running j.task ≡ Some c
  pub victim : block_for start log j ≡ Some c.victim
  pub holds : page_in c ≡ page_held log j.number

-- of the collections that run on the volume, those that aren't the head's are the log's
pub record OthersRun (start : Start) (log : Log) (j : Job) (f : FlashState) : Type 0 where
  pub len : length f.running ≡ length start.plan.caps
  pub each : (task : ℕ) (c : Collection) → (j.collects ≡ true → task ≢ j.task) → running_of f.running task ≡ Some c → (i : Job)
      × IsRunningCollection start log task c i
  pub all : (i : Job) (b : ℕ) → i.number ≢ j.number → RunsOnBlock start log i b → (j.collects ≡ true → i.task ≢ j.task)
      × ((c : Collection) × (running_of f.running i.task ≡ Some c) × (c.victim ≡ b))

-- this job or collection has the slot, in which these were waived
pub record IsHeadInSlot (start : Start) (log : Log) (present : ℕ) (ws : List Waived) (t : Table) (f : FlashState) (n : ℕ) : Type 0 where
  pub slot : IsSlot start log present
  pub table : IsWaivedTable start log ws t
  pub goes_on : ChoiceGoesOn start log ws f.tokens
  pub flash : IsWaivedFlash start log ws f
  pub head : IsHead t n
  pub job : Job
  pub at : job_at log n ≡ Some job
  pub unwaivable : is_waivable start.plan log f.tokens job ≡ false
  pub runs : job.collects ≡ true → (c : Collection) × RunsHead start log job f c
  pub others : OthersRun start log job f
