-- What a die's flash has to do with its log.
use Rattle.std.specs.Prelude.{◌≡◌, ℕ, List, length, map, Option, Some, None, option_map}
use Rattle.std.specs.List.{last_or}
use Rattle.slot_types.specs.declared.plans.DiePlan.{DiePlan}
use Rattle.slot_types.specs.declared.pages.Place.{Place}
use Rattle.slot_types.specs.declared.pages.PageData.{PageData}
use Rattle.plan_rules.specs.Accounts.{Accounts}
use Rattle.flash_die.specs.Flash as device
use Rattle.flash_volume.specs.declared.collection.Collection.{Collection}
use Rattle.flash_volume.specs.Running.{running_of}
use Rattle.flash_volume.specs.State.{State}
use Rattle.die_log.specs.Model.Log.{Log, Job, acts}
use Rattle.die_log.specs.Model.Flash.{Block, contents, cells}
use Rattle.die_log.specs.Model.Accounts.{accounts}
use Rattle.die_log.specs.Model.Answers.{buffer_after}
use Rattle.die_log.specs.Invariants.RunningCollections.{RunsOnBlock}
use Rattle.die_log.specs.Model.Start.{Start}

-- what a volume keeps: the accounts, the array of pages, where each page lies, the blocks, and by task the collection
-- that runs
pub record FlashState : Type 0 where
  pub tokens : Accounts
  pub pages : List PageData
  pub places : List (Option Place)
  pub blocks : List device.Block
  pub running : List (Option Collection)

abbrev pub flash_of : {N : Type 0} → (N → List device.Block) → State N → FlashState
flash_of blocks v = record { tokens = v.accounts; pages = v.pages; places = v.places; blocks = blocks v.device; running = v.running }

-- a device's block as a log counts it: its programmed pages, the slots of its running erase, its erases
abbrev pub counts_of : device.Block → Block
counts_of block = record { filled = length block.pages; erasing = block.erasing; erases = block.erases }

-- Collections

-- the page in the buffer of a collection
abbrev pub page_in : Collection → Option ℕ
page_in c = option_map (λ copied. copied.page) c.buffer

-- the page that a collection of a log holds: the one that it read with its last act
abbrev pub page_held : Log → ℕ → Option ℕ
page_held log number = buffer_after (last_or None (acts number log))

-- the collection that a volume runs for a task is this one of the log, with its block and the page that it holds
pub record IsRunningCollection (start : Start) (log : Log) (task : ℕ) (c : Collection) (j : Job) : Type 0 where
  pub runs : RunsOnBlock start log j c.victim
  pub task_is : j.task ≡ task
  pub holds : page_in c ≡ page_held log j.number

-- a volume runs the collections that the log has begun, and no other
pub record AreRunning (start : Start) (log : Log) (running : List (Option Collection)) : Type 0 where
  pub len : length running ≡ length start.plan.caps
  pub each : (task : ℕ) (c : Collection) → running_of running task ≡ Some c → (j : Job) × IsRunningCollection start log task c j
  pub all : (j : Job) (b : ℕ) → RunsOnBlock start log j b → (c : Collection) × (running_of running j.task ≡ Some c) × (c.victim ≡ b)

-- The whole

-- the accounts, the array of pages, the places, the blocks and the running collections are the log's
pub record IsFlashOf (start : Start) (log : Log) (f : FlashState) : Type 0 where
  pub accounts_are : f.tokens ≡ accounts start log
  pub pages_are : f.pages ≡ contents start log
  pub places_are : f.places ≡ (cells start log).places
  pub blocks_are : map counts_of f.blocks ≡ (cells start log).blocks
  pub running_are : AreRunning start log f.running
