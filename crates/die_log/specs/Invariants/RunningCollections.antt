-- What stands of an exact log: its jobs, its cells and its running collections.
use Rattle.std.specs.Prelude.{◌≡◌, ℕ, ◌+◌, ◌<◌, ◌≤◌, true, false, List, [], ◌∷◌, length, Some, Contains}
use Rattle.slot_types.specs.declared.acts.Act.TheVariants as does
use Rattle.die_log.specs.Model.Log.{Log, Job, jobs, acts, work}
use Rattle.die_log.specs.Model.Flash.{cells, block_at}
use Rattle.die_log.specs.Model.Work.{victim_of}
use Rattle.die_log.specs.Model.Answers.{is_running}
use Rattle.die_log.specs.Results.Legal.{changed_since}
use Rattle.die_log.specs.Invariants.SoundCells.{AreSoundCells, IsCollecting}
use Rattle.die_log.specs.Model.Start.{Start}

-- jobs are numbered by place
abbrev pub AreNumbered : ℕ → List Job → Type 0
AreNumbered k [] = Unit {0}
AreNumbered k (j ∷ js) = (j.number ≡ k) × AreNumbered (k + 1) js

-- a running collection, and its block
pub record RunsOnBlock (start : Start) (log : Log) (j : Job) (b : ℕ) : Type 0 where
  pub stands : Contains (jobs log) j
  pub running : is_running start.plan log j ≡ true
  pub victim : victim_of start j.number log ≡ Some b

-- a job did no more than its operations, and erased nothing
pub record KeepsToOps (log : Log) (j : Job) : Type 0 where
  pub within : work j.number log ≤ length j.ops
  pub unerased : (b : ℕ) → Contains (acts j.number log) (does.Erase b) → ⊥

-- cells are sound; running collections have blocks of their own; and who erases runs
pub record KeepsCollections (start : Start) (log : Log) : Type 0 where
  pub sound : AreSoundCells start.plan (cells start log)
  pub shown : (j : Job) → Contains (jobs log) j → is_running start.plan log j ≡ true → (b : ℕ) × RunsOnBlock start log j b
  pub collecting : (j : Job) (b : ℕ) → RunsOnBlock start log j b
      → IsCollecting start.plan (cells start log) (acts j.number log) (λ page. changed_since j.number page log) b
  pub different : (i j : Job) (b : ℕ) → RunsOnBlock start log i b → RunsOnBlock start log j b → i.number ≡ j.number
  pub owned : (b : ℕ) → 0 < (block_at (cells start log) b).erasing → (j : Job) × RunsOnBlock start log j b

pub record KeepsJobsAndCells (start : Start) (log : Log) : Type 0 where
  pub numbered : AreNumbered 0 (jobs log)
  pub of_jobs : (j : Job) → Contains (jobs log) j → j.collects ≡ false → KeepsToOps log j
  pub collects : KeepsCollections start log
