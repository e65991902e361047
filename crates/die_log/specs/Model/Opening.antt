-- From which states a die's log may start, and when a die may be renewed.
use Rattle.std.specs.Prelude.{◌≡◌, ℕ, ◌+◌, ◌<◌, ◌⊎◌, length, None, sum_by, slice_index_or, Contains, IsTrue}
use Rattle.slot_types.specs.Places.{place_of}
use Rattle.slot_types.specs.declared.limits.TheConstants.{MAX_SLOT}
use Rattle.plan_rules.specs.Bound.{MeetsBound}
use Rattle.die_log.specs.Model.Log.{Log, Job, jobs, is_waived}
use Rattle.die_log.specs.Model.Flash.{block_at, cells, contents, free_in}
use Rattle.die_log.specs.Model.Start.{Start, blank_page}
use Rattle.die_log.specs.Model.Work.{is_done}
use Rattle.die_log.specs.Model.Accounts.{accounts}
use Rattle.die_log.specs.Invariants.SoundCells.{AreSoundCells}
use Rattle.die_log.specs.Invariants.TrueAccounts.{AccountsAgree}

-- The plan meets its bound. Cells fit the plan: each page is placed at a programmed cell, no two at one, at most one
-- block is open, and none is in erase. The accounts share out exactly the free pages: nothing is held, each reserve is
-- whole, and no task owns more than its cap. A page that is placed nowhere is blank.
pub record IsOpening (start : Start) : Type 0 where
  pub bound : MeetsBound start.plan
  pub sound : AreSoundCells start.plan start.cells
  pub idle : (b : ℕ) → (block_at start.cells b).erasing ≡ 0
  pub agree : AccountsAgree start.plan start.accounts (λ task. 0) (λ task. 0) 0 (sum_by (free_in start.plan) start.cells.blocks)
  pub pages : length start.contents ≡ start.plan.logical
  pub blank : (page : ℕ) → place_of start.cells.places page ≡ None → slice_index_or start.contents page blank_page ≡ blank_page

-- each job and each collection is done or was waived
abbrev pub IsQuiet : Start → Log → Type 0
IsQuiet start log = (j : Job) → Contains (jobs log) j → IsTrue (is_done start.plan log j) ⊎ IsTrue (is_waived log j.number)

-- what stands after a log, as the start of another one
abbrev pub renewed_start : Start → Log → Start
renewed_start start log = record {
  plan = start.plan;
  contents = contents start log;
  cells = cells start log;
  accounts = accounts start log;
}

-- no block's count of erases can reach the greatest that a device counts to, in all the slots that a die may have
abbrev pub CanBeErased : Start → Type 0
CanBeErased start = (b : ℕ) → (block_at start.cells b).erases + MAX_SLOT < 4294967295
