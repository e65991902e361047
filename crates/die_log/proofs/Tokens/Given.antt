-- What the accounts take of the cells and the collections, after a log.
use Rattle.std.proofs.Common.{◌≡◌, ℕ, ◌<◌, true, Some, count_by}
use Rattle.slot_types.specs.declared.acts.Act.TheVariants as does
use Rattle.die_log.specs.Model.Log.{Log, Job, job_at, acts, is_waived}
use Rattle.die_log.specs.Model.Flash.{cells, block_at}
use Rattle.die_log.specs.Model.Work.{is_erase, is_copy_program, is_ready, victim_of}
use Rattle.die_log.specs.Model.Answers.{act_for}
use Rattle.die_log.specs.Invariants.SoundCells.{AreSoundCells, IsClosed}
use Rattle.die_log.specs.Invariants.TrueAccounts.{reserve_full}
use Rattle.die_log.specs.Invariants.TrueAccounts.{is_pending}
use Rattle.die_log.specs.Model.Start.{Start}

-- jobs stand at their numbers; cells are sound; a copy finds its collector's reserve above 0; an erase slot is of a
-- closed block, whose erase had as many slots as its collection carried; and a begun collection's block is closed
pub record CellsServe (start : Start) (past : Log) : Type 0 where
  pub numbered : (k : ℕ) (j : Job) → job_at past k ≡ Some j → j.number ≡ k
  pub sound : AreSoundCells start.plan (cells start past)
  pub few_copies : (j : Job) (page : ℕ) → job_at past j.number ≡ Some j → is_ready start.plan past j ≡ true → act_for start past j
      ≡ Some (does.CopyProgram page) → count_by is_copy_program (acts j.number past) < reserve_full start.plan
  pub erases : (j : Job) (b : ℕ) → job_at past j.number ≡ Some j → is_ready start.plan past j ≡ true → act_for start past j ≡ Some (does.Erase b)
      → IsClosed start.plan (cells start past) b × ((block_at (cells start past) b).erasing ≡ count_by is_erase (acts j.number past))
  pub victims_full : (j : Job) (b : ℕ) → job_at past j.number ≡ Some j → is_pending start.plan (λ n. acts n past) (is_waived past) j ≡ true
      → victim_of start j.number past ≡ Some b → IsClosed start.plan (cells start past) b
