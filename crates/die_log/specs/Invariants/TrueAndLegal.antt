-- What the accounts of an exact log come to, and that it is legal.
use Rattle.std.specs.Prelude.{◌≡◌, ℕ, ◌+◌, ◌≤◌, true, Some}
use Rattle.die_log.specs.Model.Log.{Log, Job, job_at, acts, is_waived}
use Rattle.die_log.specs.Model.Flash.{cells, valid}
use Rattle.die_log.specs.Model.Work.{victim_of}
use Rattle.die_log.specs.Results.Legal.{IsLegal}
use Rattle.die_log.specs.Invariants.TrueAccounts.{reserve_full}
use Rattle.die_log.specs.Invariants.TrueAccounts.{is_pending, copied_of, AreTrueAccounts}
use Rattle.die_log.specs.Model.Start.{Start}

-- what a pending collection copied, and the pages still placed in its block, fit its collector's reserve
pub record FewCopies (start : Start) (log : Log) : Type 0 where
  pub few : (j : Job) (b : ℕ) → job_at log j.number ≡ Some j → is_pending start.plan (λ n. acts n log) (is_waived log) j ≡ true
      → victim_of start j.number log ≡ Some b
      → copied_of (λ n. acts n log) j + valid (cells start log) b ≤ reserve_full start.plan

-- the accounts are true, each collection copies no more than its reserve, and the log is legal
pub record IsTrueAndLegal (start : Start) (log : Log) : Type 0 where
  pub true_accounts : AreTrueAccounts start log
  pub copies : FewCopies start log
  pub legal : IsLegal start log
