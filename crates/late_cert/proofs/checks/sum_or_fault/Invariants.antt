use Rattle.std.proofs.Common.{◌≡◌, ◌^◌, ◌-◌, min, sum_by, take, drop}
use Rattle.late_cert.specs.Rows.{work_of}
use Rattle.late_cert.specs.Check.{first_fault}
use Rattle.late_cert.proofs.checks.sum_or_fault.Given as goal

abbrev pub invariant-loop-job : goal.invariant-loop-job
invariant-loop-job l = record {
  faultless : first_fault l.rows l.start l.due l.jobs ≡ first_fault l.rows l.start l.due (drop l.job-index l.jobs);
  summed : l.sum ≡ min (sum_by (work_of l.rows) (take l.job-index l.jobs)) (2 ^ 64 - 1);
}
