-- What a die is asked, as C has it.
use Rattle.std.specs.Prelude.{ℕ, pos, List, [], length, Option, Some, None, ◌==◌, if◌then◌else◌}
use Rattle.slot_types.specs.declared.events.JobHead.{JobHead}
use Rattle.slot_types.specs.declared.pages.PageData.{PageData}
use Rattle.plan_rules.specs.declared.counts.Load.{Load}
use Rattle.late_cert.specs.declared.rows.JobRow.{JobRow}
use Rattle.late_cert.specs.declared.certificates.Certificate.{Certificate}
use Rattle.slot_core.specs.declared.outcomes.Outcome.{Outcome}
use Rattle.slot_core.specs.declared.outcomes.Outcome.TheVariants as outcomes
use Rattle.slot_core.specs.declared.outcomes.Worst.{Worst}
use Rattle.slot_core.specs.declared.overdues.Overdue.{Overdue}
use Rattle.flash_c.specs.declared.shapes.FlashLoad.{FlashLoad}
use Rattle.flash_c.specs.declared.shapes.FlashJob.{FlashJob}
use Rattle.flash_c.specs.declared.shapes.FlashOutcome.{FlashOutcome}
use Rattle.flash_c.specs.declared.shapes.FlashWorst.{FlashWorst}
use Rattle.flash_c.specs.declared.shapes.FlashOverdue.{FlashOverdue}
use Rattle.flash_c.specs.declared.shapes.FlashCertificate.{FlashCertificate}
use Rattle.flash_c.specs.declared.shapes.FlashRow.{FlashRow}
use Rattle.flash_c.specs.Counts.{count_of, flag}

abbrev pub load_of : Load → FlashLoad
load_of load = record { demand = load.demand; common = load.common }

abbrev pub job_of : JobHead → FlashJob
job_of head = record { collects = flag head.collects; task = head.task; release = head.release; due = head.due }

-- what became of a job or collection: 0 waits, 1 done, 2 waived
abbrev pub outcome_of : Outcome → FlashOutcome
outcome_of outcomes.Waiting = record { lateness = pos 0; state = 0; completion = 0; given = 0; reads = 0 }
outcome_of (outcomes.Done completion lateness given reads) = record {
  lateness = lateness;
  state = 1;
  completion = completion;
  given = given;
  reads = count_of (length reads);
}
outcome_of (outcomes.Waived given) = record { lateness = pos 0; state = 2; completion = 0; given = given; reads = 0 }

-- what its reads gave
abbrev pub reads_in : Outcome → List PageData
reads_in (outcomes.Done completion lateness given reads) = reads
reads_in _ = []

abbrev pub worst_of : Worst → FlashWorst
worst_of worst = record { lateness = worst.lateness; job = worst.job }

abbrev pub overdue_as : Overdue → FlashOverdue
overdue_as overdue = record { late_by = overdue.late_by; job = overdue.job; due = overdue.due }

abbrev pub certificate_of : Certificate → FlashCertificate
certificate_of built = record {
  job = built.job;
  start = built.start;
  due = built.due;
  completion = built.completion;
  jobs = count_of (length built.jobs);
}

-- a certificate that C gives, with the jobs of its array
abbrev pub certificate_in : FlashCertificate → List ℕ → Certificate
certificate_in given jobs = record { job = given.job; start = given.start; due = given.due; completion = given.completion; jobs = jobs }

-- whether there is a completion, and which
abbrev pub done_of : Option ℕ → ℕ × ℕ
done_of None = (0, 0)
done_of (Some completion) = (1, completion)

abbrev pub row_of : JobRow → FlashRow
row_of row = record {
  number = row.number;
  release = row.release;
  due = row.due;
  work = row.work;
  done = (done_of row.completion).0;
  completion = (done_of row.completion).1;
}

-- a row that C gives: it is done where `done` isn't 0
abbrev pub row_in : FlashRow → JobRow
row_in row = record {
  number = row.number;
  release = row.release;
  due = row.due;
  work = row.work;
  completion = if row.done == 0 then None else Some row.completion;
}

-- a number is itself
abbrev pub number_in : ℕ → ℕ
number_in n = n
