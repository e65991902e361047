-- The rows of a log and what its slots carried: what certificates of lateness are about.
use Rattle.std.specs.Prelude.{Option, ◌≡◌, not, if◌then◌else◌, List, map, filter, Some, None, option_map}
use Rattle.slot_types.specs.declared.plans.DiePlan.{DiePlan}
use Rattle.late_cert.specs.declared.rows.JobRow.{JobRow}
use Rattle.late_cert.specs.declared.certificates.Certificate.{Certificate}
use Rattle.late_cert.specs.Schedule.{Slots}
use Rattle.late_cert.specs.Build.{certificate_of, IsOwn}
use Rattle.die_log.specs.Model.Log.{Log, Job, jobs, carried_slots, work, is_waived}
use Rattle.die_log.specs.Model.Work.{is_done, completion, worst}

-- the row of a job or collection: what it took so far, and its completion once it is done
abbrev pub row_for : DiePlan → Log → Job → JobRow
row_for plan log j = record {
  number = j.number;
  release = j.release;
  due = j.due;
  work = work j.number log;
  completion = if is_done plan log j then Some (completion j.number log) else None;
}

-- the rows of all that were taken, by number; waived collections have none
abbrev pub rows : DiePlan → Log → List JobRow
rows plan log = map (row_for plan log) (filter (λ j. not (is_waived log j.number)) (jobs log))

-- the numbers carried, by slot
abbrev pub carried_numbers : Log → Slots
carried_numbers log = map (λ c. option_map (λ ran. ran.0) c) (carried_slots log)

-- the certificate of the worst job, where something is done
abbrev pub certificate_for : DiePlan → Log → Option Job → Option Certificate
certificate_for plan log None = None
certificate_for plan log (Some j) = certificate_of (rows plan log) (carried_numbers log) j.number

abbrev pub certificate : DiePlan → Log → Option Certificate
certificate plan log = certificate_for plan log (worst plan log)

-- a certificate of the busy interval of this job, with its deadline and its completion
pub record IsCertified (plan : DiePlan) (log : Log) (j : Job) (c : Certificate) : Type 0 where
  pub own : IsOwn (rows plan log) (carried_numbers log) j.number c
  pub due : c.due ≡ j.due
  pub completion : c.completion ≡ completion j.number log
