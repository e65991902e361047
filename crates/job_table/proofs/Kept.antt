-- Jobs in memory of which some is reserved.
use Rattle.std.proofs.Common.{◌≡◌, List, ap, ◌∙◌}
use Rattle.job_table.specs.Jobs.{JobRecord}
use Rattle.job_table.specs.Reserves.{KeptJobs}

pub jobs_of : {one other : KeptJobs} → one ≡ other → one.jobs ≡ other.jobs
jobs_of same = ap (λ (kept : KeptJobs). kept.jobs) same

-- the jobs change, and what is reserved stays
pub jobs_become : (one other : KeptJobs) (jobs new : List JobRecord) → one ≡ other → jobs ≡ new
    → ◌≡◌ {A = KeptJobs} (record one { jobs = jobs }) (record other { jobs = new })
jobs_become one other jobs new same become =
    ap (λ (l : List JobRecord). record one { jobs = l }) become ∙ ap (λ (kept : KeptJobs). record kept { jobs = new }) same
