use Rattle.planned_log.proofs.Bursts.{jobs_whole, jobs_sizes, one_job, short_burst}
use Rattle.planned_log.proofs.laws.bursts_are_cut_into_jobs.Goals as goal

pub returns : goal.returns
returns c = record { whole = jobs_whole; sizes = jobs_sizes; one = one_job; short = short_burst }
