use Rattle.std.proofs.Common.{◌≡◌, take}
use Rattle.job_table.specs.Waivers.{without_waivers}
use Rattle.job_table.proofs.changes.take_back.Given as goal

abbrev pub invariant-loop-w : goal.invariant-loop-w
invariant-loop-w l = l.jobs ≡ record l.initial.jobs { jobs = without_waivers l.initial.jobs.jobs (take l.w-index l.waived) }
