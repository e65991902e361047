use Rattle.std.proofs.Common.{◌≡◌, map, take}
use Rattle.flash_c.specs.Conversions.{number_in}
use Rattle.flash_c.proofs.lists.jobs_in.Given as goal

abbrev pub invariant-loop-job : goal.invariant-loop-job
invariant-loop-job l = l.made ≡ map number_in (take l.job-index l.jobs)
