-- The laws at a plan and a log: jobs, waivers and a collection that copies and erases.
use Rattle.std.proofs.Common.{[], rules}
use Rattle.plan_rules.specs.Bound.{MeetsBound}
use Rattle.late_cert.specs.Schedule.{IsLeastLate}
use Rattle.die_log.specs.Results.Legal.{IsLegal}
use Rattle.die_log.specs.Model.Rows.{rows, carried_numbers}
use Rattle.die_log.specs.Model.Answers.{IsExact}
use Rattle.die_log.proofs.Openings.{fresh_opens}
use Rattle.die_log.proofs.Runs.{run_exact}
use Rattle.die_log.proofs.Legal.Exact.{exact_legal}
use Rattle.die_log.proofs.Least.Exact.{exact_least}
use Rattle.die_log.proofs.Worked.Plans.{tight, roomy_plan, tight_plan}
use Rattle.die_log.proofs.Worked.FillingHistory.{full, full_calls}
use Rattle.die_log.proofs.Worked.CollectionCopies.{collected, collect_calls}

roomy_meets : MeetsBound roomy_plan
roomy_meets = search rules

tight_meets : MeetsBound tight_plan
tight_meets = search rules

is_exact : IsExact tight collected
is_exact = run_exact tight full collect_calls (run_exact tight [] full_calls tt)

is_legal : IsLegal tight collected
is_legal = exact_legal tight (fresh_opens tight_plan tight_meets) collected is_exact

is_least_late : IsLeastLate (rows tight.plan collected) (carried_numbers collected)
is_least_late = exact_least tight (fresh_opens tight_plan tight_meets) [] collected is_exact
