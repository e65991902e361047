use Rattle.std.proofs.lemmas.Slice.Zip.{AllZip-long}
use Rattle.flashplan_kept_runs.specs.KeptPlans.{IsKeptPlan}
use Rattle.flashplan_commands.proofs.kept_acts.kept_in.Goals as goal

pub returns-in_ok-plans-in-Plain-clause-few : goal.returns-in_ok-plans-in-Plain-clause-few
returns-in_ok-plans-in-Plain-clause-few g c =
    let read = rw c.in-Plain.is at c.in_ok-plan.ensures in
    let long = AllZip-long IsKeptPlan c.in-Plain.store c.in_ok-plans-in-Plain.plans c.in_ok-plans-in-Plain.ensures in
    rw long read.few
