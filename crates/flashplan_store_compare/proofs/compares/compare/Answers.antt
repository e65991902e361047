use Rattle.std.proofs.Common.{sym, subst, List}
use Rattle.std.specs.Prelude.{IfOk}
use Rattle.die_log.specs.Model.Start.{Start, fresh}
use Rattle.flashplan_script_runs.proofs.TextRuns.{as_many}
use Rattle.flashplan_store_compare.specs.Runs.{HasStoreRun, begun}
use Rattle.flashplan_store_compare.specs.declared.compares.Compared.{Compared}
use Rattle.flashplan_store_compare.proofs.compares.compare.Goals as goal

pub compare_started-requires-clause-dies : goal.compare_started-requires-clause-dies
compare_started-requires-clause-dies g c = as_many begun fresh c.in_ok-started.started.items c.args.plan.now c.in_ok-started.ensures.starts

pub returns : goal.returns
returns g c =
    subst (λ (starts : List Start). IfOk c.compare_started.result (λ (compared : Compared).
    HasStoreRun starts (g.R.Read.remaining c.args.script) c.args.measure.slots compared.refused))
    c.in_ok-started.ensures.starts c.compare_started.ensures
