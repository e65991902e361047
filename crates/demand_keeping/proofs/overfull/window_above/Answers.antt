use Rattle.std.proofs.Common.{List, sym, subst}
use Rattle.demand_keeping.specs.declared.windows.Counted.{Counted}
use Rattle.demand_keeping.specs.BySlot.{AreCounted}
use Rattle.demand_keeping.proofs.Collected.{keeps_limit}
use Rattle.demand_keeping.proofs.overfull.window_above.Goals as goal

pub returns-clause-none : goal.returns-clause-none
returns-clause-none c none =
    keeps_limit c.args.of.count c.args.of.task c.args.events.now c.as_slice.result.now c.args.of.period c.args.of.limit
    (subst (λ (jobs : List Counted). AreCounted c.args.of.count c.args.of.task c.args.events.now jobs) (sym c.as_slice.ensures.value)
    c.in_ok-jobs.ensures.counted) (c.first_of_all.ensures.none none)
