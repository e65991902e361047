use Rattle.std.proofs.Common.{◌<◌, ap, sym, subst}
use Rattle.std.specs.Prelude.{IsSome}
use Rattle.stepped_spares.specs.Stepping.{Stepping, calls_left, next_move}
use Rattle.stepped_spares.proofs.Lefts.{some_come}
use Rattle.stepped_spares.proofs.table.SpareTable.done.Goals as goal

pub returns-in-Fault-clause-fewer : goal.returns-in-Fault-clause-fewer
returns-in-Fault-clause-fewer c =
    let s = c.self.inside in
    let next = subst (λ (x : Stepping). IsSome (next_move x)) (sym c.self.view_is) c.requires.next in
    subst (λ n. 0 < n) (ap calls_left c.self.view_is) (some_come s.table s.pages s.stage c.self.invariant next)
