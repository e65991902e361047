use Rattle.std.proofs.Common.{◌≤◌, arith}
use Rattle.planned_die.specs.Remembered.{IsKeptFor}
use Rattle.planned_die.proofs.Passing.{fresh}
use Rattle.planned_die.proofs.Resuming.{one_later}
use Rattle.planned_die.proofs.lacks.asks_of_lack.Goals as goal
use Rattle.planned_die.proofs.lacks.asks_of_lack.Goals.{then-lack-gt0, else-lack-gt0}

pub returns-clause-kept : goal.returns-clause-kept
returns-clause-kept c period clock =
    let n = c.in_ok-asks.ensures in
    let none : IsKeptFor period 0 c.in_ok-asks.asks = fresh c.in_ok-asks.asks n.jobs n.passed n.operations n.writes period 0 in
    elim c.if-lack-gt0.branch [
      | then-lack-gt0 w ↦ rw w.asks-is (one_later period 0 clock _ (omega arith) (w.note.ensures.kept period none))
      | else-lack-gt0 w ↦ rw w.asks-is (one_later period 0 clock _ (omega arith) none)
    ]
