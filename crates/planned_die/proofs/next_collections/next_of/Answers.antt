use Rattle.std.proofs.Common.{◌<◌, ◌≤◌, arith}
use Rattle.planned_die.proofs.Quiet.{no_multiple}
use Rattle.planned_die.proofs.next_collections.next_of.Goals as goal

pub returns-in-Some : goal.returns-in-Some
returns-in-Some c = record {
  quiet = λ slot le lt. no_multiple c.args.period c.args.from c.in-Some.past slot (omega (arith, c.in-Some.ensures)) (omega (arith, c.if-past-gt0.true))
      (omega (arith, c.in-Some.ensures)) le (omega (arith, lt, c.saturating_add.ensures));
}
