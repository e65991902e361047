use Rattle.std.proofs.Common.{◌+◌, arith}
use Rattle.planned_die.proofs.Quiet.{quiet_later}
use Rattle.planned_die.proofs.next_collections.still_quiet.Goals as goal

pub returns-then-now-quiet : goal.returns-then-now-quiet
returns-then-now-quiet c = record { quiet = quiet_later c.args.tasks.now c.args.now (c.args.now + 1) c.args.quiet (omega arith) c.requires.quiet }
