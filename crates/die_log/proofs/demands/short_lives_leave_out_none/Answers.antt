use Rattle.die_log.proofs.Restocking.{short_lives_leave_none, multiples_leave_none}
use Rattle.die_log.proofs.demands.short_lives_leave_out_none.Goals as goal

pub returns : goal.returns
returns c = record { short = short_lives_leave_none; multiple = multiples_leave_none }
