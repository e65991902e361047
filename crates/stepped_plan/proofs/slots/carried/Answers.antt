use Rattle.stepped_plan.proofs.Calling.{has_carried}
use Rattle.stepped_plan.proofs.slots.carried.Goals as goal

pub returns : goal.returns
returns c = record {
  carried = has_carried c.args.die c.carry_out-die.result.said c.in-Ok.reply c.carry_out-die.result.die c.in-Ok.is c.carry_out-die.ensures.slot
      c.carry_out-die.ensures.core;
}
