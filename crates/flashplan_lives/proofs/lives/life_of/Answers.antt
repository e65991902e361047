use Rattle.std.proofs.Common.{arith}
use Rattle.flashplan_lives.proofs.Beginnings.{begins}
use Rattle.flashplan_lives.proofs.lives.life_of.Goals as goal

pub loop-life-init : goal.loop-life-init
loop-life-init c = record {
  order = omega arith;
  end = omega arith;
  lasts = begins c.args.tasks.now;
  most = grind (arith, c.if-lasts.ensures.1);
}
