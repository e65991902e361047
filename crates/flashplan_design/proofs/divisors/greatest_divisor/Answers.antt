use Rattle.std.proofs.Common.{◌/◌, refl, arith}
use Rattle.flashplan_design.specs.Numbers.{DieDoes}
use Rattle.flashplan_design.proofs.Quotients.{not_above, part_up}
use Rattle.flashplan_design.proofs.Tries.{fails, still_alike}
use Rattle.flashplan_design.proofs.divisors.greatest_divisor.Goals as goal

pub loop-part-init : goal.loop-part-init
loop-part-init c = record {
  same = λ n. refl;
  none = λ more lt does. not_above c.args.common more c.requires.some (c.requires.divides more does) lt;
}

pub loop-part-preserved : goal.loop-part-preserved
loop-part-preserved c = record {
  same = still_alike c.args.which c.args.plan c.loop-part.trial c.tried-plan.result.plan c.tried-plan.ensures.alike
      c.loop-part.invariant.same;
  none = part_up (λ n. DieDoes c.args.which c.args.plan n) c.args.common c.loop-part.part
      (c.args.common / c.loop-part.part) (omega (arith, c.loop-part.auto.part)) c.requires.some refl c.requires.divides
      c.loop-part.invariant.none
      (fails c.args.which c.args.plan c.loop-part.trial (c.args.common / c.loop-part.part) _ c.loop-part.invariant.same
      c.tried-plan.ensures.does.1 c.if-does.false);
}
