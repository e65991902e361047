use Rattle.std.proofs.Common.{◌-◌, ◌*◌, ◌/◌, ◌<◌, refl, subst, arith}
use Rattle.slot_types.specs.declared.limits.TheConstants.{MAX_SLOT}
use Rattle.flashplan_design.specs.Numbers.{DieDoes}
use Rattle.flashplan_design.proofs.Quotients.{below_quotient, is_some, part_down, quotient_within}
use Rattle.flashplan_design.proofs.Tries.{fails, still_alike, succeeds}
use Rattle.flashplan_design.proofs.divisors.least_divisor.Goals as goal

pub returns-then-does-2 : goal.returns-then-does-2
returns-then-does-2 c =
    let does : DieDoes c.args.which c.args.plan (c.args.common / (1024 - c.loop-back.back))
    = succeeds c.args.which c.args.plan c.loop-back.trial (c.args.common / (1024 - c.loop-back.back)) _
    c.loop-back.invariant.same c.tried-plan-in-loop-back.ensures.does.0 c.if-does-2.true in
    record {
      above = is_some c.args.common (c.args.common / (1024 - c.loop-back.back)) c.requires.some (c.requires.divides _ does);
      below = quotient_within c.args.common (1024 - c.loop-back.back) MAX_SLOT (omega (arith, c.loop-back-test.true))
          c.requires.few;
      does = does;
      least = λ fewer one lt. c.loop-back.invariant.none fewer one
          (below_quotient c.args.common (1024 - c.loop-back.back) fewer (omega (arith, c.loop-back-test.true)) lt);
    }

pub loop-back-preserved : goal.loop-back-preserved
loop-back-preserved c = record {
  same = still_alike c.args.which c.args.plan c.loop-back.trial c.tried-plan-in-loop-back.result.plan
      c.tried-plan-in-loop-back.ensures.alike c.loop-back.invariant.same;
  none = λ fewer one lt.
      part_down (λ n. DieDoes c.args.which c.args.plan n) c.args.common (1024 - c.loop-back.back)
      (c.args.common / (1024 - c.loop-back.back)) (omega (arith, c.loop-back-test.true)) refl c.requires.divides
      c.loop-back.invariant.none
      (fails c.args.which c.args.plan c.loop-back.trial (c.args.common / (1024 - c.loop-back.back)) _
      c.loop-back.invariant.same c.tried-plan-in-loop-back.ensures.does.1 c.if-does-2.false)
      fewer one (subst (λ p. fewer * p < c.args.common) (omega arith) lt);
}
