use Rattle.std.proofs.Common.{arith, rules}
use Rattle.flashplan_design.specs.Plans.{AllDo}
use Rattle.flashplan_design.specs.declared.numbers.Number.TheVariants as number
use Rattle.flashplan_design.proofs.DieCommons.{all_fewer}
use Rattle.flashplan_design.proofs.wholes.greatest_logical_of_all.Goals as goal

pub returns-then-not-some-clause-found : goal.returns-then-not-some-clause-found
returns-then-not-some-clause-found c =
    let isnt : ¬ AllDo number.Logical c.args.plan.now 1 = search rules in
    λ n one few does. isnt (all_fewer c.args.plan.now n 1 (omega arith) one does)

pub returns-clause-found : goal.returns-clause-found
returns-clause-found c = record {
  above = c.loop-with.invariant.some;
  below = omega (arith, c.loop-with.invariant.order, c.loop-with.invariant.end);
  does = c.loop-with.invariant.does;
  greatest = λ more above below does. c.loop-with.invariant.doesnt
      (all_fewer c.args.plan.now more c.loop-with.without (omega (arith, c.loop-with.invariant.order))
      (omega (arith, above, c.loop-with-test.false)) does);
}
