use Rattle.std.proofs.Common.{arith}
use Rattle.slot_types.specs.declared.limits.TheConstants.{MIN_BLOCKS}
use Rattle.flashplan_design.specs.Plans.{AllDo}
use Rattle.flashplan_design.specs.declared.numbers.Number.TheVariants as number
use Rattle.flashplan_design.proofs.Tries.{next_up, no_true}
use Rattle.flashplan_design.proofs.wholes.least_blocks_of_all.Goals as goal

pub loop-n-preserved : goal.loop-n-preserved
loop-n-preserved c =
    next_up (λ n. ¬ AllDo number.Blocks c.args.plan.now n) MIN_BLOCKS c.loop-n.n c.loop-n.invariant
    (λ does. no_true _ c.if-does.false (c.in_ok-does.ensures.does.1 does))

pub returns-clause-found : goal.returns-clause-found
returns-clause-found c = λ n above below. c.loop-n.invariant n above (omega (arith, below, c.loop-n-test.false))
