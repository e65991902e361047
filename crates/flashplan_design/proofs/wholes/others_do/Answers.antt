use Rattle.std.proofs.Common.{◌≡◌, below_more, rules}
use Rattle.plan_texts.specs.Stores.{IsUsable, die_of}
use Rattle.flashplan_design.proofs.wholes.others_do.Goals as goal

pub loop-die-preserved : goal.loop-die-preserved
loop-die-preserved c =
    let does : ¬ (c.loop-die.die ≡ c.args.own) → IsUsable (die_of c.args.plan.now c.loop-die.die) = search rules in
    below_more _ _ c.loop-die.invariant does
