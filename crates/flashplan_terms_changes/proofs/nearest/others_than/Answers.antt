use Rattle.std.proofs.Common.{◌≢◌, below_more, rules}
use Rattle.terms_texts.specs.Stores.{IsUsable, die_of}
use Rattle.flashplan_terms_changes.proofs.nearest.others_than.Goals as goal

pub loop-die-preserved : goal.loop-die-preserved
loop-die-preserved c =
    let does : c.loop-die.die ≢ c.args.name.die → IsUsable (die_of c.args.numbers.now c.loop-die.die) = search rules in
    below_more _ _ c.loop-die.invariant does
