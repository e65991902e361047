use Rattle.std.proofs.Common.{below_more, rules}
use Rattle.terms_texts.specs.Stores.{IsUsable, die_of}
use Rattle.flashplan_terms_changes.specs.Changes.{with_number}
use Rattle.flashplan_terms_changes.proofs.nearest.all_do.Goals as goal

pub loop-die-preserved : goal.loop-die-preserved
loop-die-preserved c =
    let does : IsUsable (with_number c.args.which (die_of c.args.numbers.now c.loop-die.die) 0 c.args.n) = search rules in
    below_more _ _ c.loop-die.invariant does
