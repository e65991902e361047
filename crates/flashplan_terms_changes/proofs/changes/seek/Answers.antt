use Rattle.flashplan_terms_changes.proofs.ChangesSoFar.{finds-at}
use Rattle.flashplan_terms_changes.proofs.changes.seek.Goals as goal

pub returns-clause-found : goal.returns-clause-found
returns-clause-found c = finds-at c.args.numbers.now c.args.asked c.in_ok-found.found c.place_of-die.result.0 c.place_of-die.result.1
    c.number_of-from.result c.loosest-to.result c.in_ok-own.own c.place_of-die.ensures.die c.place_of-die.ensures.task
    c.in_ok-own.ensures.ok c.number_of-from.ensures c.loosest-to.ensures c.in_ok-found.ensures.found
