use Rattle.std.proofs.Common.{arith}
use Rattle.std.proofs.lemmas.Grind.{common_steps}
use Rattle.page_ledger.proofs.accounts.Ledger.admit.Goals as goal

pub invariant_of-self : goal.invariant_of-self
invariant_of-self c = grind (arith, common_steps)

pub returns-clause-accepted : goal.returns-clause-accepted
returns-clause-accepted c = grind (arith, common_steps)

pub returns-clause-refused : goal.returns-clause-refused
returns-clause-refused c = grind (arith, common_steps)

pub returns-clause-ok : goal.returns-clause-ok
returns-clause-ok c = grind (arith, common_steps)

pub returns-clause-err : goal.returns-clause-err
returns-clause-err c = grind (arith, common_steps)

pub returns-clause-total : goal.returns-clause-total
returns-clause-total c = grind (arith, common_steps)

pub returns-clause-plan : goal.returns-clause-plan
returns-clause-plan c = grind (arith, common_steps)

pub returns-clause-reserves : goal.returns-clause-reserves
returns-clause-reserves c = grind (arith, common_steps)
