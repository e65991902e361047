use Rattle.std.proofs.Common.{arith}
use Rattle.std.proofs.lemmas.Grind.{common_steps}
use Rattle.page_ledger.proofs.accounts.Ledger.spend_reserve.Goals as goal

pub invariant_of-self : goal.invariant_of-self
invariant_of-self c = grind (arith, common_steps)

pub returns-clause-moved : goal.returns-clause-moved
returns-clause-moved c = grind (arith, common_steps)

pub returns-clause-total : goal.returns-clause-total
returns-clause-total c = grind (arith, common_steps)
