use Rattle.die_log.proofs.Legal.Exact.{stands_well}
use Rattle.die_log.proofs.laws.holds_are_owed.Goals as goal

pub returns : goal.returns
returns c = λ plan bound log exact. (stands_well plan bound log exact).1.true_accounts.agree.holds_are
