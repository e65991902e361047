use Rattle.die_log.proofs.Legal.Exact.{stands_well}
use Rattle.die_log.proofs.laws.exact_stands.Goals as goal

pub returns : goal.returns
returns c = record {
  stands = λ plan bound log exact. (stands_well plan bound log exact).0;
  well = λ plan bound log exact. (stands_well plan bound log exact).1;
}
