use Rattle.std.proofs.Common.{◌≡◌, ◌≤◌, ◌*◌, sum, take}
use Rattle.die_checkpoint.proofs.accounts.sum_of.Given as goal

abbrev pub invariant-loop-balance : goal.invariant-loop-balance
invariant-loop-balance l = record {
  value : l.total ≡ sum (take l.balance-index l.balances);
  within : l.total ≤ l.balance-index * 4294967295;
}
