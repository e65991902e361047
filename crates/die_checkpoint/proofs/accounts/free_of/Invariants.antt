use Rattle.std.proofs.Common.{◌≡◌, ◌≤◌, ◌*◌, sum_by, take}
use Rattle.die_checkpoint.specs.Counts.{free_in}
use Rattle.die_checkpoint.proofs.accounts.free_of.Given as goal

abbrev pub invariant-loop-block : goal.invariant-loop-block
invariant-loop-block l = record {
  value : l.total ≡ sum_by (free_in l.pages) (take l.block-index l.blocks);
  within : l.total ≤ l.block-index * 4294967295;
}
