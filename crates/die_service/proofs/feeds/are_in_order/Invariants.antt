use Rattle.std.proofs.Common.{◌≡◌, drop}
use Rattle.die_service.specs.Feeds.{all_follow}
use Rattle.die_service.proofs.feeds.are_in_order.Given as goal

abbrev pub invariant-loop-row : goal.invariant-loop-row
invariant-loop-row l = all_follow 0 l.rows ≡ all_follow l.from (drop l.row-index l.rows)
