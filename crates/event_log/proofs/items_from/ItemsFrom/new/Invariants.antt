use Rattle.std.proofs.Common.{◌≡◌, drop, length}
use Rattle.event_log.specs.Spread.{spread, AreSome}
use Rattle.event_log.proofs.items_from.ItemsFrom.new.Given as goal

abbrev pub invariant-loop-first : goal.invariant-loop-first
invariant-loop-first g l = record {
  some : AreSome l.runs;
  left : drop l.passed (spread l.runs) ≡ drop l.fn.passed (spread l.fn.runs);
}

abbrev pub decreases-loop-first : goal.decreases-loop-first
decreases-loop-first g l = length l.runs
