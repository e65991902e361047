use Rattle.std.proofs.Common.{◌+◌, ◌-◌, ◌<◌, ◌≤◌}
use Rattle.flashplan_terms_margins.specs.Changes.{Does, IsAlike}
use Rattle.flashplan_terms_margins.proofs.sought.least.Given as goal

abbrev pub invariant-loop-beyond : goal.invariant-loop-beyond
invariant-loop-beyond l = record {
  same : IsAlike l.task l.trial l.fn.made;
  order : l.beyond < l.with;
  above : l.from ≤ l.beyond + 1;
  below : l.with ≤ l.to;
  does : Does l.fn.made l.task l.own l.which l.with;
  beyond : l.from ≤ l.beyond → ¬ Does l.fn.made l.task l.own l.which l.beyond;
}

abbrev pub decreases-loop-beyond : goal.decreases-loop-beyond
decreases-loop-beyond l = l.with - l.beyond
