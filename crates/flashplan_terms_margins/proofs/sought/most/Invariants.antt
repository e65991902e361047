use Rattle.std.proofs.Common.{◌+◌, ◌-◌, ◌<◌, ◌≤◌}
use Rattle.flashplan_terms_margins.specs.Changes.{Does, IsAlike}
use Rattle.flashplan_terms_margins.proofs.sought.most.Given as goal

abbrev pub invariant-loop-with : goal.invariant-loop-with
invariant-loop-with l = record {
  same : IsAlike l.task l.trial l.fn.made;
  order : l.with < l.beyond;
  above : l.from ≤ l.with;
  below : l.beyond ≤ l.to + 1;
  does : Does l.fn.made l.task l.own l.which l.with;
  beyond : l.beyond ≤ l.to → ¬ Does l.fn.made l.task l.own l.which l.beyond;
}

abbrev pub decreases-loop-with : goal.decreases-loop-with
decreases-loop-with l = l.beyond - l.with
