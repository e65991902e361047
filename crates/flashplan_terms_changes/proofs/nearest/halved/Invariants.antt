use Rattle.std.proofs.Common.{◌-◌, ◌<◌, ◌≤◌}
use Rattle.std.specs.Prelude.{max, min}
use Rattle.flashplan_terms_changes.specs.Changes.{OwnDo, step}
use Rattle.flashplan_terms_changes.proofs.nearest.halved.Given as goal

abbrev pub invariant-loop-without : goal.invariant-loop-without
invariant-loop-without l = record {
  order : l.without < l.with;
  few : l.with ≤ max l.from l.to - min l.from l.to;
  fails : ¬ OwnDo l.numbers l.of l.which (step l.from l.to l.without);
  does : OwnDo l.numbers l.of l.which (step l.from l.to l.with);
}

abbrev pub decreases-loop-without : goal.decreases-loop-without
decreases-loop-without l = l.with - l.without
