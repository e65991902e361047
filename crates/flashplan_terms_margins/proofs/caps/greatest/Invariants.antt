use Rattle.std.proofs.Common.{◌-◌, ◌<◌, ◌≤◌}
use Rattle.flashplan_terms_margins.specs.Changes.{IsAlikeButCap, MeetsWithCap}
use Rattle.flashplan_terms_margins.proofs.caps.greatest.Given as goal

abbrev pub invariant-loop-with : goal.invariant-loop-with
invariant-loop-with l = record {
  same : IsAlikeButCap l.task l.trial l.fn.plan;
  order : l.with < l.beyond;
  above : 1 ≤ l.with;
  below : l.beyond ≤ 4294967295;
  meets : MeetsWithCap l.fn.plan l.task l.with;
  beyond : l.beyond ≤ 4294967294 → ¬ MeetsWithCap l.fn.plan l.task l.beyond;
}

abbrev pub decreases-loop-with : goal.decreases-loop-with
decreases-loop-with l = l.beyond - l.with
