use Rattle.std.proofs.Common.{◌<◌, ◌≤◌, ◌-◌}
use Rattle.slot_types.specs.declared.limits.TheConstants.{MAX_JOBS, MAX_SLOT}
use Rattle.flashplan_lives.specs.Lives.{asked_in}
use Rattle.flashplan_lives.proofs.lives.life_of.Given as goal

abbrev pub invariant-loop-life : goal.invariant-loop-life
invariant-loop-life l = record {
  order : l.life < l.beyond;
  end : l.beyond ≤ MAX_SLOT;
  lasts : asked_in l.tasks l.life ≤ MAX_JOBS;
  most : MAX_JOBS < asked_in l.tasks l.beyond;
}

abbrev pub decreases-loop-life : goal.decreases-loop-life
decreases-loop-life l = l.beyond - l.life
