use Rattle.std.specs.Box.{box_value}
use Rattle.flashplan_script_runs.specs.RunningDies.{running_of}
use Rattle.flashplan_script_runs.proofs.Calls.{IsOnTheWay}
use Rattle.flashplan_watched_runs.specs.Failing.{RunsWell}
use Rattle.flashplan_watched_runs.proofs.die_runs.DieRunScriptDie.carry_to.Given as goal

abbrev pub invariant-loop-present : goal.invariant-loop-present
invariant-loop-present l = record {
  way : IsOnTheWay l.slot l._present (running_of (box_value l.fn.self.core)) (running_of (box_value l.self.core));
  well : RunsWell (box_value l.fn.self.core) → RunsWell (box_value l.self.core);
}
