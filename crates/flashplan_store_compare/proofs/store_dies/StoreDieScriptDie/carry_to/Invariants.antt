use Rattle.std.specs.Box.{box_value}
use Rattle.flashplan_script_runs.specs.RunningDies.{running_of}
use Rattle.flashplan_script_runs.proofs.Calls.{IsOnTheWay}
use Rattle.flashplan_store_compare.proofs.store_dies.StoreDieScriptDie.carry_to.Given as goal

abbrev pub invariant-loop-present : goal.invariant-loop-present
invariant-loop-present l = IsOnTheWay l.slot l._present (running_of (box_value l.fn.self.core)) (running_of (box_value l.self.core))
