use Rattle.flashplan_kept_runs.specs.KeptDies.{kept_of}
use Rattle.flashplan_kept_runs.proofs.Way.{IsOnTheWay}
use Rattle.flashplan_kept_runs.proofs.script_dies.MemoryDieKeptScriptDie.carry_to.Given as goal

abbrev pub invariant-loop-present : goal.invariant-loop-present
invariant-loop-present l = IsOnTheWay l.slot l._present (kept_of l.fn.self) (kept_of l.self)
