use Rattle.std.proofs.Common.{ℕ, ◌<◌}
use Rattle.plan_texts.specs.Stores.{die_of}
use Rattle.flashplan_design.specs.Numbers.{DieDoes}
use Rattle.flashplan_design.proofs.wholes.all_do.Given as goal

abbrev pub invariant-loop-die : goal.invariant-loop-die
invariant-loop-die l = (d : ℕ) → d < l.die → DieDoes l.which (die_of l.plan d) l.n
