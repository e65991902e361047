use Rattle.std.proofs.Common.{◌≡◌, ◌++◌, drop}
use Rattle.std.specs.Prelude.{flat_map}
use Rattle.std.specs.List.{enumerate_from}
use Rattle.flash_commands.specs.Figures.{numbered_lines, plan_text}
use Rattle.flash_commands.proofs.figures.put_plans.Given as goal

abbrev pub invariant-loop-die : goal.invariant-loop-die
invariant-loop-die l = l.text.items ++ flat_map numbered_lines (enumerate_from l.die (drop l.die l.plans)) ≡ l.initial.text.items
    ++ plan_text l.plans
