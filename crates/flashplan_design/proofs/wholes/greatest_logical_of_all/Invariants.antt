use Rattle.std.proofs.Common.{◌<◌, ◌≤◌, ◌-◌}
use Rattle.flashplan_design.specs.Plans.{AllDo}
use Rattle.flashplan_design.specs.declared.numbers.Number.TheVariants as number
use Rattle.flashplan_design.proofs.wholes.greatest_logical_of_all.Given as goal

abbrev pub invariant-loop-with : goal.invariant-loop-with
invariant-loop-with l = record {
  some : 1 ≤ l.with;
  order : l.with < l.without;
  end : l.without ≤ 4294967295;
  does : AllDo number.Logical l.plan l.with;
  doesnt : ¬ AllDo number.Logical l.plan l.without;
}

abbrev pub decreases-loop-with : goal.decreases-loop-with
decreases-loop-with l = l.without - l.with
