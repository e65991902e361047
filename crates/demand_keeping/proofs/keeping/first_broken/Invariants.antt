use Rattle.std.proofs.Common.{◌≡◌, take}
use Rattle.std.specs.List.{AllByRecursion}
use Rattle.plan_rules.specs.Keeping.{arrivals, slots}
use Rattle.demand_rules.specs.Keeping.{IsDemanded}
use Rattle.demand_keeping.proofs.keeping.first_broken.Given as goal

abbrev pub invariant-loop-i : goal.invariant-loop-i
invariant-loop-i l = record {
  now : l.now ≡ slots (take l.i l.events);
  planned : AllByRecursion (IsDemanded l.plan l.terms l.end) (arrivals 0 (take l.i l.events));
}
