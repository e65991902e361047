-- The worst job of a log that is in time isn't late.
use Rattle.std.proofs.Common.{◌≡◌, Option, Some, None, IfSome, option_map, refl, pos, ◌≤ℤ◌}
use Rattle.slot_types.specs.declared.plans.DiePlan.{DiePlan}
use Rattle.die_log.specs.Model.Log.{Log, Job}
use Rattle.die_log.specs.Model.Work.{worst}
use Rattle.die_log.specs.Results.InTime.{IsInTime}
use Rattle.die_log.proofs.Least.Worst.{worst_is}
use Rattle.slot_core.specs.Outcomes.{worst_from, worst_of}

by_worst : (plan : DiePlan) (log : Log) (o : Option Job) → worst plan log ≡ o → IsInTime plan log
    → IfSome (option_map (worst_from log) o) (λ w. w.lateness ≤ℤ pos 0)
by_worst plan log None is h = tt
by_worst plan log (Some j) is h = let w = worst_is plan log j is in h.never_late j w.stands w.done

pub not_late : (plan : DiePlan) (log : Log) → IsInTime plan log → IfSome (worst_of plan log) (λ w. w.lateness ≤ℤ pos 0)
not_late plan log h = by_worst plan log (worst plan log) refl h
