use Rattle.std.proofs.Common.{◌≡◌, ◌≤◌, ◌-◌, false}
use Rattle.die_log.specs.Model.Log.{now}
use Rattle.die_log.specs.Model.Lives.{Lives}
use Rattle.planned_log.specs.Laws.{IsKept}
use Rattle.planned_die.specs.Planned.{IsReservedFor}
use Rattle.planned_die.specs.PlannedCalls.{with_own}
use Rattle.planned_die.proofs.collections.enter_each.Given as goal

abbrev pub invariant-loop-entered : goal.invariant-loop-entered
invariant-loop-entered g l = record {
  entered : l.core ≡ with_own l.caller l.terms l.initial.core l.initial.entered l.entered;
  kept : (earlier : Lives) → IsKept l.initial.core.start l.terms earlier l.life l.initial.entered l.initial.core.log
      → IsKept l.core.start l.terms earlier l.life l.entered l.core.log;
  runs : l.core.stopped ≡ false;
  slot_stays : now l.core.log ≡ now l.initial.core.log;
  from : l.initial.entered ≤ l.entered;
  reserved : IsReservedFor l.terms l.life l.core;
}

abbrev pub decreases-loop-entered : goal.decreases-loop-entered
decreases-loop-entered g l = l.tasks - l.entered
