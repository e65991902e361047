use Rattle.std.proofs.Common.{◌≡◌, ℕ, map, drop, get_or, vec_capacity}
use Rattle.die_log.specs.Model.Lives.{Lives}
use Rattle.planned_log.specs.Moves.{after_moves}
use Rattle.ongoing_log.specs.Ongoing.{asks_of, due_at}
use Rattle.planned_die.specs.Planned.{HasLived}
use Rattle.ongoing_die.specs.declared.waiting.Waiting.{Waiting}
use Rattle.ongoing_die.specs.Standing.{ask_in}
use Rattle.ongoing_die.specs.Entering.{IsSameDie}
use Rattle.ongoing_die.proofs.Entering.{cleared}
use Rattle.ongoing_die.proofs.next_life.enter_waiting.Given as goal

abbrev pub invariant-loop-task : goal.invariant-loop-task
invariant-loop-task g l = record {
  log : (earlier : Lives) → HasLived l.fn.die earlier
      → after_moves l.fn.die.core.start l.fn.die.terms earlier l.fn.die.life l.die.core.log (asks_of l.task (drop l.task (map (due_at l.clock) (map ask_in l.fn.waiting.items))))
      ≡ after_moves l.fn.die.core.start l.fn.die.terms earlier l.fn.die.life l.fn.die.core.log (asks_of 0 (map (due_at l.clock) (map ask_in l.fn.waiting.items)));
  lived : (earlier : Lives) → HasLived l.fn.die earlier → HasLived l.die earlier;
  same : IsSameDie l.fn.die l.die;
  left : map ask_in l.waiting.items ≡ cleared l.clock l.task (map ask_in l.fn.waiting.items);
  room : (task : ℕ) (d : Waiting) → vec_capacity (get_or l.waiting.items task d).ops ≡ vec_capacity (get_or l.fn.waiting.items task d).ops;
}
