use Rattle.std.proofs.Common.{◌≡◌, None, map, replicate, length}
use Rattle.ongoing_die.specs.Standing.{ask_in, HaveRoom}
use Rattle.ongoing_die.proofs.waiting.none_waiting.Given as goal

abbrev pub invariant-loop-task : goal.invariant-loop-task
invariant-loop-task l = record {
  none : map ask_in l.waiting.items ≡ replicate l.task None;
  count : length l.waiting.items ≡ l.task;
  room : HaveRoom l.terms l.waiting.items;
}
