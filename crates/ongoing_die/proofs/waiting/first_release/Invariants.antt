use Rattle.std.proofs.Common.{◌≡◌, ℕ, ◌<◌, ◌≤◌, map, get_or, Some, None}
use Rattle.ongoing_log.specs.Ongoing.{WaitingAsk}
use Rattle.ongoing_die.specs.Standing.{ask_in}
use Rattle.ongoing_die.proofs.waiting.first_release.Given as goal

abbrev pub invariant-loop-task : goal.invariant-loop-task
invariant-loop-task l = record {
  within : l.first ≤ l.end;
  first : (task : ℕ) (w : WaitingAsk) → task < l.task → get_or (map ask_in l.waiting.items) task None ≡ Some w → l.first ≤ w.until;
}
