use Rattle.std.proofs.Common.{◌≡◌, ℕ, ◌<◌, map, get_or, None}
use Rattle.ongoing_die.specs.Standing.{ask_in}
use Rattle.ongoing_die.proofs.waiting.first_waiting.Given as goal

abbrev pub invariant-loop-task : goal.invariant-loop-task
invariant-loop-task l = (before : ℕ) → before < l.task → get_or (map ask_in l.waiting.items) before None ≡ None
