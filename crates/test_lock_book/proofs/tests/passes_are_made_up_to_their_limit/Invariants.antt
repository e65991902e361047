use Rattle.std.proofs.Common.{◌≡◌}
use Rattle.test_lock_book.proofs.tests.passes_are_made_up_to_their_limit.Given as goal

abbrev pub invariant-loop-number : goal.invariant-loop-number
invariant-loop-number g l = l.first.lock ≡ l.lock
