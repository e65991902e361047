use Rattle.std.proofs.Common.{◌≡◌}
use Rattle.test_lock_book.proofs.tests.note_up.Given as goal

abbrev pub invariant-loop-below : goal.invariant-loop-below
invariant-loop-below g l = l.pass.lock ≡ l.fn.lock
