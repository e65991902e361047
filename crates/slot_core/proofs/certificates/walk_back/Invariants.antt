use Rattle.std.proofs.Common.{length}
use Rattle.slot_core.specs.TableRows.{rows_in}
use Rattle.slot_core.proofs.BusyIntervals.{IsWalked}
use Rattle.slot_core.proofs.certificates.walk_back.Given as goal

abbrev pub invariant-loop-run : goal.invariant-loop-run
invariant-loop-run l = IsWalked (rows_in 0 l.table.jobs) l.initial.slots l.slots l.last.number l.completion l.start l.numbers.items

abbrev pub decreases-loop-run : goal.decreases-loop-run
decreases-loop-run l = length l.slots
