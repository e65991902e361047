use Rattle.std.proofs.Common.{◌≡◌, take}
use Rattle.slot_core.specs.TableRows.{rows_in}
use Rattle.slot_core.proofs.certificates.rows_in.Given as goal

abbrev pub invariant-loop-number : goal.invariant-loop-number
invariant-loop-number l = l.rows ≡ rows_in 0 (take l.number l.table.jobs)
