use Rattle.std.proofs.Common.{◌≡◌, slice_get, drop}
use Rattle.late_cert.specs.Runs.{slots_of}
use Rattle.late_cert.proofs.carried.slot_in.Given as goal

abbrev pub invariant-loop-run : goal.invariant-loop-run
invariant-loop-run l = slice_get (slots_of l.runs) l.slot ≡ slice_get (slots_of (drop l.run-index l.runs)) l.left
