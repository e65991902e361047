use Rattle.std.proofs.Common.{◌≡◌, length}
use Rattle.flash_c.specs.Entries.{caller_in}
use Rattle.flash_c.proofs.entries.caller_of_job.Given as goal

abbrev pub invariant-loop-note : goal.invariant-loop-note
invariant-loop-note l = caller_in l.notes l.number ≡ caller_in l.initial.notes l.number

abbrev pub decreases-loop-note : goal.decreases-loop-note
decreases-loop-note l = length l.notes
