use Rattle.std.proofs.Common.{◌≡◌, ◌++◌, List, length}
use Rattle.event_log.specs.Notes.{Note}
use Rattle.flash_c.specs.Entries.{entry_of}
use Rattle.flash_c.specs.Lists.{array_with}
use Rattle.flash_c.proofs.entries.put_entries.Given as goal

abbrev pub invariant-loop-i : goal.invariant-loop-i
invariant-loop-i l = record {
  taken : List Note;
  all : l.initial.notes ≡ taken ++ l.notes;
  counted : length taken ≡ l.i;
  filled : l.places ≡ array_with entry_of l.initial.places taken;
}
