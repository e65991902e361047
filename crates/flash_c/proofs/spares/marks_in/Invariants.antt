use Rattle.std.proofs.Common.{◌≡◌, map, take}
use Rattle.flash_c.specs.Spares.{mark_in}
use Rattle.flash_c.proofs.spares.marks_in.Given as goal

abbrev pub invariant-loop-label : goal.invariant-loop-label
invariant-loop-label l = l.made.items ≡ map mark_in (take l.label-index l.labels)
