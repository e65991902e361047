use Rattle.std.proofs.Common.{◌≡◌, map, take}
use Rattle.flash_c.specs.Mounts.{label_in}
use Rattle.flash_c.proofs.mounts.labels_in.Given as goal

abbrev pub invariant-loop-label : goal.invariant-loop-label
invariant-loop-label l = l.made.items ≡ map label_in (take l.label-index l.labels)
