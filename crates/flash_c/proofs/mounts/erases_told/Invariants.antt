use Rattle.std.proofs.Common.{◌≡◌, None, take}
use Rattle.std.specs.List.{fold}
use Rattle.flash_c.specs.Mounts.{erases_of, greater_of}
use Rattle.flash_c.proofs.mounts.erases_told.Given as goal

abbrev pub invariant-loop-k : goal.invariant-loop-k
invariant-loop-k l = l.most ≡ fold (λ most label. greater_of most (erases_of label)) None (take l.k l.labels)
