use Rattle.std.proofs.Common.{◌≡◌, take}
use Rattle.flashplan_full_dies.specs.FullDies.{held_of, items_of}
use Rattle.flashplan_full_dies.proofs.pages.dies_held.Given as goal

abbrev pub invariant-loop-die : goal.invariant-loop-die
invariant-loop-die l = items_of l.held ≡ held_of (take l.die-index l.dies)
