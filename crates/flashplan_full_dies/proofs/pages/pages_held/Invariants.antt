use Rattle.std.proofs.Common.{◌≡◌, map, take}
use Rattle.flashplan_full_dies.specs.FullDies.{lies}
use Rattle.flashplan_full_dies.proofs.pages.pages_held.Given as goal

abbrev pub invariant-loop-page : goal.invariant-loop-page
invariant-loop-page l = l.held.items ≡ map lies (take l.page-index l.pages)
