use Rattle.std.proofs.Common.{◌≡◌, map, take}
use Rattle.flash_c.specs.Conversions.{row_in}
use Rattle.flash_c.proofs.lists.rows_in.Given as goal

abbrev pub invariant-loop-row : goal.invariant-loop-row
invariant-loop-row l = l.made ≡ map row_in (take l.row-index l.rows)
