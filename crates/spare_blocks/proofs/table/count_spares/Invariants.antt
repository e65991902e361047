use Rattle.std.proofs.Common.{◌≡◌, take}
use Rattle.std.specs.Prelude.{count_by}
use Rattle.spare_blocks.specs.Tables.{is_spare}
use Rattle.spare_blocks.proofs.table.count_spares.Given as goal

abbrev pub invariant-loop-becomes : goal.invariant-loop-becomes
invariant-loop-becomes l = l.count ≡ count_by is_spare (take l.becomes-index l.uses)
