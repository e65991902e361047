use Rattle.std.proofs.Common.{◌≡◌, drop, length}
use Rattle.flashplan_checkpoint_runs.specs.Devices.{cells_with_all}
use Rattle.flashplan_checkpoint_runs.proofs.devices.put_pages.Given as goal

abbrev pub invariant-loop-page : goal.invariant-loop-page
invariant-loop-page l = record {
  len : length l.cells.items ≡ length l.initial.cells.items;
  left : cells_with_all l.shape l.cells.items (drop l.page-index l.pages) ≡ cells_with_all l.shape l.initial.cells.items l.pages;
}
