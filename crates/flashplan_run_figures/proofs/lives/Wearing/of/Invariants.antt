use Rattle.std.proofs.Common.{◌≡◌, drop, length, take}
use Rattle.std.specs.Prelude.{fold, max, min, sum}
use Rattle.flashplan_run_figures.specs.SlotCounts.{capped}
use Rattle.flashplan_run_figures.specs.Wearing.{greatest_of, least_of}
use Rattle.flashplan_run_figures.proofs.lives.Wearing.of.Given as goal

abbrev pub invariant-loop-count : goal.invariant-loop-count
invariant-loop-count l = record {
  slots : l.wearing.slots ≡ l.slots;
  erases : l.wearing.erases ≡ capped (sum (take l.count-index l.erases));
  blocks : l.wearing.blocks ≡ capped (length (take l.count-index l.erases));
  least : fold min l.wearing.least (drop l.count-index l.erases) ≡ least_of l.erases;
  greatest : fold max l.wearing.greatest (drop l.count-index l.erases) ≡ greatest_of l.erases;
}
