use Rattle.std.proofs.Common.{◌≡◌, length}
use Rattle.std.specs.Prelude.{All}
use Rattle.file_nand.specs.Opened.{IsUnerased}
use Rattle.file_nand.proofs.saves.counts_in.Given as goal

abbrev pub invariant-loop : goal.invariant-loop
invariant-loop l = record {
  many : length l.counts.items ≡ l.counter;
  each : All (IsUnerased l.pages) l.counts.items;
}
