use Rattle.std.proofs.Common.{◌≡◌}
use Rattle.std.specs.Prelude.{None}
use Rattle.file_nand.proofs.file_nand.FileNand.wipe.Given as goal

abbrev pub invariant-loop-page : goal.invariant-loop-page
invariant-loop-page g l = record {
  marked : l.self.marked ≡ l.initial.self.marked;
  failed : l.self.failed ≡ l.initial.self.failed;
  void : l.self.saved ≡ None;
}
