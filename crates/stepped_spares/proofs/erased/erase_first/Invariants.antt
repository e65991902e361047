use Rattle.std.proofs.Common.{◌≡◌, Bool}
use Rattle.stepped_spares.specs.Erasing.{BeginsErasing}
use Rattle.stepped_spares.specs.Stepping.{calls_left}
use Rattle.stepped_spares.proofs.ErasedBlocks.{IsErasingOn}
use Rattle.stepped_spares.proofs.erased.erase_first.Given as goal

abbrev pub invariant-loop-call : goal.invariant-loop-call
invariant-loop-call g l = record {
  erasing : (all : Bool) → BeginsErasing all l.initial.spares (g.D.WearingNand.blocks l.initial.part)
      → IsErasingOn all l.initial.spares.table l.spares.table (g.D.WearingNand.blocks l.initial.part) (g.D.WearingNand.blocks l.part)
      (g.D.WearingNand.faulted l.part) l.spares.stage;
  shape : g.D.WearingNand.shape_of l.part ≡ g.D.WearingNand.shape_of l.initial.part;
  pages : l.spares.pages ≡ l.initial.spares.pages;
}

abbrev pub decreases-loop-call : goal.decreases-loop-call
decreases-loop-call g l = calls_left l.spares
