use Rattle.std.proofs.Common.{◌≡◌, ◌≤◌, ◌+◌, false}
use Rattle.spare_blocks.specs.Parts.{programmed_cell}
use Rattle.stepped_spares.specs.Carrying.{beyond, cost_by, serial_at}
use Rattle.stepped_spares.specs.Stepping.{calls_left}
use Rattle.stepped_spares.proofs.Filling.{IsFillingOn}
use Rattle.stepped_spares.proofs.carried.replace_program.Given as goal

abbrev pub invariant-loop-call : goal.invariant-loop-call
invariant-loop-call g l = record {
  filling : IsFillingOn l.initial.spares.table l.spares.table (g.D.WearingNand.blocks l.initial.part) (g.D.WearingNand.blocks l.part) l.fn.place.block l.fn.place.page
      (programmed_cell g.D.WearingNand.keeps_labels (g.D.WearingNand.next l.initial.part) l.page l.bytes) (g.D.WearingNand.faulted l.part) l.spares.stage;
  next : g.D.WearingNand.faulted l.part ≡ false → g.D.WearingNand.next l.part ≡ serial_at l.spares.stage l.page (g.D.WearingNand.next l.initial.part);
  cost : cost_by l.fn.place.page l.spares.table (g.D.WearingNand.spent l.part)
      ≤ cost_by l.fn.place.page l.initial.spares.table (g.D.WearingNand.spent l.initial.part) + beyond l.fn.place.page l.spares.stage;
  shape : g.D.WearingNand.shape_of l.part ≡ g.D.WearingNand.shape_of l.initial.part;
  pages : l.spares.pages ≡ l.initial.spares.pages;
}

abbrev pub decreases-loop-call : goal.decreases-loop-call
decreases-loop-call g l = calls_left l.spares
