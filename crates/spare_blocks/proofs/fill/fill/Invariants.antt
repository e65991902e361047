use Rattle.std.proofs.Common.{◌≡◌, ◌+◌, ◌*◌, ◌≤◌, false, take}
use Rattle.spare_blocks.specs.Parts.{part_block}
use Rattle.spare_blocks.specs.Trying.{IsOnlyAt}
use Rattle.spare_blocks.proofs.fill.fill.Given as goal

abbrev pub invariant-loop-cell : goal.invariant-loop-cell
invariant-loop-cell g l = record {
  well : g.D.WearingNand.faulted l.part ≡ false;
  target : part_block (g.D.WearingNand.blocks l.part) l.to ≡ record {
    cells = take l.cell (part_block (g.D.WearingNand.blocks l.initial.part) l.from).cells;
    erasing = 0;
    failed = false;
  };
  others : IsOnlyAt l.to (g.D.WearingNand.blocks l.initial.part) (g.D.WearingNand.blocks l.part);
  next : g.D.WearingNand.next l.part ≡ g.D.WearingNand.next l.initial.part;
  shape : g.D.WearingNand.shape_of l.part ≡ g.D.WearingNand.shape_of l.initial.part;
  spent : g.D.WearingNand.spent l.part ≤ g.D.WearingNand.spent l.initial.part + 2 * l.cell;
}
