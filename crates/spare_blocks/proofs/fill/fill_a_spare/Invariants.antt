use Rattle.std.proofs.Common.{◌≡◌, ◌≤◌, false, ℕ}
use Rattle.spare_blocks.specs.Parts.{part_block}
use Rattle.spare_blocks.specs.Tables.{IsSpare, spares_in}
use Rattle.spare_blocks.specs.Trying.{IsUsedUp, AreFree, cost_with}
use Rattle.spare_blocks.proofs.fill.fill_a_spare.Given as goal

abbrev pub invariant-loop-spare : goal.invariant-loop-spare
invariant-loop-spare g l = record {
  used : IsUsedUp l.initial.table l.table;
  well : g.D.WearingNand.faulted l.part ≡ false;
  free : AreFree l.table (g.D.WearingNand.blocks l.part);
  others : (x : ℕ) → (IsSpare l.initial.table x → ⊥)
      → part_block (g.D.WearingNand.blocks l.part) x ≡ part_block (g.D.WearingNand.blocks l.initial.part) x;
  next : g.D.WearingNand.next l.part ≡ g.D.WearingNand.next l.initial.part;
  shape : g.D.WearingNand.shape_of l.part ≡ g.D.WearingNand.shape_of l.initial.part;
  cost : cost_with (g.D.WearingNand.shape_of l.initial.part).pages l.table (g.D.WearingNand.spent l.part)
      ≤ cost_with (g.D.WearingNand.shape_of l.initial.part).pages l.initial.table (g.D.WearingNand.spent l.initial.part);
}

abbrev pub decreases-loop-spare : goal.decreases-loop-spare
decreases-loop-spare g l = spares_in l.table
