use Rattle.std.proofs.Common.{◌≡◌, ◌<◌, ℕ, false, length, None}
use Rattle.std.specs.Prelude.{slice_index_or}
use Rattle.spare_blocks.specs.Parts.{part_block}
use Rattle.spare_blocks.specs.Powering.{mark_at}
use Rattle.stepped_spares.proofs.started.labels_of.Given as goal

abbrev pub invariant-loop-page : goal.invariant-loop-page
invariant-loop-page g l = record {
  count : length l.labels.items ≡ l.page;
  labels : (k : ℕ) → k < l.page → slice_index_or l.labels.items k None ≡ mark_at (part_block (g.D.WearingNand.blocks l.initial.part) l.block) k;
  blocks : g.D.WearingNand.blocks l.part ≡ g.D.WearingNand.blocks l.initial.part;
  well : g.D.WearingNand.faulted l.part ≡ false;
  shape : g.D.WearingNand.shape_of l.part ≡ g.D.WearingNand.shape_of l.initial.part;
}
