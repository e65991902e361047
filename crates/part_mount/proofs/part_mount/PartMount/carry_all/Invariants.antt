use Rattle.std.proofs.Common.{◌≡◌, false, List}
use Rattle.slot_types.specs.declared.pages.PageData.{PageData}
use Rattle.die_mount.specs.Mounting.{calls_left}
use Rattle.power_loss.specs.Labels.{Shown}
use Rattle.part_mount.specs.Going.{GoesBySeen}
use Rattle.part_mount.proofs.part_mount.PartMount.carry_all.Given as goal

abbrev pub invariant-loop : goal.invariant-loop
invariant-loop g l = record {
  plan : l.self.mount.plan ≡ l.initial.self.mount.plan;
  well : l.initial.self.failed ≡ false → l.self.failed ≡ false;
  goes_on : (pages : List PageData) (seen : Shown) → GoesBySeen g.N.LabelledNand.labels pages seen l.initial.self
      → GoesBySeen g.N.LabelledNand.labels pages seen l.self;
  lasts : g.N.LabelledNand.lasts l.initial.self.part → g.N.LabelledNand.lasts l.self.part;
}

abbrev pub decreases-loop : goal.decreases-loop
decreases-loop g l = calls_left l.self.mount
