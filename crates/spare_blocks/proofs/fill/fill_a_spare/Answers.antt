use Rattle.std.proofs.Common.{◌≡◌, ◌∙◌, subst}
use Rattle.spare_blocks.specs.declared.cells.Ended.{Ended}
use Rattle.spare_blocks.specs.Parts.{serial_after}
use Rattle.spare_blocks.proofs.Tries.{tried_one}
use Rattle.spare_blocks.proofs.fill.fill_a_spare.Goals as goal

pub loop-spare-preserved : goal.loop-spare-preserved
loop-spare-preserved g c =
    let i = c.loop-spare.invariant in
    let r = tried_one c.args.table.now c.loop-spare.table c.give_up.new.self (g.D.WearingNand.blocks c.args.part.now)
    (g.D.WearingNand.blocks c.loop-spare.part) (g.D.WearingNand.blocks c.fill.new.part) (g.D.WearingNand.shape_of c.args.part.now).pages
    _ (g.D.WearingNand.spent c.loop-spare.part) (g.D.WearingNand.spent c.fill.new.part) c.args.cells c.in-Some.spare c.first_spare.ensures.sound
    i.used i.free i.others i.cost c.in-Some.ensures.spare c.in_ok-fill.ensures.filled.others c.fill.ensures.spent c.requires.room c.give_up.ensures in
    record {
      used = r.used;
      well = c.in_ok-fill.ensures.faults.well;
      free = r.free;
      others = r.others;
      next = subst (λ (e : Ended). g.D.WearingNand.next c.fill.new.part ≡ serial_after e c.args.page (g.D.WearingNand.next c.loop-spare.part))
          c.in-Failed.is c.in_ok-fill.ensures.next ∙ i.next;
      shape = c.fill.ensures.shape ∙ i.shape;
      cost = r.cost;
    }
