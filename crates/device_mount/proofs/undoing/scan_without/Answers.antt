use Rattle.std.proofs.Common.{◌+◌, ◌∙◌, arith, subst, sym, take}
use Rattle.die_mount.specs.Scanned.{IsScanOf}
use Rattle.labelled_die.proofs.Passing.{of_ok}
use Rattle.labelled_die.proofs.Seeing.{looked}
use Rattle.power_loss.specs.Aside.{part_of}
use Rattle.power_loss.specs.Labels.{Labels}
use Rattle.power_loss.specs.Recovery.{without_block}
use Rattle.device_mount.proofs.Again.{same_part, told_all, whole_again}
use Rattle.device_mount.proofs.undoing.scan_without.Goals as goal

pub tell_again-requires-clause-part : goal.tell_again-requires-clause-part
tell_again-requires-clause-part g c =
    same_part g.N.Nand.shape_of g.N.Nand.blocks g.N.LabelledNand.labels g.N.Nand.failures c.args.plan.now c.args.part.now c.loop-block.part
    c.requires.part c.loop-block.invariant.same

pub tell_again-requires-clause-scan : goal.tell_again-requires-clause-scan
tell_again-requires-clause-scan g c =
    subst (λ (l : Labels). IsScanOf (part_of c.args.plan.now) c.loop-block.scan (take c.loop-block.block (without_block c.args.without l.blocks)))
    (sym c.loop-block.invariant.same.labels_are) c.loop-block.invariant.scan

pub loop-block-preserved : goal.loop-block-preserved
loop-block-preserved g c =
    let inv = c.loop-block.invariant in
    record {
      scan = subst (λ (l : Labels). IsScanOf (part_of c.args.plan.now) c.tell_again.new.scan
          (take (c.loop-block.block + 1) (without_block c.args.without l.blocks))) inv.same.labels_are (of_ok c.tell_again.result (sym c.is_err.ensures.value ∙ c.if-is_err.false) c.tell_again.ensures.scan);
      room = omega (arith, c.tell_again.ensures.room, inv.room);
      same = looked g.N.Nand.shape_of g.N.Nand.failures g.N.Nand.blocks g.N.LabelledNand.labels c.args.part.now c.loop-block.part c.tell_again.new.part
          inv.same (of_ok c.tell_again.result (sym c.is_err.ensures.value ∙ c.if-is_err.false) c.tell_again.ensures.same);
      lasts = λ had. c.tell_again.ensures.lasts (inv.lasts had);
    }

pub returns-clause-scanned : goal.returns-clause-scanned
returns-clause-scanned g c =
    told_all g.N.Nand.shape_of g.N.Nand.blocks g.N.LabelledNand.labels g.N.Nand.failures c.args.plan.now c.args.part.now c.requires.part
    c.loop-block.block c.args.without c.loop-block.scan c.loop-block-test.false c.loop-block.invariant.scan

pub returns-clause-whole : goal.returns-clause-whole
returns-clause-whole g c =
    whole_again g.N.Nand.shape_of g.N.Nand.blocks g.N.LabelledNand.labels g.N.Nand.failures c.args.plan.now c.args.part.now c.requires.part
    c.args.without c.loop-block.scan
    (told_all g.N.Nand.shape_of g.N.Nand.blocks g.N.LabelledNand.labels g.N.Nand.failures c.args.plan.now c.args.part.now c.requires.part
    c.loop-block.block c.args.without c.loop-block.scan c.loop-block-test.false c.loop-block.invariant.scan)
