use Rattle.std.proofs.Common.{◌≡◌, ◌+◌, rules, ap, subst, below_more, arith, ℕ, Err}
use Rattle.slot_types.specs.declared.plans.Shape.{Shape}
use Rattle.die_mount.specs.Scanned.{IsScanOf}
use Rattle.die_mount.specs.Told.{HaveFitLabels, told_cells}
use Rattle.power_loss.specs.Aside.{part_of}
use Rattle.power_loss.specs.Labels.{Labels}
use Rattle.labelled_die.specs.Scanning.{blocks_shown, cells_shown, RefusesBlock, RefusesScan}
use Rattle.labelled_die.proofs.Seeing.{blocks_len, looked, refuses}
use Rattle.labelled_die.proofs.scanning.scan.Goals as goal

pub returns-in_err-scan-clause-fault : goal.returns-in_err-scan-clause-fault
returns-in_err-scan-clause-fault g c =
    let ls = g.N.LabelledNand.labels c.args.part.now in
    let fails = g.N.Nand.failures c.args.part.now in
    let e = c.in_err-scan.field-0.0 in
    let refused : c.from_residual.result ≡ Err e = search rules in
    rw refused (subst (λ (s : Shape). RefusesScan c.args.plan.now s ls.blocks fails e) c.shape-shape.ensures
    (c.in_err-scan.ensures.fault ls.blocks fails))

pub returns-in_err-tell_block-clause-fault : goal.returns-in_err-tell_block-clause-fault
returns-in_err-tell_block-clause-fault g c =
    let plan = c.args.plan.now in
    let ls = g.N.LabelledNand.labels c.args.part.now in
    let fails = g.N.Nand.failures c.tell_block.new.part in
    let e = c.in_err-tell_block.field-0.0 in
    let inv = c.loop-block.invariant in
    let refused : c.from_residual-in_err-tell_block.result ≡ Err e = search rules in
    rw refused (refuses plan (g.N.Nand.shape_of c.args.part.now) ls.blocks c.loop-block.block fails e c.in_ok-scan.ensures.plan
    (subst (λ (s : Shape). s ≡ (part_of plan).shape) c.shape-shape.ensures c.in_ok-scan.ensures.shape) inv.fit
    (subst (λ (l : Labels). RefusesBlock plan l.blocks c.loop-block.block fails e) inv.same.labels_are c.in_err-tell_block.ensures.fault))

pub returns-in_err-tell_block-clause-unchanged : goal.returns-in_err-tell_block-clause-unchanged
returns-in_err-tell_block-clause-unchanged g c =
    let e = c.in_err-tell_block.field-0.0 in
    let refused : c.from_residual-in_err-tell_block.result ≡ Err e = search rules in
    rw refused (λ other. looked g.N.Nand.shape_of g.N.Nand.failures g.N.Nand.blocks g.N.LabelledNand.labels c.args.part.now c.loop-block.part
    c.tell_block.new.part c.loop-block.invariant.same (c.in_err-tell_block.ensures.unchanged other))

pub loop-block-preserved : goal.loop-block-preserved
loop-block-preserved g c =
    let plan = c.args.plan.now in
    let ls = g.N.LabelledNand.labels c.args.part.now in
    let b = c.loop-block.block in
    let inv = c.loop-block.invariant in
    record {
      scan = subst (λ (l : Labels). IsScanOf (part_of plan) c.tell_block.new.scan (blocks_shown l.blocks plan.shape.pages (b + 1))) inv.same.labels_are
          c.in_ok-tell_block.ensures.scan;
      fit = below_more (λ (k : ℕ). HaveFitLabels plan.logical (told_cells (cells_shown ls.blocks k plan.shape.pages))) b inv.fit
          (subst (λ (l : Labels). HaveFitLabels plan.logical (told_cells (cells_shown l.blocks b plan.shape.pages))) inv.same.labels_are
          c.in_ok-tell_block.ensures.fit);
      untold = c.in_ok-tell_block.ensures.untold;
      room = omega (arith, c.in_ok-tell_block.ensures.room, inv.room);
      same = looked g.N.Nand.shape_of g.N.Nand.failures g.N.Nand.blocks g.N.LabelledNand.labels c.args.part.now c.loop-block.part c.tell_block.new.part
          inv.same c.in_ok-tell_block.ensures.same;
      lasts = λ had. c.tell_block.ensures.lasts (inv.lasts had);
    }

pub returns-clause-whole : goal.returns-clause-whole
returns-clause-whole g c =
    let inv = c.loop-block.invariant in
    omega (
      arith,
      inv.scan.told,
      blocks_len (g.N.LabelledNand.labels c.args.part.now).blocks c.args.plan.now.shape.pages c.loop-block.block,
      ap (λ (s : Shape). s.blocks) inv.scan.shape,
      ap (λ (s : Shape). s.blocks) c.in_ok-scan.ensures.shape,
      c.loop-block-test.false,
      c.loop-block.auto.block-end,
    )

pub returns-clause-fit : goal.returns-clause-fit
returns-clause-fit g c = λ block lt.
    c.loop-block.invariant.fit block (omega (arith, lt, c.loop-block-test.false, ap (λ (s : Shape). s.blocks) c.shape-shape.ensures))
