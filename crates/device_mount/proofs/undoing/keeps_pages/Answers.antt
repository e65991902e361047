use Rattle.std.proofs.Common.{ℕ, arith, below_more, subst, sym}
use Rattle.labelled_die.proofs.Seeing.{looked}
use Rattle.die_mount.specs.Scanned.{IsScanOf}
use Rattle.power_loss.specs.Aside.{part_of}
use Rattle.power_loss.specs.Labels.{FitPlan, Labels}
use Rattle.power_loss.specs.Recovery.{without_block}
use Rattle.device_mount.specs.Parts.{KeepsPage}
use Rattle.device_mount.proofs.Again.{same_part}
use Rattle.device_mount.proofs.undoing.keeps_pages.Goals as goal

pub keeps_page-requires-clause-part : goal.keeps_page-requires-clause-part
keeps_page-requires-clause-part g c =
    same_part g.N.Nand.shape_of g.N.Nand.blocks g.N.LabelledNand.labels g.N.Nand.failures c.args.plan.now c.args.part.now c.loop-page.part
    c.requires.part c.loop-page.invariant.same

pub keeps_page-requires-clause-before : goal.keeps_page-requires-clause-before
keeps_page-requires-clause-before g c =
    subst (λ (l : Labels). IsScanOf (part_of c.args.plan.now) c.args.before.now l.blocks) (sym c.loop-page.invariant.same.labels_are) c.requires.before

pub keeps_page-requires-clause-again : goal.keeps_page-requires-clause-again
keeps_page-requires-clause-again g c =
    subst (λ (l : Labels). IsScanOf (part_of c.args.plan.now) c.args.again.now (without_block c.args.without l.blocks))
    (sym c.loop-page.invariant.same.labels_are) c.requires.again

pub loop-page-preserved : goal.loop-page-preserved
loop-page-preserved g c =
    let inv = c.loop-page.invariant in
    let seen = (g.N.LabelledNand.labels c.args.part.now).blocks in
    record {
      kept = below_more (λ (k : ℕ). FitPlan (part_of c.args.plan.now) seen → KeepsPage seen c.args.without k) c.loop-page.page inv.kept
          (subst (λ (l : Labels). FitPlan (part_of c.args.plan.now) l.blocks → KeepsPage l.blocks c.args.without c.loop-page.page) inv.same.labels_are
          (c.in-Ok-true.ensures.kept c.in-Ok-true.field-0-test));
      same = looked g.N.Nand.shape_of g.N.Nand.failures g.N.Nand.blocks g.N.LabelledNand.labels c.args.part.now c.loop-page.part c.keeps_page.new.part
          inv.same c.in-Ok-true.ensures.same;
      lasts = λ had. c.keeps_page.ensures.lasts (inv.lasts had);
    }

pub returns-in-Ok-false-clause-lost : goal.returns-in-Ok-false-clause-lost
returns-in-Ok-false-clause-lost g c = λ _. (
  c.loop-page.page,
  c.loop-page-test.true,
  subst (λ (l : Labels). KeepsPage l.blocks c.args.without c.loop-page.page → ⊥) c.loop-page.invariant.same.labels_are (c.in-Ok-false.ensures.lost c.in-Ok-false.field-0-test),
)

pub returns-in-Ok-false-clause-same : goal.returns-in-Ok-false-clause-same
returns-in-Ok-false-clause-same g c =
    looked g.N.Nand.shape_of g.N.Nand.failures g.N.Nand.blocks g.N.LabelledNand.labels c.args.part.now c.loop-page.part c.keeps_page.new.part
    c.loop-page.invariant.same c.in-Ok-false.ensures.same

pub returns-clause-kept : goal.returns-clause-kept
returns-clause-kept g c = λ _ fit page lt. c.loop-page.invariant.kept page (omega (arith, lt, c.loop-page-test.false)) fit
