use Rattle.std.proofs.Common.{subst, sym}
use Rattle.std.proofs.lemmas.Result.{IfErr-weaker, IfOk-weaker}
use Rattle.labelled_die.proofs.Seeing.{looked}
use Rattle.die_mount.specs.Beginning.{IsIdleIn}
use Rattle.die_mount.specs.Mounting.{BeginsWith}
use Rattle.die_mount.specs.Scanned.{IsScanOf}
use Rattle.power_loss.specs.Aside.{part_of}
use Rattle.power_loss.specs.Labels.{FitPlan, Labels, Shown}
use Rattle.power_loss.specs.Mounted.{all_count}
use Rattle.power_loss.specs.Recovery.{MayErase, without_block}
use Rattle.device_mount.specs.Parts.{KeepsPages}
use Rattle.device_mount.specs.Refusals.{LosesPage, RefusesBegin, RefusesMount}
use Rattle.device_mount.proofs.Again.{same_part, seen_long}
use Rattle.device_mount.proofs.Keeping.{idle_again, may_within, newest_of}
use Rattle.device_mount.proofs.Refusing.{by_begin, on_ok_so}
use Rattle.device_mount.proofs.undoing.undo.Goals as goal

pub keeps_pages-requires-clause-part : goal.keeps_pages-requires-clause-part
keeps_pages-requires-clause-part g c =
    same_part g.N.Nand.shape_of g.N.Nand.blocks g.N.LabelledNand.labels g.N.Nand.failures c.args.plan c.args.part.now c.scan_without.new.part
    c.requires.part c.in-Ok.ensures.same

pub keeps_pages-requires-clause-before : goal.keeps_pages-requires-clause-before
keeps_pages-requires-clause-before g c =
    subst (λ (l : Labels). IsScanOf (part_of c.args.plan) c.args.before.now l.blocks) (sym c.in-Ok.ensures.same.labels_are) c.requires.scanned

pub keeps_pages-requires-clause-again : goal.keeps_pages-requires-clause-again
keeps_pages-requires-clause-again g c =
    subst (λ (l : Labels). IsScanOf (part_of c.args.plan) c.in-Ok.again (without_block c.args.block l.blocks)) (sym c.in-Ok.ensures.same.labels_are)
    c.in-Ok.ensures.scanned

pub undone-requires-clause-scanned : goal.undone-requires-clause-scanned
undone-requires-clause-scanned g c = record {
  may = c.requires.part.of_plan.0;
  shape = c.in-Ok.ensures.scanned.shape;
  logical = c.in-Ok.ensures.scanned.logical;
}

pub returns-in-Ok-true-clause-begins : goal.returns-in-Ok-true-clause-begins
returns-in-Ok-true-clause-begins g c =
    let plan = c.args.plan in
    let seen = (g.N.LabelledNand.labels c.args.part.now).blocks in
    IfOk-weaker c.undone.result (λ mount. (s : Shown) → IsScanOf (part_of plan) c.args.before.now s
    → IsScanOf (part_of plan) c.in-Ok.again (without_block c.args.block s) → MayErase (part_of plan) all_count s c.args.block → BeginsWith plan s mount)
    (λ mount. FitPlan (part_of plan) seen → BeginsWith plan seen mount)
    (λ mount begins fit. begins seen c.requires.scanned c.in-Ok.ensures.scanned (c.requires.may fit)) c.undone.ensures.begins

pub returns-in-Ok-true-clause-keeps : goal.returns-in-Ok-true-clause-keeps
returns-in-Ok-true-clause-keeps g c =
    on_ok_so c.undone.result (subst (λ (l : Labels). FitPlan (part_of c.args.plan) l.blocks → KeepsPages c.args.plan l.blocks c.args.block)
    c.in-Ok.ensures.same.labels_are (c.in-Ok-true.ensures.kept c.in-Ok-true.field-0-test))

pub returns-in-Ok-true-clause-same : goal.returns-in-Ok-true-clause-same
returns-in-Ok-true-clause-same g c =
    on_ok_so c.undone.result (looked g.N.Nand.shape_of g.N.Nand.failures g.N.Nand.blocks g.N.LabelledNand.labels c.args.part.now
    c.scan_without.new.part c.keeps_pages.new.part c.in-Ok.ensures.same c.in-Ok-true.ensures.same)

pub returns-in-Ok-true-clause-refused : goal.returns-in-Ok-true-clause-refused
returns-in-Ok-true-clause-refused g c =
    let plan = c.args.plan in
    let seen = (g.N.LabelledNand.labels c.args.part.now).blocks in
    let long = seen_long g.N.Nand.shape_of g.N.Nand.blocks g.N.LabelledNand.labels g.N.Nand.failures plan c.args.part.now c.requires.part in
    IfErr-weaker c.undone.result (RefusesBegin (IsIdleIn c.in-Ok.again c.args.block))
    (RefusesMount plan (g.N.Nand.shape_of c.args.part.now) seen (g.N.Nand.failures c.keeps_pages.new.part))
    (λ refusal h. by_begin plan (g.N.Nand.shape_of c.args.part.now) seen (g.N.Nand.failures c.keeps_pages.new.part)
    (IsIdleIn c.in-Ok.again c.args.block) refusal c.requires.part.of_plan
    (λ fit. idle_again plan c.in-Ok.again seen c.args.block c.in-Ok.ensures.scanned (may_within plan seen c.args.block long (c.requires.may fit)) long) h)
    c.undone.ensures.refused

pub returns-in-Ok-false-clause-refused : goal.returns-in-Ok-false-clause-refused
returns-in-Ok-false-clause-refused g c =
    let plan = c.args.plan in
    let seen = (g.N.LabelledNand.labels c.args.part.now).blocks in (
      c.requires.part.of_plan,
      λ fit. record {
        none_idle = c.requires.none;
        newest = c.args.block;
        is_newest = newest_of plan seen c.args.block c.requires.none (c.requires.may fit);
        loses = subst (λ (l : Labels). LosesPage plan l.blocks c.args.block) c.in-Ok.ensures.same.labels_are (c.in-Ok-false.ensures.lost c.in-Ok-false.field-0-test);
      },
    )
