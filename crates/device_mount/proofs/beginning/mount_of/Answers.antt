use Rattle.std.proofs.Common.{subst, sym}
use Rattle.std.specs.Prelude.{IfOk}
use Rattle.std.proofs.lemmas.Result.{IfErr-weaker, IfOk-weaker}
use Rattle.die_mount.specs.Beginning.{HasIdle}
use Rattle.die_mount.specs.Mounting.{BeginsWith}
use Rattle.die_mount.specs.Scanned.{IsScanOf}
use Rattle.power_loss.specs.Aside.{part_of}
use Rattle.power_loss.specs.Labels.{FitPlan, Labels, Shown}
use Rattle.part_mount.proofs.Powered.{has_all, is_quiet}
use Rattle.device_mount.specs.Parts.{BeginsSafely, KeepsPages}
use Rattle.device_mount.specs.Refusals.{RefusesBegin, RefusesMount}
use Rattle.device_mount.proofs.Again.{same_part, seen_long}
use Rattle.device_mount.proofs.Refusing.{by_begin, by_scan, ok_both}
use Rattle.device_mount.proofs.Starting.{has_idle, safe_first_idle, safe_undone, scan_is, scanned_part}
use Rattle.device_mount.proofs.beginning.mount_of.Goals as goal

pub scan-requires-clause-counted : goal.scan-requires-clause-counted
scan-requires-clause-counted g c =
    let p = c.args.part.now in
    has_all (g.N.Nand.shape_of p) (g.N.Nand.blocks p) (g.N.LabelledNand.labels p) (g.N.Nand.failures p) c.requires.powered

pub scan-requires-clause-quiet : goal.scan-requires-clause-quiet
scan-requires-clause-quiet g c =
    let p = c.args.part.now in
    is_quiet (g.N.Nand.shape_of p) (g.N.Nand.blocks p) (g.N.LabelledNand.labels p) (g.N.Nand.failures p) c.requires.powered

pub returns-in-Err-clause-refused : goal.returns-in-Err-clause-refused
returns-in-Err-clause-refused g c =
    let p = c.args.part.now in
    rw c.refusal_of.ensures (by_scan c.args.plan (g.N.Nand.shape_of p) (g.N.LabelledNand.labels p).blocks (g.N.Nand.failures c.scan.new.part)
    c.in-Err.fault c.in-Err.ensures.fault)

pub undo-requires-clause-part : goal.undo-requires-clause-part
undo-requires-clause-part g c =
    let ok = c.in-Ok.ensures in
    same_part g.N.Nand.shape_of g.N.Nand.blocks g.N.LabelledNand.labels g.N.Nand.failures c.args.plan c.args.part.now c.scan.new.part
    (scanned_part g.N.Nand.shape_of g.N.Nand.blocks g.N.LabelledNand.labels g.N.Nand.failures c.args.plan c.args.part.now c.requires.powered
    ok.plan ok.shape ok.fit) ok.same

pub undo-requires-clause-scanned : goal.undo-requires-clause-scanned
undo-requires-clause-scanned g c =
    let p = c.args.part.now in
    let ok = c.in-Ok.ensures in
    subst (λ (l : Labels). IsScanOf (part_of c.args.plan) c.in-Ok.before l.blocks) (sym ok.same.labels_are)
    (scan_is c.args.plan c.in-Ok.before (g.N.Nand.shape_of p) (g.N.Nand.blocks p) (g.N.LabelledNand.labels p) (g.N.Nand.failures p) c.requires.powered
    ok.scanned)

pub undo-requires-clause-none : goal.undo-requires-clause-none
undo-requires-clause-none g c =
    let p = c.args.part.now in
    let ok = c.in-Ok.ensures in
    let seen = (g.N.LabelledNand.labels c.scan.new.part).blocks in
    c.in-Undo.ensures.first (part_of c.args.plan) seen
    (subst (λ (l : Labels). IsScanOf (part_of c.args.plan) c.in-Ok.before l.blocks) (sym ok.same.labels_are)
    (scan_is c.args.plan c.in-Ok.before (g.N.Nand.shape_of p) (g.N.Nand.blocks p) (g.N.LabelledNand.labels p) (g.N.Nand.failures p) c.requires.powered
    ok.scanned))

pub undo-requires-clause-may : goal.undo-requires-clause-may
undo-requires-clause-may g c =
    let p = c.args.part.now in
    let ok = c.in-Ok.ensures in
    let seen = (g.N.LabelledNand.labels c.scan.new.part).blocks in
    c.in-Undo.ensures.may (part_of c.args.plan) seen
    (subst (λ (l : Labels). IsScanOf (part_of c.args.plan) c.in-Ok.before l.blocks) (sym ok.same.labels_are)
    (scan_is c.args.plan c.in-Ok.before (g.N.Nand.shape_of p) (g.N.Nand.blocks p) (g.N.LabelledNand.labels p) (g.N.Nand.failures p) c.requires.powered
    ok.scanned))

pub returns-in-Idle-clause-begins : goal.returns-in-Idle-clause-begins
returns-in-Idle-clause-begins g c =
    let p = c.args.part.now in
    let plan = c.args.plan in
    let seen = (g.N.LabelledNand.labels p).blocks in
    let scanned = scan_is plan c.in-Ok.before (g.N.Nand.shape_of p) (g.N.Nand.blocks p) (g.N.LabelledNand.labels p) (g.N.Nand.failures p) c.requires.powered
    c.in-Ok.ensures.scanned in
    IfOk-weaker c.begin_idle.result (λ mount. (s : Shown) → IsScanOf (part_of plan) c.in-Ok.before s → FitPlan (part_of plan) s → BeginsWith plan s mount)
    (λ mount. FitPlan (part_of plan) seen → BeginsWith plan seen mount) (λ mount begins fit. begins seen scanned fit) c.begin_idle.ensures.begins

pub returns-in-Idle-clause-safe : goal.returns-in-Idle-clause-safe
returns-in-Idle-clause-safe g c =
    let p = c.args.part.now in
    let plan = c.args.plan in
    let seen = (g.N.LabelledNand.labels p).blocks in
    let scanned = scan_is plan c.in-Ok.before (g.N.Nand.shape_of p) (g.N.Nand.blocks p) (g.N.LabelledNand.labels p) (g.N.Nand.failures p) c.requires.powered
    c.in-Ok.ensures.scanned in
    ok_both c.begin_idle.result (λ m f begins. safe_first_idle plan seen m c.in-Idle.block f (λ fit. begins seen scanned fit)
    (c.in-Idle.ensures.first (part_of plan) seen scanned).0 (c.in-Idle.ensures.may (part_of plan) seen scanned))
    c.begin_idle.ensures.first c.begin_idle.ensures.begins

pub returns-in-Idle-clause-refused : goal.returns-in-Idle-clause-refused
returns-in-Idle-clause-refused g c =
    let p = c.args.part.now in
    let plan = c.args.plan in
    let ok = c.in-Ok.ensures in
    let seen = (g.N.LabelledNand.labels p).blocks in
    let scanned = scan_is plan c.in-Ok.before (g.N.Nand.shape_of p) (g.N.Nand.blocks p) (g.N.LabelledNand.labels p) (g.N.Nand.failures p) c.requires.powered
    ok.scanned in
    let long = seen_long g.N.Nand.shape_of g.N.Nand.blocks g.N.LabelledNand.labels g.N.Nand.failures plan p
    (scanned_part g.N.Nand.shape_of g.N.Nand.blocks g.N.LabelledNand.labels g.N.Nand.failures plan p c.requires.powered ok.plan ok.shape ok.fit) in
    IfErr-weaker c.begin_idle.result (RefusesBegin (HasIdle c.in-Ok.before))
    (RefusesMount plan (g.N.Nand.shape_of p) seen (g.N.Nand.failures c.scan.new.part))
    (λ refusal h. by_begin plan (g.N.Nand.shape_of p) seen (g.N.Nand.failures c.scan.new.part) (HasIdle c.in-Ok.before) refusal (ok.plan, ok.shape)
    (λ fit. has_idle plan c.in-Ok.before seen c.in-Idle.block scanned long (c.in-Idle.ensures.first (part_of plan) seen scanned).0
    (c.in-Idle.ensures.may (part_of plan) seen scanned fit)) h)
    c.begin_idle.ensures.refused

pub returns-in-Undo-clause-safe : goal.returns-in-Undo-clause-safe
returns-in-Undo-clause-safe g c =
    let p = c.args.part.now in
    let plan = c.args.plan in
    let ok = c.in-Ok.ensures in
    let later = (g.N.LabelledNand.labels c.scan.new.part).blocks in
    let scanned = subst (λ (l : Labels). IsScanOf (part_of plan) c.in-Ok.before l.blocks) (sym ok.same.labels_are)
    (scan_is plan c.in-Ok.before (g.N.Nand.shape_of p) (g.N.Nand.blocks p) (g.N.LabelledNand.labels p) (g.N.Nand.failures p) c.requires.powered ok.scanned) in
    subst (λ (l : Labels). IfOk c.undo.result (BeginsSafely plan l.blocks)) ok.same.labels_are
    (ok_both {Q = λ m. (FitPlan (part_of plan) later → BeginsWith plan later m) × (FitPlan (part_of plan) later → KeepsPages plan later c.in-Undo.block)}
    c.undo.result (λ m f more. safe_undone plan later m c.in-Undo.block f more.0 (c.in-Undo.ensures.first (part_of plan) later scanned)
    (c.in-Undo.ensures.may (part_of plan) later scanned) more.1) c.undo.ensures.first
    (ok_both c.undo.result (λ m begins keeps. (begins, keeps)) c.undo.ensures.begins c.undo.ensures.keeps))
