use Rattle.std.proofs.Common.{◌∙◌, Some, ap, refl, subst, sym}
use Rattle.labelled_die.proofs.Seeing.{looked}
use Rattle.power_loss.specs.Labels.{Labels}
use Rattle.power_loss.specs.Mounted.{bytes_at}
use Rattle.device_mount.specs.Parts.{HasLabel}
use Rattle.device_mount.proofs.Again.{same_part}
use Rattle.device_mount.proofs.Keeping.{same_iff}
use Rattle.device_mount.proofs.undoing.has_same_bytes.Goals as goal

pub returns-in-None-clause-bytes : goal.returns-in-None-clause-bytes
returns-in-None-clause-bytes g c = rw c.in-None.is (same_iff _ _ _ _ _ c.are_same.ensures c.in-Ok.ensures.bytes refl)

pub read_labelled-requires-in-Some-clause-part : goal.read_labelled-requires-in-Some-clause-part
read_labelled-requires-in-Some-clause-part g c =
    same_part g.N.Nand.shape_of g.N.Nand.blocks g.N.LabelledNand.labels g.N.Nand.failures c.args.plan.now c.args.part.now c.read_labelled.new.part c.requires.part c.in-Ok.ensures.same

pub read_labelled-requires-in-Some-clause-label : goal.read_labelled-requires-in-Some-clause-label
read_labelled-requires-in-Some-clause-label g c =
    subst (λ (l : Labels). HasLabel l.blocks c.in-Some.place) (sym c.in-Ok.ensures.same.labels_are) (rw c.in-Some.is at c.requires.other)

pub returns-in-Ok-read_labelled-clause-bytes : goal.returns-in-Ok-read_labelled-clause-bytes
returns-in-Ok-read_labelled-clause-bytes g c =
    rw c.in-Some.is (same_iff _ _ _ _ _ c.are_same-in-Ok-read_labelled.ensures c.in-Ok.ensures.bytes
    (c.in-Ok-read_labelled.ensures.bytes ∙ ap (λ (l : Labels). bytes_at l.blocks (Some c.in-Some.place)) c.in-Ok.ensures.same.labels_are))

pub returns-in-Ok-read_labelled-clause-same : goal.returns-in-Ok-read_labelled-clause-same
returns-in-Ok-read_labelled-clause-same g c =
    looked g.N.Nand.shape_of g.N.Nand.failures g.N.Nand.blocks g.N.LabelledNand.labels c.args.part.now c.read_labelled.new.part
    c.read_labelled-in-Some.new.part c.in-Ok.ensures.same c.in-Ok-read_labelled.ensures.same
