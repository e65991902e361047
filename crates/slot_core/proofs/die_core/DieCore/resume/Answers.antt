use Rattle.std.proofs.Common.{sym, ◌∙◌}
use Rattle.slot_core.proofs.Keeping.{same_shape}
use Rattle.slot_core.proofs.die_core.DieCore.resume.Goals as goal

pub resume-requires-clause-left : goal.resume-requires-clause-left
resume-requires-clause-left g c =
    c.requires.left (sym c.shape.ensures ∙ same_shape c.shape.result c.args.plan.shape c.if-ne.ensures) c.in-Ok.ensures.fits
