use Rattle.std.proofs.Common.{sym, ◌∙◌}
use Rattle.flash_c.proofs.Unresumed.{unwritten_above}
use Rattle.flash_c.proofs.planned_resumptions.flash_planned_checkpoint.Goals as goal

pub returns-in-Err-clause-said : goal.returns-in-Err-clause-said
returns-in-Err-clause-said g c = λ zero. absurd (unwritten_above c.in-Err.refusal (sym c.of_unwritten.ensures ∙ zero))

pub returns-in-Err-clause-well : goal.returns-in-Err-clause-well
returns-in-Err-clause-well g c = λ zero. absurd (unwritten_above c.in-Err.refusal (sym c.of_unwritten.ensures ∙ zero))
