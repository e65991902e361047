use Rattle.std.proofs.Common.{true, ap, sym, ◌∙◌}
use Rattle.stepped_die.specs.declared.part.Part.{Part}
use Rattle.flash_c.specs.Checkpoints.{part_in}
use Rattle.flash_c.proofs.KeptResuming.{is_kept, says_resumed, says_unresumed}
use Rattle.flash_c.proofs.Unresumed.{memory_is_alone, unresumed_above}
use Rattle.flash_c.proofs.planned_resumptions.flash_planned_resume.Goals as goal

pub returns-in-Ok-clause-made : goal.returns-in-Ok-clause-made
returns-in-Ok-clause-made c = λ zero. is_kept c.put_kept.ensures

pub returns-in-Ok-clause-goes_on : goal.returns-in-Ok-clause-goes_on
returns-in-Ok-clause-goes_on c = λ zero.
    says_resumed c.in-Ok-Ok.plan _ c.in-Ok-Ok.terms _ c.args.longest c.in-Ok-Ok-2.checkpoint _ c.in-Ok-Ok.ensures.plan c.in-Ok-Ok.ensures'.terms
    c.in-Ok-Ok-2.ensures.checkpoint c.resume-made.result _ _ c.part_in.result (part_in c.args.part.now) c.in-Ok.kept.value
    (c.as_slice.ensures ∙ c.in-Ok-Ok-2.ensures'.pages) (ap (λ (p : Part). record p { stands = true }) c.part_in.ensures)
    c.in-Ok.ensures.ok c.resume-made.ensures.goes_on c.resume-made.ensures.part c.resume-made.ensures.room c.put_kept.ensures

pub returns-clause-made : goal.returns-clause-made
returns-clause-made c = λ zero. absurd (unresumed_above c.in-Err.refusal (sym c.of_unresumed.ensures ∙ zero))

pub returns-clause-goes_on : goal.returns-clause-goes_on
returns-clause-goes_on c = λ zero. absurd (unresumed_above c.in-Err.refusal (sym c.of_unresumed.ensures ∙ zero))

pub returns-clause-cause : goal.returns-clause-cause
returns-clause-cause c = λ fails other.
    says_unresumed c.in-Ok-Ok.plan _ c.in-Ok-Ok.terms _ c.args.longest c.in-Ok-Ok-2.checkpoint _ c.in-Ok-Ok.ensures.plan c.in-Ok-Ok.ensures'.terms
    c.in-Ok-Ok-2.ensures.checkpoint c.resume-made.result c.in-Err.refusal c.of_unresumed.result c.unresumed_why.result c.in-Err.ensures.refused
    c.resume-made.ensures.refused c.of_unresumed.ensures c.unresumed_why.ensures other

pub returns-clause-memory : goal.returns-clause-memory
returns-clause-memory c = λ one. c.unresumed_why.ensures ∙ memory_is_alone c.in-Err.refusal (sym c.of_unresumed.ensures ∙ one)

pub returns-clause-well : goal.returns-clause-well
returns-clause-well c = λ zero. absurd (unresumed_above c.in-Err.refusal (sym c.of_unresumed.ensures ∙ zero))
