use Rattle.std.proofs.Common.{sym, ◌∙◌}
use Rattle.flash_c.proofs.Faults.{no_memory_names_nothing, reports_fault}
use Rattle.flash_c.proofs.checkpoints.flash_resume.Goals as goal

pub returns-in-Err-resume-clause-cause : goal.returns-in-Err-resume-clause-cause
returns-in-Err-resume-clause-cause c = λ timed fails memory.
    reports_fault c.in-Ok.plan _ c.in-Ok-checkpoint_in.checkpoint _ c.in-Err-resume.fault c.of_fault.result c.fault_why.result
    c.in-Ok.ensures.plan c.in-Ok-checkpoint_in.ensures.checkpoint c.in-Err-resume.ensures.refused c.of_fault.ensures c.fault_why.ensures

pub returns-in-Err-resume-clause-memory : goal.returns-in-Err-resume-clause-memory
returns-in-Err-resume-clause-memory c = λ none.
    c.fault_why.ensures ∙ no_memory_names_nothing c.in-Err-resume.fault (sym c.of_fault.ensures ∙ none)
