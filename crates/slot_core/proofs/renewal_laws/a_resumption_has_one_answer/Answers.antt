use Rattle.slot_core.proofs.Refusing.{one_resume_refusal, refusal_or_resumption}
use Rattle.slot_core.proofs.renewal_laws.a_resumption_has_one_answer.Goals as goal

pub returns-clause-refused : goal.returns-clause-refused
returns-clause-refused c = one_resume_refusal

pub returns-clause-either : goal.returns-clause-either
returns-clause-either c = refusal_or_resumption
