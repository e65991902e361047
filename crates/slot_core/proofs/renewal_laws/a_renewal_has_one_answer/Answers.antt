use Rattle.slot_core.proofs.Refusing.{one_renewal_refusal, refusal_or_renewal}
use Rattle.slot_core.proofs.renewal_laws.a_renewal_has_one_answer.Goals as goal

pub returns-clause-refused : goal.returns-clause-refused
returns-clause-refused g c = λ one other before. one_renewal_refusal before one other

pub returns-clause-either : goal.returns-clause-either
returns-clause-either g c = λ refusal before. refusal_or_renewal before refusal
