use Rattle.slot_core.proofs.OneAnswer.{one_answer}
use Rattle.slot_core.proofs.laws.a_call_has_one_answer.Goals as goal

pub returns : goal.returns
returns g c = one_answer g.N.Nand.ends g.N.Nand.failures g.N.Nand.never_fails
