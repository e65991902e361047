use Rattle.ongoing_die.proofs.Unrefused.{unrefused}
use Rattle.ongoing_die.proofs.laws.stocked_checkpoints_go_on.Goals as goal

pub returns : goal.returns
returns c = unrefused c.a_resumption_has_one_answer.ensures.either
