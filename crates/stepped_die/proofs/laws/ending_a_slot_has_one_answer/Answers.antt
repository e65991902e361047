use Rattle.stepped_die.proofs.OneAnswer.{one_ending}
use Rattle.stepped_die.proofs.laws.ending_a_slot_has_one_answer.Goals as goal

pub returns : goal.returns
returns c = λ ok bytes one other here there before left right s s' i i' e e' f f' r r'.
    one_ending ok bytes before one other here there left right
    (record { stopped = s; idle = i; ended = e; failed = f; refused = r })
    (record { stopped = s'; idle = i'; ended = e'; failed = f'; refused = r' })
