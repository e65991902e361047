use Rattle.stepped_die.proofs.OneAnswer.{one_arrival}
use Rattle.stepped_die.proofs.laws.an_arrival_has_one_answer.Goals as goal

pub returns : goal.returns
returns c = λ caller release event one other before left right arrives s s' h h' t t' k k' p p' c c' r r'.
    one_arrival caller release event before arrives one other left right
    (record { stopped = s; held = h; taken = t; begun = k; part = p; cause = c; refused = r })
    (record { stopped = s'; held = h'; taken = t'; begun = k'; part = p'; cause = c'; refused = r' })
