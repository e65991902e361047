use Rattle.stepped_die.proofs.OneAnswer.{one_beginning}
use Rattle.stepped_die.proofs.laws.beginning_a_slot_has_one_answer.Goals as goal

pub returns : goal.returns
returns c = λ caller one other before left right s s' w w' e e' k k' b b' r r' c c'.
    one_beginning caller before one other left right
    (record { stopped = s; twice = w; end = e; stands = k; begun = b; refused = r; cause = c })
    (record { stopped = s'; twice = w'; end = e'; stands = k'; begun = b'; refused = r'; cause = c' })
