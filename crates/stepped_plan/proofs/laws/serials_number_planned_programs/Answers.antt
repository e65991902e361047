use Rattle.stepped_plan.proofs.Numbering.{asked_on, new_numbers, numbers_on}
use Rattle.stepped_plan.proofs.laws.serials_number_planned_programs.Goals as goal

pub returns : goal.returns
returns c = record {
  new = new_numbers;
  asked = asked_on;
  slots = λ first l d part before after within begun ok bytes reply h asked e room is.
      numbers_on first l d part before after within begun h asked ok bytes reply e room is;
}
