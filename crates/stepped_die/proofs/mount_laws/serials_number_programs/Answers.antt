use Rattle.stepped_die.proofs.Numbering.{fresh_numbers, numbers_on, resumed_numbers}
use Rattle.stepped_die.proofs.mount_laws.serials_number_programs.Goals as goal

pub returns : goal.returns
returns c = record {
  ended = λ first ok bytes reply before after s h room is. numbers_on first before after s ok bytes reply h room is;
  renewed = λ first die is. is;
  resumed = resumed_numbers;
  new = fresh_numbers;
}
