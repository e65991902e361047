use Rattle.stepped_die.proofs.Arriving.{arrival_leaves}
use Rattle.stepped_die.proofs.laws.arrivals_leave_the_slot.Goals as goal

pub returns : goal.returns
returns c = record {
  answer = λ start past caller event number opens exact taken beyond.
      (arrival_leaves start past caller event number opens exact taken beyond).0;
  call = λ start past caller event number opens exact taken beyond.
      (arrival_leaves start past caller event number opens exact taken beyond).1;
}
