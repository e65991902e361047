use Rattle.ongoing_log.proofs.GoingOn.{new_goes_on, goes_on_for_ever, goes_on_ahead}
use Rattle.ongoing_log.proofs.laws.a_die_goes_on_by_itself.Goals as goal

pub returns : goal.returns
returns c = record {
  begins = λ first terms life long full. new_goes_on first terms life long full;
  goes_on = λ first terms life long d k moves. goes_on_for_ever first terms life long d k moves;
  goes_on_ahead = λ first terms life long d k moves. goes_on_ahead first terms life long d k moves;
}
