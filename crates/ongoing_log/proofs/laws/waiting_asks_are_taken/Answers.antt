use Rattle.ongoing_log.proofs.Taken.{ask_kept, stays, is_taken, enters, waits_for_few, waits_ahead}
use Rattle.ongoing_log.proofs.laws.waiting_asks_are_taken.Goals as goal

pub returns : goal.returns
returns c = record {
  kept = λ first terms life long d k kind caller task release due at ops e. ask_kept first terms life long d k kind caller task release due at ops e;
  stays = λ first terms life long d k move task w e. stays first terms life long d k task w e move;
  taken = λ first terms life long d k caller task w e here. is_taken first terms life long d k task w e caller here;
  enters = λ first terms life long d k caller task w e here. enters first terms life long d k task w e caller here;
  soon = λ first terms life d k kind task release due ops e. waits_for_few first terms life d k kind task ops release due e;
  ahead = λ first terms life d k kind task release due at ops e. waits_ahead first terms life d k kind task ops at release due e;
}
