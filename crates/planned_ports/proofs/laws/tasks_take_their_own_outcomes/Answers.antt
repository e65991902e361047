use Rattle.planned_ports.proofs.Isolating.{accounted}
use Rattle.planned_ports.proofs.laws.tasks_take_their_own_outcomes.Goals as goal

pub returns : goal.returns
returns g c = λ task opened first d calls ran lt. accounted c.outcomes_are_told_once.ensures task opened first d calls ran lt
