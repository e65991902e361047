use Rattle.planned_ports.proofs.Isolating.{shared_goes_on, shared_in_time}
use Rattle.planned_ports.proofs.laws.shared_dies_are_in_time.Goals as goal

pub returns-clause-goes_on : goal.returns-clause-goes_on
returns-clause-goes_on g c = λ opened first d calls ran. shared_goes_on c.a_die_goes_on_by_itself.ensures.goes_on_ahead opened first d calls ran

pub returns-clause-in_time : goal.returns-clause-in_time
returns-clause-in_time g c = λ opened first d calls ran. shared_in_time c.a_die_goes_on_by_itself.ensures.goes_on_ahead opened first d calls ran
    c.kept_logs_are_in_time.ensures.jobs
