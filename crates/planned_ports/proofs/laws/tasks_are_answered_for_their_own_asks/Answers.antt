use Rattle.planned_ports.proofs.Isolating.{same_granted, same_next, same_next_at}
use Rattle.planned_ports.proofs.laws.tasks_are_answered_for_their_own_asks.Goals as goal

pub returns-clause-granted : goal.returns-clause-granted
returns-clause-granted g c = λ task opened again first other one two calls others h.
    same_granted c.ongoing_tasks_are_answered_for_their_own_asks.ensures.ahead task opened again first other one two calls others h

pub returns-clause-next : goal.returns-clause-next
returns-clause-next g c = λ task opened again first other one two calls others h.
    same_next c.ongoing_tasks_are_answered_for_their_own_asks.ensures.ahead task opened again first other one two calls others h

pub returns-clause-next_at : goal.returns-clause-next_at
returns-clause-next_at g c = λ task opened again first other one two calls others h.
    same_next_at c.ongoing_tasks_are_answered_for_their_own_asks.ensures.ahead task opened again first other one two calls others h
