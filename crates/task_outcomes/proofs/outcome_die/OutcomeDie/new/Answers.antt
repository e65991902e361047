use Rattle.std.proofs.Common.{map, ap, ◌∙◌}
use Rattle.demand_rules.specs.declared.terms.Terms.{Terms}
use Rattle.planned_die.specs.Planned.{Planned}
use Rattle.task_outcomes.specs.Queues.{Queue, room_for}
use Rattle.task_outcomes.proofs.Rooms.{new_rooms}
use Rattle.task_outcomes.proofs.outcome_die.OutcomeDie.new.Goals as goal

pub invariant_of-result : goal.invariant_of-result
invariant_of-result g c =
    ap (map (λ (q : Queue). q.room)) c.in-Ok.ensures
    ∙ (new_rooms c.terms.result.now.tasks
    ∙ ap (λ (t : Terms). map room_for t.tasks) (c.terms.ensures ∙ ap (λ (p : Planned g.row.N.Denot). p.terms) c.die.ensures))
