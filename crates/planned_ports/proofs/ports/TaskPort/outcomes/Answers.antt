use Rattle.std.proofs.Common.{Some, subst, ap}
use Rattle.planned_ports.specs.declared.calls.Query.TheVariants as queries
use Rattle.planned_ports.specs.Ports.{TaskParts, IsAnswer}
use Rattle.planned_ports.proofs.ports.TaskPort.outcomes.Goals as goal

pub returns-clause-outcomes : goal.returns-clause-outcomes
returns-clause-outcomes g c =
    subst (λ n. IsAnswer {N = g.row.N.Denot} (queries.Outcomes n) c.args.self.now.view c.question-2.new.self.view (Some c.in-Some.count))
    (ap (λ (p : TaskParts g.row.N.Denot). p.task) c.question.view_is) c.in-Some.ensures.answer
