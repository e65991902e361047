use Rattle.std.proofs.Common.{subst}
use Rattle.planned_ports.specs.Ports.{TaskParts, IsAnswer}
use Rattle.planned_ports.proofs.Joining.{grown_own}
use Rattle.planned_ports.proofs.ports.TaskPort.question.Goals as goal

pub invariant_of-self : goal.invariant_of-self
invariant_of-self g c = rw (
  c.ask.ensures.same.1,
  grown_own c.self.inside.pass.view c.ask.new.pass.view c.number.ensures.live.0 c.ask.ensures.answer.0,
) c.self.invariant

pub returns-clause-answer : goal.returns-clause-answer
returns-clause-answer g c = subst (λ (p : TaskParts g.row.N.Denot). IsAnswer {N = g.row.N.Denot} c.args.query p.view c.ask.new.pass.view c.ask.result) c.self.view_is
    c.ask.ensures.answer
