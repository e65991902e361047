use Rattle.std.proofs.Common.{subst}
use Rattle.planned_ports.specs.Ports.{ClockParts, IsClock}
use Rattle.planned_ports.proofs.Joining.{grown_own}
use Rattle.planned_ports.proofs.ports.ClockPort.clock.Goals as goal

pub invariant_of-self : goal.invariant_of-self
invariant_of-self g c = rw (
  c.ask.ensures.same.1,
  grown_own c.self.inside.pass.view c.ask.new.pass.view c.number.ensures.live.0 c.ask.ensures.answer.0,
) c.self.invariant

pub returns-clause-clock : goal.returns-clause-clock
returns-clause-clock g c = subst (λ (p : ClockParts g.row.N.Denot). IsClock {N = g.row.N.Denot} p.view c.ask.new.pass.view c.ask.result) c.self.view_is
    c.ask.ensures.answer
