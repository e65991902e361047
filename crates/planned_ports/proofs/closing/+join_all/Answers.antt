use Rattle.std.proofs.Common.{sym, subst}
use Rattle.planned_ports.specs.Closing.{HaveJoined}
use Rattle.planned_ports.proofs.Joining.{joined_one_more}
use Rattle.planned_ports.proofs.closing.+join_all.Goals as goal

pub returns-clause-joined : goal.returns-clause-joined
returns-clause-joined g t c =
    subst (λ ports. HaveJoined {N = g.row.N.Denot} c.args.pass.now ports c.join_all.new.pass) (sym c.in-Some.ensures.items)
    (joined_one_more c.args.pass.now c.join_pass.new.pass c.join_all.new.pass c.pop.new.self.items c.in-Some.port c.join_pass.ensures.same
    (rw (← c.port.view_is) c.join_pass.ensures.joined) c.join_all.ensures.joined)
