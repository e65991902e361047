use Rattle.std.proofs.Common.{ap, ◌∙◌}
use Rattle.turn_lock.specs.Log.{calls_by}
use Rattle.planned_ports.specs.Ports.{PortView}
use Rattle.planned_ports.proofs.Joining.{grown_own}
use Rattle.planned_ports.proofs.opening.new_port.Goals as goal

pub returns-clause-own : goal.returns-clause-own
returns-clause-own g c = let parts = c.in_ok-pass.ensures.parts in
    ap (λ (x : PortView g.row.N.Denot). calls_by c.args.pass.now.view.number x.seen) parts.3
    ∙ grown_own c.args.pass.now.view parts.0 c.number.ensures.live.0 parts.1

pub returns-in_err-pass-clause-own : goal.returns-in_err-pass-clause-own
returns-in_err-pass-clause-own g c = grown_own c.args.pass.now.view c.split_pass.new.pass.view c.number.ensures.live.0 c.in_err-pass.ensures.full.0
