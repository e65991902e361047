use Rattle.std.proofs.Common.{sym, subst}
use Rattle.die_service.proofs.Asking.{IsBringing, brings_none, brings_more, brings_all}
use Rattle.die_service.proofs.drivers.Driver.bring_due.Goals as goal

pub loop-init : goal.loop-init
loop-init g c = brings_none g.W.Work.does c.args.clock c.args.self.now

pub loop-preserved : goal.loop-preserved
loop-preserved g c =
    brings_more g.W.Work.does c.args.clock c.args.self.now c.loop.self c.bring_one.new.self c.loop.invariant
    (c.bring_one.ensures.brought c.loop-test.true)

pub returns : goal.returns
returns g c =
    let none = c.bring_one.ensures.none c.loop-test.false in
    brings_all g.W.Work.does c.args.clock c.args.self.now c.bring_one.new.self
    (subst (λ t. IsBringing g.W.Work.does c.args.clock c.args.self.now t) (sym none.1) c.loop.invariant) (rw none.1 none.0)
