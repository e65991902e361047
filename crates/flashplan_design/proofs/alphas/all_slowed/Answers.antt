use Rattle.std.proofs.Common.{◌+◌, take, sym, subst}
use Rattle.std.specs.List.{AllZip}
use Rattle.flashplan_design.specs.Alphas.{IsSlowed}
use Rattle.flashplan_design.proofs.Slowing.{zip_more}
use Rattle.flashplan_design.proofs.alphas.all_slowed.Goals as goal

pub loop-i-preserved : goal.loop-i-preserved
loop-i-preserved c = subst (λ l. AllZip (IsSlowed c.args.alpha c.args.common) (take (c.loop-i.i + 1) c.args.tasks.now) l)
    (sym c.in_ok-push.ensures.ok)
    (zip_more (IsSlowed c.args.alpha c.args.common) c.args.tasks.now c.loop-i.made c.loop-i.i _ c.in-Some.task c.loop-i-test.true
    c.loop-i.invariant c.in-Some.ensures)
