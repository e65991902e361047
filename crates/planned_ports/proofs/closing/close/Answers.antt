use Rattle.std.proofs.Common.{inr, arith}
use Rattle.planned_ports.proofs.Joining.{given_back, clock_out, joined_out}
use Rattle.planned_ports.proofs.closing.close.Goals as goal

pub invariant_of-result : goal.invariant_of-result
invariant_of-result g c = clock_out c.clock.inside.pass c.out-out.new.pass c.out-out.result c.out-out.ensures.same c.out-out.ensures.out
    c.number.ensures.live.0 c.clock.invariant

pub invariant_of-result-in-Err : goal.invariant_of-result-in-Err
invariant_of-result-in-Err g c = joined_out c.clock.inside.pass c.out-out.new.pass c.join_all.new.pass c.in-Err.field-0.pass c.args.tasks.items
    c.out-out.result c.in-Err.ensures.out.0 c.out-out.ensures.same c.out-out.ensures.out c.number.ensures.live.0 c.join_all.ensures.joined
    c.number-2.ensures.live.0 c.in-Err.ensures.back.1 c.in-Err.ensures.out.3 c.clock.invariant

pub returns-in-Ok-clause-closed : goal.returns-in-Ok-clause-closed
returns-in-Ok-clause-closed g c = rw (← c.clock.view_is, c.into_die.ensures.die) (given_back c.clock.inside.pass c.out-out.new.pass c.join_all.new.pass c.args.tasks.items
    c.out-out.result c.in-Ok.book c.out-out.ensures.same c.out-out.ensures.out c.join_all.ensures.joined c.in-Ok.ensures.closed.0
    c.in-Ok.ensures.closed.1 c.into_die.ensures.shared)

pub returns-in-Err-clause-refused : goal.returns-in-Err-clause-refused
returns-in-Err-clause-refused g c = rw (← c.clock.view_is) (inr (record {
  before = c.out-out.new.pass.view;
  out = c.out-out.result;
  counted = c.out-out.ensures.out;
  enough = omega (arith, c.if-len-out.false, c.len.ensures, c.args.tasks.ok.0);
  some = (c.in-Err.ensures.out.0, c.in-Err.ensures.out.2, c.in-Err.ensures.out.1);
  none_back = c.join_all.ensures.none;
}))
