use Rattle.std.proofs.Common.{◌≡◌, ℕ, ◌+◌, sym, subst, ◌∙◌, arith}
use Rattle.turn_lock.specs.Log.{calls_by}
use Rattle.planned_ports.specs.Opening.{IsNewPort}
use Rattle.planned_ports.proofs.NewPorts.{one_longer, one_port_more}
use Rattle.planned_ports.proofs.opening.make_ports.Goals as goal

pub loop-task-preserved : goal.loop-task-preserved
loop-task-preserved g c =
    let l = c.loop-task in
    let i = c.loop-task.invariant in
    let made = c.in_ok-port.ensures in
    let same = c.new_port.ensures.same in
    let port = c.in_ok-port.port in
    let new : IsNewPort {N = g.row.N.Denot} c.args.die.now c.args.pass.now.view.about c.args.ranges.now l.task port = record {
      lock_is = made.lock;
      about = made.about ∙ i.same.3;
      task_is = made.task;
      pages_are = made.pages ∙ c.range_of.ensures;
      nothing = made.nothing;
    } in record {
      same = (same.0 ∙ i.same.0, same.1 ∙ i.same.1, same.2 ∙ i.same.2, same.3 ∙ i.same.3);
      own = subst (λ n. calls_by n c.new_port.new.pass.view.seen ≡ calls_by n l.pass.view.seen) i.same.1 c.new_port.ensures.own ∙ i.own;
      count = one_longer l.tasks.items c.push_reserved.new.self.items port l.task c.push_reserved.ensures.items i.count;
      room = rw c.push_reserved.ensures.capacity i.room;
      tasks = rw c.push_reserved.ensures.items (one_port_more c.args.die.now c.args.pass.now.view.about c.args.ranges.now 0 l.tasks.items port i.tasks
          (subst (λ n. IsNewPort {N = g.row.N.Denot} c.args.die.now c.args.pass.now.view.about c.args.ranges.now n port) (sym (place i.count)) new));
    }
  where
    place : {n task : ℕ} → n ≡ task → 0 + n ≡ task
    place is = omega (arith, is)
