use Rattle.std.proofs.Common.{◌≡◌, ◌≤◌, length}
use Rattle.std.specs.Prelude.{vec_capacity}
use Rattle.turn_lock.specs.Log.{calls_by}
use Rattle.turn_lock.specs.Views.{IsSamePass}
use Rattle.planned_ports.specs.Opening.{AreNewFrom}
use Rattle.planned_ports.proofs.opening.make_ports.Given as goal

abbrev pub invariant-loop-task : goal.invariant-loop-task
invariant-loop-task g l = record {
  same : IsSamePass l.fn.pass l.pass;
  own : calls_by l.fn.pass.view.number l.pass.view.seen ≡ calls_by l.fn.pass.view.number l.fn.pass.view.seen;
  count : length l.tasks.items ≡ l.task;
  room : l.count ≤ vec_capacity l.tasks;
  tasks : AreNewFrom l.die l.fn.pass.view.about l.ranges 0 l.tasks.items;
}
