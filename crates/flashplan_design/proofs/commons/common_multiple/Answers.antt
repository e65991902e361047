use Rattle.std.proofs.Common.{get_or, arith}
use Rattle.std.proofs.lemmas.List.Elements.{All-from_get_or, All-get_or}
use Rattle.flashplan_design.specs.Commons.{DividesAll, Divide, IsMultipleFor}
use Rattle.flashplan_design.proofs.Multiples.{next_divided, nobody, through}
use Rattle.flashplan_design.proofs.commons.common_multiple.Goals as goal

pub loop-task-preserved : goal.loop-task-preserved
loop-task-preserved c =
    let d : DividesAll (IsMultipleFor c.args.periods c.loop-task.multiple (get_or c.args.tasks.now c.loop-task.task-index nobody)) c.in_ok-multiple.multiple
    = c.in_ok-multiple.ensures in
    record {
      some = d.some;
      few = d.few;
      whole = through c.args.of c.loop-task.multiple c.in_ok-multiple.multiple c.loop-task.invariant.whole d.own.0;
      own = next_divided c.args.periods c.loop-task.multiple c.in_ok-multiple.multiple c.loop-task.task-index c.args.tasks.now d.own.0 d.own.1
          c.loop-task.invariant.own;
      all = λ n whole all. d.all n (
        c.loop-task.invariant.all n whole (λ j lt. all j (omega (arith, lt))),
        all c.loop-task.task-index (omega arith),
      );
    }

pub returns : goal.returns
returns c = record {
  some = c.loop-task.invariant.some;
  few = c.loop-task.invariant.few;
  own = (
    c.loop-task.invariant.whole,
    All-from_get_or (Divide c.args.periods c.loop-task.multiple) c.args.tasks.now nobody
        (λ j lt. c.loop-task.invariant.own j (omega (arith, lt, c.loop-task-test.false))),
  );
  all = λ n p. c.loop-task.invariant.all n p.0
      (λ j lt. All-get_or (Divide c.args.periods n) c.args.tasks.now j nobody (omega (arith, lt, c.loop-task.auto.task-index-end)) p.1);
}
