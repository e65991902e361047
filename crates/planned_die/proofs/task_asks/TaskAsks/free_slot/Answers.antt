use Rattle.std.proofs.Common.{◌≡◌, ◌<◌, ◌+◌, ◌-◌, length, get_or, drop, ap, sym, ◌∙◌, arith, rules}
use Rattle.planned_die.specs.declared.memory.AskedJob.{AskedJob}
use Rattle.planned_die.specs.Remembered.{amount_of, newest_first}
use Rattle.planned_die.proofs.Passing.{amount_in, free, free_or_none, one_place, left_one, enough}
use Rattle.planned_die.proofs.task_asks.TaskAsks.free_slot.Goals as goal

pub loop-left-preserved : goal.loop-left-preserved
loop-left-preserved c =
    let jobs = c.args.self.now.jobs.items in
    let l = c.loop-left in
    let j : AskedJob = c.index.result.now in
    let lt : l.place < length jobs = search rules in
    let one : amount_in c.args.of_writes (get_or jobs l.place j) ≡ c.from-left.result =
    sym (ap (amount_in c.args.of_writes) c.index.ensures) ∙ (sym c.amount.ensures ∙ sym c.from-left.ensures) in
    let rest = left_one c.args.of_writes c.args.limit c.args.period jobs c.args.more l.place l.left j l.slot lt l.invariant.rest in
    record {
      from = omega (arith, l.invariant.from);
      within = omega (arith, lt);
      rest = rest.1 (l.left - c.from-left.result) (omega (arith, rest.0, one));
      same = l.invariant.same
          ∙ (one_place c.args.of_writes c.args.limit c.args.period jobs c.args.more l.place l.left j l.slot lt l.invariant.rest
          (omega (arith, c.loop-left-test.true, c.from-in-loop-left.ensures))
          ∙ ap (free c.args.of_writes c.args.limit c.args.period jobs c.args.more (l.place + 1))
          (omega (arith, ap (λ (k : AskedJob). k.at) c.index.ensures, c.from-in-loop-left-2.ensures)));
    }

pub returns-after-loop-left : goal.returns-after-loop-left
returns-after-loop-left c =
    let jobs = c.args.self.now.jobs.items in
    let l = c.loop-left in
    sym (free_or_none (amount_of c.args.of_writes) c.args.limit c.args.period (newest_first (drop c.args.self.now.passed jobs)) c.args.more
    ∙ (l.invariant.same
    ∙ enough c.args.of_writes c.args.limit c.args.period jobs c.args.more l.place l.left l.slot l.invariant.rest
    (omega (arith, c.loop-left-test.false, c.from-in-loop-left.ensures))))
