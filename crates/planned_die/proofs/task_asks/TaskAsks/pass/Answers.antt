use Rattle.std.proofs.Common.{◌<◌, ◌+◌, ◌-◌, length, refl, ap, arith, rules}
use Rattle.std.proofs.lemmas.List.Sums.{sum_by-drop_more}
use Rattle.planned_die.specs.declared.memory.AskedJob.{AskedJob}
use Rattle.planned_die.specs.declared.task_asks.TaskAsks.{TaskAsks}
use Rattle.planned_die.proofs.Passing.{all_count, passed_one}
use Rattle.planned_die.proofs.task_asks.TaskAsks.pass.Goals as goal

pub returns-then-from-clause-counts : goal.returns-then-from-clause-counts
returns-then-from-clause-counts c =
    let t = c.loop-self.self in
    let lt : t.passed < length t.jobs.items = search rules in
    all_count c.args.period c.args.clock t.jobs.items t.passed c.index-oldest.result.now lt c.loop-self.invariant.kept.in_order
    (omega (arith, ap (λ (j : AskedJob). j.at) c.index-oldest.ensures, c.if-from.true, c.from.ensures, c.from-in-loop-self.ensures, c.from-in-loop-self-2.ensures))

pub loop-self-preserved : goal.loop-self-preserved
loop-self-preserved c =
    let t = c.loop-self.self in
    let j : AskedJob = c.index-oldest.result.now in
    let lt : t.passed < length t.jobs.items = search rules in
    let k = c.loop-self.invariant.kept in
    let next : TaskAsks = record { jobs = t.jobs; passed = t.passed + 1; operations = t.operations - j.operations; writes = t.writes - j.writes } in
    record {
      jobs = c.loop-self.invariant.jobs;
      list = c.loop-self.invariant.list;
      fewer = omega (arith, c.loop-self.invariant.fewer);
      kept = passed_one c.args.period c.args.clock t next j k lt
          (omega (arith, ap (λ (j : AskedJob). j.at) c.index-oldest.ensures, c.if-from.false, c.from.ensures, c.from-in-loop-self.ensures, c.from-in-loop-self-2.ensures))
          refl refl
          (omega (arith, ap (λ (j : AskedJob). j.operations) c.index-oldest.ensures, k.operations, sum_by-drop_more (λ (j : AskedJob). j.operations) t.jobs.items t.passed j lt))
          (omega (arith, ap (λ (j : AskedJob). j.writes) c.index-oldest.ensures, k.writes, sum_by-drop_more (λ (j : AskedJob). j.writes) t.jobs.items t.passed j lt));
    }
