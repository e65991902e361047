use Rattle.std.proofs.Common.{◌≡◌, ◌+◌, ◌-◌, ◌∷◌, ◌++◌, [], drop, length, ap, ◌∙◌, arith, rules}
use Rattle.std.specs.VecDeque.{deque_len}
use Rattle.planned_die.proofs.Passing.{one_less, noted}
use Rattle.planned_die.proofs.task_asks.TaskAsks.note.Goals as goal

pub loop-self-preserved : goal.loop-self-preserved
loop-self-preserved c =
    let l = c.loop-self in
    record {
      rest = ap (drop (l.self.passed - 1)) c.pop_front.ensures.rest ∙ (one_less l.self.passed l.self.jobs.items c.loop-self-test.true ∙ l.invariant.rest);
      room = c.pop_front.ensures.capacity ∙ l.invariant.room;
      operations = l.invariant.operations;
      writes = l.invariant.writes;
    }

pub push_back_reserved-requires : goal.push_back_reserved-requires
push_back_reserved-requires c =
    let l = c.loop-self in
    let none : l.self.passed ≡ 0 = omega (arith, c.loop-self-test.false) in
    let rest : l.self.jobs.items ≡ drop c.args.self.now.passed c.args.self.now.jobs.items = rw none at l.invariant.rest in
    let whole : deque_len l.self.jobs ≡ length l.self.jobs.items = search rules in
    omega (arith, whole, ap length rest, c.requires.room, l.invariant.room)

pub returns-clause-jobs : goal.returns-clause-jobs
returns-clause-jobs c =
    let l = c.loop-self in
    let none : l.self.passed ≡ 0 = omega (arith, c.loop-self-test.false) in
    let rest : l.self.jobs.items ≡ drop c.args.self.now.passed c.args.self.now.jobs.items = rw none at l.invariant.rest in
    c.push_back_reserved.ensures.items ∙ ap (λ xs. xs ++ c.args.job ∷ []) rest

pub returns-clause-kept : goal.returns-clause-kept
returns-clause-kept c period k =
    let l = c.loop-self in
    let none : l.self.passed ≡ 0 = omega (arith, c.loop-self-test.false) in
    let rest : l.self.jobs.items ≡ drop c.args.self.now.passed c.args.self.now.jobs.items = rw none at l.invariant.rest in
    noted period c.args.self.now (record {
      jobs = c.push_back_reserved.new.self;
      passed = l.self.passed;
      operations = l.self.operations + c.args.job.operations;
      writes = l.self.writes + c.args.job.writes;
    }) c.args.job k
    (c.push_back_reserved.ensures.items ∙ ap (λ xs. xs ++ c.args.job ∷ []) rest) none (omega (arith, l.invariant.operations))
    (omega (arith, l.invariant.writes))
