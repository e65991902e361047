use Rattle.std.proofs.Common.{◌≤◌, List, [], map, length, ap, sym, subst, ◌∙◌, arith}
use Rattle.std.specs.VecDeque.{deque_capacity}
use Rattle.std.proofs.lemmas.List.{map_push, replicate_more, length_push}
use Rattle.demand_rules.specs.declared.terms.TaskTerms.{TaskTerms}
use Rattle.demand_rules.specs.Demand.{terms_of}
use Rattle.planned_die.specs.declared.task_asks.TaskAsks.{TaskAsks}
use Rattle.planned_die.specs.Remembered.{jobs_of, AreKept, HasMemory, HaveMemory}
use Rattle.planned_die.proofs.Passing.{fresh, kept_push}
use Rattle.planned_die.proofs.Lists.{none_asked, memory_push}
use Rattle.planned_die.proofs.all_asks.new_asks.Goals as goal

pub loop-task-preserved : goal.loop-task-preserved
loop-task-preserved c =
    let l = c.loop-task in
    let n = c.in_ok-none.ensures in
    let t : TaskAsks = c.in_ok-none.none in
    let work : (terms_of c.args.own.now l.task).work ≤ deque_capacity t.jobs =
    omega (arith, n.memory, ap (λ (own : TaskTerms). own.work) c.terms_at-work.ensures) in
    let memory : HasMemory (terms_of c.args.own.now (length l.asked.items)).work t =
    subst (λ m. HasMemory (terms_of c.args.own.now m).work t) (sym l.invariant.count)
    (none_asked (terms_of c.args.own.now l.task).work t n.jobs n.operations work) in
    record {
      jobs = ap (map jobs_of) c.in_ok-push.ensures.items
          ∙ (map_push jobs_of l.asked.items t
          ∙ (rw (n.jobs, l.invariant.jobs) (replicate_more l.task [])));
      kept = λ terms clock. subst (λ (xs : List TaskAsks). AreKept terms clock xs) (sym c.in_ok-push.ensures.items)
          (kept_push terms clock l.asked.items t (l.invariant.kept terms clock)
          (λ period. fresh t n.jobs n.passed n.operations n.writes period clock));
      memory = subst (λ (xs : List TaskAsks). HaveMemory c.args.own.now xs) (sym c.in_ok-push.ensures.items)
          (memory_push c.args.own.now l.asked.items t l.invariant.memory memory);
      count = ap length c.in_ok-push.ensures.items ∙ omega (arith, length_push l.asked.items t, l.invariant.count);
    }
