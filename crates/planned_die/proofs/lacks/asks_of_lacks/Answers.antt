use Rattle.std.proofs.Common.{◌≡◌, ℕ, ◌+◌, ◌-◌, ◌≤◌, List, [], ◌∷◌, ◌++◌, map, length, slice_index, ap, sym, subst, ◌∙◌, arith}
use Rattle.std.proofs.lemmas.List.{map_push, length_push}
use Rattle.demand_rules.specs.declared.terms.TaskTerms.{TaskTerms}
use Rattle.demand_rules.specs.Demand.{terms_of}
use Rattle.planned_die.specs.declared.memory.AskedJob.{AskedJob}
use Rattle.planned_die.specs.declared.task_asks.TaskAsks.{TaskAsks}
use Rattle.planned_die.specs.Remembered.{jobs_of, AreKept, HasMemory, HaveMemory}
use Rattle.planned_die.specs.Resuming.{lack, lack_jobs, lacks_of}
use Rattle.planned_die.proofs.Passing.{kept_push}
use Rattle.planned_die.proofs.Lists.{memory_push}
use Rattle.planned_die.proofs.Resuming.{lacks_more}
use Rattle.planned_die.proofs.lacks.asks_of_lacks.Goals as goal

pub loop-task-preserved : goal.loop-task-preserved
loop-task-preserved c =
    let l = c.loop-task in
    let n = c.in_ok-asks.ensures in
    let t : TaskAsks = c.in_ok-asks.asks in
    let plan = c.args.plan.now in
    let balances = c.args.balances.now in
    let lack_is : c.lack_of-lack.result ≡ lack plan balances l.task =
    c.lack_of-lack.ensures
    ∙ ap (λ (caps : List ℕ). slice_index caps l.task - (slice_index balances l.task + plan.alpha)) c.as_slice-caps.ensures in
    let memory : HasMemory (terms_of c.args.terms.now (length l.asked.items)).work t =
    subst (λ k. HasMemory (terms_of c.args.terms.now k).work t) (sym l.invariant.count)
    (subst (λ (own : TaskTerms). HasMemory own.work t) c.terms_at-own.ensures n.memory) in
    record {
      jobs = ap (map jobs_of) c.in_ok-push.ensures.items
          ∙ (map_push jobs_of l.asked.items t
          ∙ (ap (λ (xs : List (List AskedJob)). xs ++ jobs_of t ∷ []) l.invariant.jobs
          ∙ (ap (λ (own : List AskedJob). lacks_of plan balances l.task ++ own ∷ []) (n.jobs ∙ ap lack_jobs lack_is)
          ∙ lacks_more plan balances l.task)));
      kept = λ clock. subst (λ (xs : List TaskAsks). AreKept c.args.terms.now clock xs) (sym c.in_ok-push.ensures.items)
          (kept_push c.args.terms.now clock l.asked.items t (l.invariant.kept clock) (λ period. n.kept period clock));
      memory = subst (λ (xs : List TaskAsks). HaveMemory c.args.terms.now xs) (sym c.in_ok-push.ensures.items)
          (memory_push c.args.terms.now l.asked.items t l.invariant.memory memory);
      count = ap length c.in_ok-push.ensures.items ∙ omega (arith, length_push l.asked.items t, l.invariant.count);
    }
