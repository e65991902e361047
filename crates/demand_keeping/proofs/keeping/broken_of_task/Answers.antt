use Rattle.std.proofs.Common.{ℕ, refl, sym, subst, arith}
use Rattle.std.specs.Prelude.{All}
use Rattle.plan_rules.specs.Keeping.{arrivals}
use Rattle.demand_rules.specs.declared.terms.TaskTerms.{TaskTerms}
use Rattle.demand_rules.specs.Demand.{no_terms, IsTaskTerms}
use Rattle.demand_rules.specs.Keeping.{IsDemanded}
use Rattle.demand_keeping.specs.declared.windows.Count.TheVariants as count
use Rattle.demand_keeping.specs.Windows.{KeepsLimit}
use Rattle.demand_keeping.specs.Overfull.{IsFirstOverfull}
use Rattle.demand_keeping.proofs.AnswersOfBreaches.{none_is, some_is}
use Rattle.demand_keeping.proofs.keeping.broken_of_task.Goals as goal

pub returns-in-Some-clause-first : goal.returns-in-Some-clause-first
returns-in-Some-clause-first c = (
  c.requires.kept,
  subst (λ (t : TaskTerms). IsFirstOverfull count.Operations c.args.task t.period t.work c.args.events.now c.in-Some.start)
      c.task_terms-own.ensures
      (some_is (IsFirstOverfull count.Operations c.args.task c.task_terms-own.result.period c.task_terms-own.result.work c.args.events.now) _
      c.in-Some.start c.in-Some.is c.in_ok-start.ensures.some),
)

pub returns-in-Some-2-clause-first : goal.returns-in-Some-2-clause-first
returns-in-Some-2-clause-first c = (
  c.requires.kept,
  subst (λ (t : TaskTerms). KeepsLimit count.Operations c.args.task t.period t.work c.args.events.now) c.task_terms-own.ensures
      (c.in_ok-start.ensures.none (none_is _ c.in_default.is)),
  subst (λ (t : TaskTerms). IsFirstOverfull count.Writes c.args.task t.period t.writes c.args.events.now c.in-Some-2.start)
      c.task_terms-own.ensures
      (some_is (IsFirstOverfull count.Writes c.args.task c.task_terms-own.result.period c.task_terms-own.result.writes c.args.events.now) _
      c.in-Some-2.start c.in-Some-2.is c.in_ok-start-2.ensures.some),
)

pub wrong_collection-requires-clause-limits : goal.wrong_collection-requires-clause-limits
wrong_collection-requires-clause-limits c =
    let has = c.requires.kept.planned.limits.has in
    subst (λ (t : TaskTerms). IsTaskTerms t) (sym c.task_terms-own.ensures)
    (has.each c.args.task no_terms (omega (arith, has.one_each, c.requires.kept.is_task)))

pub wrong_collection-requires-clause-planned : goal.wrong_collection-requires-clause-planned
wrong_collection-requires-clause-planned c =
    subst (λ (n : ℕ). All (IsDemanded c.args.plan.now c.args.terms.now n) (arrivals 0 c.args.events.now)) (sym c.requires.end)
    c.requires.kept.planned.each

pub returns-in-Some-wrong_collection-clause-first : goal.returns-in-Some-wrong_collection-clause-first
returns-in-Some-wrong_collection-clause-first c = (
  c.requires.kept,
  subst (λ (t : TaskTerms). KeepsLimit count.Operations c.args.task t.period t.work c.args.events.now) c.task_terms-own.ensures
      (c.in_ok-start.ensures.none (none_is _ c.in_default.is)),
  subst (λ (t : TaskTerms). KeepsLimit count.Writes c.args.task t.period t.writes c.args.events.now) c.task_terms-own.ensures
      (c.in_ok-start-2.ensures.none (none_is _ c.in_default-2.is)),
  c.in-Some-wrong_collection.ensures.some,
)

pub returns-clause-none : goal.returns-clause-none
returns-clause-none c none = record {
  few_operations = subst (λ (t : TaskTerms). KeepsLimit count.Operations c.args.task t.period t.work c.args.events.now)
      c.task_terms-own.ensures (c.in_ok-start.ensures.none (none_is _ c.in_default.is));
  few_writes = subst (λ (t : TaskTerms). KeepsLimit count.Writes c.args.task t.period t.writes c.args.events.now) c.task_terms-own.ensures
      (c.in_ok-start-2.ensures.none (none_is _ c.in_default-2.is));
  collected = c.in_default-wrong_collection.ensures.none refl;
}
