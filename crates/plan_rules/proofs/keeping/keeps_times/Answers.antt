use Rattle.std.proofs.Common.{◌≡◌, sym, ap, subst, ◌∙◌, true, arith}
use Rattle.std.proofs.lemmas.Bool.{true≢false}
use Rattle.plan_rules.specs.Walks.{planned_from}
use Rattle.plan_rules.proofs.Walking.{how_many, keeps_if, planned_found, kept_found}
use Rattle.plan_rules.proofs.keeping.keeps_times.Goals as goal
use Rattle.plan_rules.proofs.keeping.keeps_times.Goals.{then-end-via-then-end, then-end-via-else-end+then-all-end}

pub returns-then-end : goal.returns-then-end
returns-then-end c = (
  λ none. absurd (true≢false (sym none)),
  λ keeps. elim c.then-end.branch [
    | then-end-via-then-end w ↦ absurd (omega (arith, keeps.few_slots, c.slots_of-end.ensures, w.if-end.true))
    | then-end-via-else-end+then-all-end w ↦ absurd (omega
        (arith, keeps.few_arrivals, how_many 0 c.args.all.now, c.slots_of-end.ensures, w.if-all-end.true))
  ],
)

pub returns-then-are_planned : goal.returns-then-are_planned
returns-then-are_planned c = (
  λ found.
      let planned : planned_from c.args.plan.now c.args.times.now c.slots_of-end.result 0 c.args.all.now ≡ true = sym c.are_planned.ensures
      ∙ c.if-are_planned.true in
      keeps_if c.args.plan.now c.args.times.now c.args.all.now (c.has_times.ensures.0 c.if-not-has_times.false)
      (omega (arith, c.slots_of-end.ensures, c.if-end.false))
      (omega (arith, how_many 0 c.args.all.now, c.slots_of-end.ensures, c.if-all-end.false))
      (subst (λ n. planned_from c.args.plan.now c.args.times.now n 0 c.args.all.now ≡ true) c.slots_of-end.ensures planned)
      (λ task lt. c.is_each_task_kept.ensures.0 found task (omega (arith, lt, c.len.ensures))),
  λ keeps. c.is_each_task_kept.ensures.1 (λ task lt. kept_found c.args.plan.now c.args.times.now c.args.all.now keeps task
      (omega (arith, lt, c.len.ensures))),
)

pub returns-else-are_planned : goal.returns-else-are_planned
returns-else-are_planned c = (
  λ found. absurd (true≢false (sym found ∙ c.if-are_planned.false)),
  λ keeps.
      c.are_planned.ensures
      ∙ (ap (λ n. planned_from c.args.plan.now c.args.times.now n 0 c.args.all.now) c.slots_of-end.ensures
      ∙ planned_found c.args.plan.now c.args.times.now c.args.all.now keeps),
)
