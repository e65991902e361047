use Rattle.std.proofs.Common.{inl, inr, arith}
use Rattle.std.proofs.lemmas.Bool.{cases_lt}
use Rattle.demand_rules.proofs.Steadying.{covered}
use Rattle.demand_rules.proofs.intervals.short_of.Goals as goal

pub returns-then-demand-eq0-clause-none : goal.returns-then-demand-eq0-clause-none
returns-then-demand-eq0-clause-none c none slots within some = elim (cases_lt slots c.loop-end.end) [
  | inl less ↦ absurd (omega (
    arith,
    some,
    c.if-demand-eq0.true,
    covered c.args.plan.now c.args.terms.now c.as_slice-tasks.result.now c.last_deadline-slots.result c.loop-end.end
        c.total_demand-demand.result slots c.as_slice-tasks.ensures c.last_deadline-slots.ensures.steady
        c.last_deadline-slots.ensures.below c.total_demand-demand.ensures.demand less,
  ))
  | inr beyond ↦ c.loop-end.invariant.room slots beyond within
]

pub loop-end-preserved : goal.loop-end-preserved
loop-end-preserved c = record {
  within = omega (
    arith,
    c.if-demand-from.false,
    c.from.ensures,
    c.from-in-loop-end.ensures,
    c.last_deadline-slots.ensures.below,
    c.loop-end.invariant.within,
  );
  room = λ slots from within. elim (cases_lt slots c.loop-end.end) [
    | inl less ↦ omega (
      arith,
      from,
      covered c.args.plan.now c.args.terms.now c.as_slice-tasks.result.now c.last_deadline-slots.result c.loop-end.end
          c.total_demand-demand.result slots c.as_slice-tasks.ensures c.last_deadline-slots.ensures.steady
          c.last_deadline-slots.ensures.below c.total_demand-demand.ensures.demand less,
    )
    | inr beyond ↦ c.loop-end.invariant.room slots beyond within
  ];
}
