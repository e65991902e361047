use Rattle.std.proofs.Common.{◌≡◌, ℕ, ◌+◌, ◌%◌, ◌≤◌, ap, sym, subst, ◌∙◌, arith}
use Rattle.plan_rules.specs.Keeping.{slots}
use Rattle.demand_rules.specs.declared.terms.TaskTerms.{TaskTerms}
use Rattle.demand_rules.specs.Keeping.{IsCollectSlot}
use Rattle.demand_keeping.proofs.Taking.{slots_more}
use Rattle.demand_keeping.proofs.SlotBySlot.{next_multiple, other_event, expected_before, expected_after, comes_twice, is_missing, came_before, here, sooner_planned, seen_all}
use Rattle.demand_keeping.proofs.collecting.wrong_collection.Goals as goal
use Rattle.demand_keeping.proofs.collecting.wrong_collection.Goals.{then-collects+else-now-next+else-next-now, else-collects}

pub returns-then-now-next-clause-some : goal.returns-then-now-next-clause-some
returns-then-now-next-clause-some c =
    let is = c.collects.ensures.yes c.if-collects.true in
    let at = here c.args.plan.now c.args.terms.now c.args.end c.args.task c.args.events.now c.loop-i.i c.index-events-i.result c.index-events-i.is
    c.loop-i-test.true c.loop-i.now c.loop-i.invariant.now is c.requires.planned in
    record {
      planned = subst (λ (n : ℕ). IsCollectSlot c.args.terms.now n c.args.task c.loop-i.now) c.requires.end at;
      other = comes_twice c.args.terms.now c.args.task c.args.events.now c.loop-i.i c.index-events-i.result c.index-events-i.is
          c.loop-i-test.true c.loop-i.now c.loop-i.invariant.now c.args.own.now.collect_period c.loop-i.next c.loop-i.invariant.multiple
          c.loop-i.invariant.before c.loop-i.invariant.after is
          (subst (λ (t : TaskTerms). c.loop-i.now % t.collect_period ≡ 0) (sym c.requires.own) at.multiple) c.if-now-next.true;
      before = λ earlier less at. came_before c.args.terms.now c.args.task c.args.events.now c.loop-i.i c.index-events-i.result
          c.index-events-i.is c.loop-i-test.true c.loop-i.now c.loop-i.invariant.now c.args.own.now.collect_period c.loop-i.next
          c.loop-i.invariant.multiple c.loop-i.invariant.before c.loop-i.invariant.after is c.loop-i.now (omega arith)
          (omega (arith, c.if-now-next.true)) (slots c.args.events.now) earlier less at (ap (λ (t : TaskTerms). t.collect_period) c.requires.own);
    }

pub returns-then-next-now-clause-some : goal.returns-then-next-now-clause-some
returns-then-next-now-clause-some c =
    let is = c.collects.ensures.yes c.if-collects.true in
    let at = here c.args.plan.now c.args.terms.now c.args.end c.args.task c.args.events.now c.loop-i.i c.index-events-i.result c.index-events-i.is
    c.loop-i-test.true c.loop-i.now c.loop-i.invariant.now is c.requires.planned in
    record {
      planned = subst (λ (n : ℕ). IsCollectSlot c.args.terms.now n c.args.task c.loop-i.next) c.requires.end
          (sooner_planned c.args.terms.now c.args.end c.args.task c.loop-i.next c.loop-i.now
          (subst (λ (t : TaskTerms). c.loop-i.next % t.collect_period ≡ 0) c.requires.own c.loop-i.invariant.multiple) c.if-next-now.true at);
      other = is_missing c.args.terms.now c.args.task c.args.events.now c.loop-i.i c.index-events-i.result c.index-events-i.is
          c.loop-i-test.true c.loop-i.now c.loop-i.invariant.now c.args.own.now.collect_period c.loop-i.next c.loop-i.invariant.multiple
          c.loop-i.invariant.before c.loop-i.invariant.after is c.if-next-now.true;
      before = λ earlier less at. came_before c.args.terms.now c.args.task c.args.events.now c.loop-i.i c.index-events-i.result
          c.index-events-i.is c.loop-i-test.true c.loop-i.now c.loop-i.invariant.now c.args.own.now.collect_period c.loop-i.next
          c.loop-i.invariant.multiple c.loop-i.invariant.before c.loop-i.invariant.after is c.loop-i.next (omega (arith, c.if-next-now.true))
          (omega arith) (slots c.args.events.now) earlier less at (ap (λ (t : TaskTerms). t.collect_period) c.requires.own);
    }

pub returns-then-from-clause-some : goal.returns-then-from-clause-some
returns-then-from-clause-some c = record {
  planned = record {
    multiple = subst (λ (t : TaskTerms). c.loop-i.next % t.collect_period ≡ 0) c.requires.own c.loop-i.invariant.multiple;
    before_end = omega (arith, c.if-next-end.true, c.requires.end);
    due_limit = subst (λ (t : TaskTerms). c.loop-i.next + t.collect_deadline ≤ 1048576) c.requires.own
        (omega (arith, c.if-from.true, c.from.ensures, c.from-then-next-end.ensures, c.from-then-next-end-2.ensures));
  };
  other = λ once. omega (
    arith,
    once,
    c.loop-i.invariant.after c.loop-i.next (omega arith),
    seen_all c.args.task c.loop-i.next c.args.events.now c.loop-i.i (omega (arith, c.loop-i-test.false)),
  );
  before = λ earlier less at. sym (seen_all c.args.task earlier c.args.events.now c.loop-i.i (omega (arith, c.loop-i-test.false)))
      ∙ c.loop-i.invariant.before earlier (subst (λ (t : TaskTerms). earlier % t.collect_period ≡ 0) (sym c.requires.own) at.multiple) less;
}

pub loop-i-preserved : goal.loop-i-preserved
loop-i-preserved c = record {
  now = omega (
    arith,
    c.loop-i.invariant.now,
    c.slots_in-now.ensures.result,
    slots_more c.args.events.now c.loop-i.i c.index-events-i-in-loop-i.result c.index-events-i-in-loop-i.is c.loop-i-test.true,
  );
  multiple = elim c.if-collects.branch [
    | then-collects+else-now-next+else-next-now w ↦
        subst (λ (n : ℕ). n % c.args.own.now.collect_period ≡ 0) (sym w.next-is)
        (next_multiple c.loop-i.next c.args.own.now.collect_period c.loop-i.invariant.multiple)
    | else-collects w ↦ subst (λ (n : ℕ). n % c.args.own.now.collect_period ≡ 0) (sym w.next-is) c.loop-i.invariant.multiple
  ];
  before = elim c.if-collects.branch [
    | then-collects+else-now-next+else-next-now w ↦ λ slot fits less. expected_before c.args.terms.now c.args.task c.args.events.now c.loop-i.i
        c.index-events-i.result c.index-events-i.is c.loop-i-test.true c.loop-i.now c.loop-i.invariant.now c.args.own.now.collect_period
        c.loop-i.next c.loop-i.invariant.multiple c.loop-i.invariant.before c.loop-i.invariant.after
        (c.collects.ensures.yes w.if-collects.true) (omega (arith, w.if-now-next.false, w.if-next-now.false)) slot fits
        (omega (arith, less, w.next-is))
    | else-collects w ↦ λ slot fits less. other_event c.args.terms.now c.args.task c.args.events.now c.loop-i.i c.index-events-i.result
        c.index-events-i.is c.loop-i-test.true c.loop-i.now c.loop-i.invariant.now (c.collects.ensures.no w.if-collects.false) slot
        ∙ c.loop-i.invariant.before slot fits (omega (arith, less, w.next-is))
  ];
  after = elim c.if-collects.branch [
    | then-collects+else-now-next+else-next-now w ↦ λ slot beyond. expected_after c.args.terms.now c.args.task c.args.events.now c.loop-i.i
        c.index-events-i.result c.index-events-i.is c.loop-i-test.true c.loop-i.now c.loop-i.invariant.now c.args.own.now.collect_period
        c.loop-i.next c.loop-i.invariant.multiple c.loop-i.invariant.before c.loop-i.invariant.after
        (c.collects.ensures.yes w.if-collects.true) c.requires.limits.some_collect_period
        (omega (arith, w.if-now-next.false, w.if-next-now.false)) slot (omega (arith, beyond, w.next-is))
    | else-collects w ↦ λ slot beyond. other_event c.args.terms.now c.args.task c.args.events.now c.loop-i.i c.index-events-i.result
        c.index-events-i.is c.loop-i-test.true c.loop-i.now c.loop-i.invariant.now (c.collects.ensures.no w.if-collects.false) slot
        ∙ c.loop-i.invariant.after slot (omega (arith, beyond, w.next-is))
  ];
}
