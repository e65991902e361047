use Rattle.std.proofs.Common.{◌∙◌, ◌<◌, ap, arith, rules, subst, sym}
use Rattle.flashplan_terms_changes.specs.Changes.{OwnDo, step}
use Rattle.flashplan_terms_changes.proofs.Steps.{apart, last-step, nearest-step, no-step}
use Rattle.flashplan_terms_changes.proofs.nearest.halved.Goals as goal

pub loop-without-init : goal.loop-without-init
loop-without-init c = record {
  order = subst (λ n. 0 < n) (sym c.span-with.ensures)
      (apart (OwnDo c.args.numbers.now c.args.of c.args.which) c.args.from c.args.to c.requires.fails c.requires.does);
  few = omega (arith, c.span-with.ensures);
  fails = subst (λ n. ¬ OwnDo c.args.numbers.now c.args.of c.args.which n) (sym (no-step c.args.from c.args.to)) c.requires.fails;
  does = subst (OwnDo c.args.numbers.now c.args.of c.args.which)
      (sym (ap (step c.args.from c.args.to) c.span-with.ensures ∙ last-step c.args.from c.args.to)) c.requires.does;
}

pub loop-without-preserved-then-does : goal.loop-without-preserved-then-does
loop-without-preserved-then-does c =
    let does : OwnDo c.args.numbers.now c.args.of c.args.which c.step.result = search rules in
    record {
      order = omega (arith, c.loop-without-test.true);
      few = omega (arith, c.loop-without-test.true, c.loop-without.invariant.few);
      fails = c.loop-without.invariant.fails;
      does = subst (OwnDo c.args.numbers.now c.args.of c.args.which) c.step.ensures does;
    }

pub loop-without-preserved : goal.loop-without-preserved
loop-without-preserved c =
    let fails : ¬ OwnDo c.args.numbers.now c.args.of c.args.which c.step.result = search rules in
    record {
      order = omega (arith, c.loop-without-test.true);
      few = c.loop-without.invariant.few;
      fails = subst (λ n. ¬ OwnDo c.args.numbers.now c.args.of c.args.which n) c.step.ensures fails;
      does = c.loop-without.invariant.does;
    }

pub returns-clause-nearest : goal.returns-clause-nearest
returns-clause-nearest c = nearest-step (OwnDo c.args.numbers.now c.args.of c.args.which) c.args.from c.args.to c.loop-without.without
    c.loop-without.with c.step-2.result c.loop-without.invariant.order c.loop-without.invariant.few
    (omega (arith, c.loop-without-test.false)) c.loop-without.invariant.fails c.loop-without.invariant.does c.step-2.ensures
