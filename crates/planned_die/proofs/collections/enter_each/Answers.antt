use Rattle.std.proofs.Common.{length, ap, ◌∙◌, arith, refl, sym, subst, ◌<◌}
use Rattle.slot_types.specs.declared.plans.DiePlan.{DiePlan}
use Rattle.slot_core.specs.Core.{Core}
use Rattle.planned_die.proofs.Cores.{own_further, own_begins}
use Rattle.planned_die.proofs.collections.enter_each.Goals as goal

pub overflow_add-entered : goal.overflow_add-entered
overflow_add-entered g c = omega (
  arith,
  c.loop-entered-test.true,
  c.len-tasks.ensures,
  ap (λ (p : DiePlan). length p.caps) c.plan.ensures,
  c.promises.ensures.opens.bound.limits.few_tasks,
)

pub loop-entered-preserved : goal.loop-entered-preserved
loop-entered-preserved g c =
    let before = c.loop-entered.invariant in
    let more = c.enter_own.ensures in
    record {
      entered = own_further c.args.caller c.args.terms.now c.args.core.now c.loop-entered.core c.enter_own.new.core c.args.entered.now
          c.loop-entered.entered before.from
          (omega (
            arith,
            c.loop-entered-test.true,
            c.len-tasks.ensures,
            ap (λ (p : DiePlan). length p.caps) c.plan.ensures,
            c.requires.lived.1.demand.has.one_each,
          ))
          before.entered before.slot_stays more.entered;
      kept = λ earlier k. more.kept earlier (before.kept earlier k);
      runs = ap (λ (core : Core g.row.N.Denot). core.stopped) more.entered ∙ before.runs;
      slot_stays = more.slot_stays ∙ before.slot_stays;
      from = omega (arith, before.from);
      reserved = more.reserved;
    }

pub enter_own-requires-clause-lived : goal.enter_own-requires-clause-lived
enter_own-requires-clause-lived g c = (c.requires.lived.0, c.loop-entered.invariant.kept c.requires.lived.0 c.requires.lived.1)

pub enter_own-requires-clause-early : goal.enter_own-requires-clause-early
enter_own-requires-clause-early g c = subst (λ n. n < c.args.life) (sym c.loop-entered.invariant.slot_stays) c.requires.early

pub enter_own-requires-clause-task : goal.enter_own-requires-clause-task
enter_own-requires-clause-task g c =
    omega (
      arith,
      c.loop-entered-test.true,
      c.len-tasks.ensures,
      ap (λ (p : DiePlan). length p.caps) c.plan.ensures,
      ap (λ (core : Core g.row.N.Denot). length core.start.plan.caps) c.loop-entered.invariant.entered,
    )

pub loop-entered-init : goal.loop-entered-init
loop-entered-init g c = record {
  entered = own_begins c.args.caller c.args.terms.now c.args.core.now c.args.entered.now;
  kept = λ earlier k. k;
  runs = c.requires.runs;
  slot_stays = refl;
  from = omega arith;
  reserved = c.requires.reserved;
}

pub returns-clause-all : goal.returns-clause-all
returns-clause-all g c =
    omega (
      arith,
      c.loop-entered-test.false,
      c.len-tasks.ensures,
      ap (λ (p : DiePlan). length p.caps) c.plan.ensures,
      ap (λ (core : Core g.row.N.Denot). length core.start.plan.caps) c.loop-entered.invariant.entered,
      (c.loop-entered.invariant.kept c.requires.lived.0 c.requires.lived.1).kept.few_entered,
    )
