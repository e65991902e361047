use Rattle.std.proofs.Common.{◌≡◌, ℕ, ◌-◌, ◌≤◌, length, ap, ◌∙◌, arith, subst}
use Rattle.slot_types.specs.declared.plans.DiePlan.{DiePlan}
use Rattle.planned_log.specs.Laws.{IsKept}
use Rattle.planned_die.specs.PlannedCalls.{with_own}
use Rattle.planned_die.proofs.Quiet.{all_passed, all_kept}
use Rattle.planned_die.proofs.collections.enter_rest.Goals as goal

pub returns-clause-entered : goal.returns-clause-entered
returns-clause-entered g c =
    let core = c.args.core.now in
    let tasks : c.len.result ≡ length core.start.plan.caps = c.len.ensures ∙ ap (λ (p : DiePlan). length p.caps) c.plan.ensures in
    let from : c.args.entered.now ≤ length core.start.plan.caps = c.requires.lived.1.kept.few_entered in
    let more : ℕ = length core.start.plan.caps - c.args.entered.now in
    subst (λ n. core ≡ with_own c.args.caller c.args.terms.now core c.args.entered.now n) (omega (arith, tasks, from))
    (all_passed g.N.Nand.ends g.N.Nand.failures g.N.Nand.never_fails core c.args.terms.now c.args.life c.args.caller c.args.quiet c.requires.runs
    c.requires.early c.requires.quiet (omega (arith, c.now.ensures, c.if-now-quiet.false)) c.requires.lived.0 c.args.entered.now c.requires.lived.1 more
    (omega (arith, from)))

pub returns-clause-kept : goal.returns-clause-kept
returns-clause-kept g c earlier kept =
    let core = c.args.core.now in
    let tasks : c.len.result ≡ length core.start.plan.caps = c.len.ensures ∙ ap (λ (p : DiePlan). length p.caps) c.plan.ensures in
    let from : c.args.entered.now ≤ length core.start.plan.caps = c.requires.lived.1.kept.few_entered in
    let more : ℕ = length core.start.plan.caps - c.args.entered.now in
    subst (λ n. IsKept core.start c.args.terms.now earlier c.args.life n core.log) (omega (arith, tasks, from))
    (all_kept g.N.Nand.ends g.N.Nand.failures g.N.Nand.never_fails core c.args.terms.now c.args.life c.args.caller c.args.quiet c.requires.runs
    c.requires.early c.requires.quiet (omega (arith, c.now.ensures, c.if-now-quiet.false)) earlier c.args.entered.now kept more
    (omega (arith, from)))
