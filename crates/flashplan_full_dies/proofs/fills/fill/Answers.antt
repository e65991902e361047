use Rattle.std.proofs.Common.{rules, ◌≡◌, ℕ, Result, Err, sym, subst}
use Rattle.std.specs.Prelude.{IfErr}
use Rattle.flashplan_full_dies.specs.FullDies.{IsLife, IsUnfilled}
use Rattle.flashplan_full_dies.specs.declared.faults.FillFault.{FillFault}
use Rattle.flashplan_full_dies.specs.declared.fills.Filled.{Filled}
use Rattle.flashplan_full_dies.proofs.LifeByLife.{one_more, slow}
use Rattle.flashplan_full_dies.proofs.fills.fill.Goals as goal
use Rattle.flashplan_full_dies.proofs.fills.fill.Goals.{else-lives-least-via-then-lives-least+else-are_full, else-lives-least-via-else-lives-least}

pub returns-in_err-lived-clause-refused : goal.returns-in_err-lived-clause-refused
returns-in_err-lived-clause-refused c =
    let refused : c.from_residual-in_err-lived.result ≡ Err c.in_err-lived.field-0.0 = search rules in
    subst (λ (r : Result Filled FillFault). IfErr r (IsUnfilled c.args.plan.now c.args.least)) (sym refused)
    (c.in_err-lived.ensures.refused c.args.least)

pub loop-life-preserved : goal.loop-life-preserved
loop-life-preserved c = record {
  left = one_more c.args.plan.now c.loop-life.life c.loop-life.refused c.from-refused.result c.loop-life.from c.in_ok-lived.lived.saved
      c.loop-life.invariant.left
      (subst (λ (n : ℕ). IsLife c.args.plan.now c.loop-life.from n c.in_ok-lived.lived.saved) (sym c.from-refused.ensures)
      c.in_ok-lived.ensures.lived);
  few = search rules;
  slots = c.in_ok-lived.ensures.few;
  not_full = λ enough. elim c.else-lives-least.branch [
    | else-lives-least-via-then-lives-least+else-are_full w ↦ search rules
    | else-lives-least-via-else-lives-least w ↦ search rules
  ];
}

pub returns-clause-refused : goal.returns-clause-refused
returns-clause-refused c =
    slow c.args.plan.now c.loop-life.life c.loop-life.refused c.loop-life.from (search rules) c.loop-life.invariant.left
    (c.loop-life.invariant.not_full (search rules))

pub returns-then-are_full-clause-filled : goal.returns-then-are_full-clause-filled
returns-then-are_full-clause-filled c = record {
  left = one_more c.args.plan.now c.loop-life.life c.loop-life.refused c.from-refused.result c.loop-life.from c.in_ok-lived.lived.saved
      c.loop-life.invariant.left
      (subst (λ (n : ℕ). IsLife c.args.plan.now c.loop-life.from n c.in_ok-lived.lived.saved) (sym c.from-refused.ensures)
      c.in_ok-lived.ensures.lived);
  enough = search rules;
  full = search rules;
}
