use Rattle.std.proofs.Common.{rules, ◌≡◌, Result, Err, sym, subst}
use Rattle.std.specs.Prelude.{IfErr}
use Rattle.flashplan_full_dies.specs.FullDies.{IsUnfilled}
use Rattle.flashplan_full_dies.specs.declared.faults.FillFault.{FillFault}
use Rattle.flashplan_full_dies.specs.declared.lives.Lived.{Lived}
use Rattle.flashplan_full_dies.proofs.lives.one_life.Goals as goal

pub returns-in_err-text-clause-refused : goal.returns-in_err-text-clause-refused
returns-in_err-text-clause-refused c =
    let refused : c.from_residual.result ≡ Err c.in_err-text.field-0.0 = search rules in
    λ least. subst (λ (r : Result Lived FillFault). IfErr r (IsUnfilled c.args.plan.now least)) (sym refused) (c.in_err-text.ensures.refused least)
