use Rattle.std.proofs.Common.{◌≡◌, ◌∙◌, subst, sym}
use Rattle.slot_types.specs.declared.plans.DiePlan.{DiePlan}
use Rattle.labelled_die.proofs.Passing.{of_ok}
use Rattle.part_mount.specs.OnPart.{OnPart}
use Rattle.device_mount.specs.Mounted.{BeginsLife}
use Rattle.device_mount.proofs.Refusing.{of_err}
use Rattle.device_mount.proofs.mounts.mount.Goals as goal

pub returns-clause-life : goal.returns-clause-life
returns-clause-life g c = λ pages stands.
    let labels = g.N.LabelledNand.labels in
    let seen = (labels c.args.part).blocks in
    let well = sym c.is_err.ensures.value ∙ c.if-is_err.false in
    subst (λ (p : DiePlan). BeginsLife labels p seen pages c.finish.result)
    (of_ok c.carry_all.result well c.carry_all.ensures.plan ∙ c.in-Ok.ensures.plan)
    (c.finish.ensures.life pages seen (of_ok c.carry_all.result well c.carry_all.ensures.goes_on pages seen (c.in-Ok.ensures.goes pages stands)))

pub returns-then-is_err-clause-refused : goal.returns-then-is_err-clause-refused
returns-then-is_err-clause-refused g c = (
  c.in-Ok.ensures.of_plan,
  subst (λ (v : OnPart g.row.N.Denot). g.N.Nand.failures v.part ≡ 1) c.into_parts.ensures.whole
      (c.into_parts.ensures.sound.faulted (of_err c.carry_all.result (sym c.is_err.ensures.value ∙ c.if-is_err.true) c.carry_all.ensures.failed)),
)
