use Rattle.std.proofs.Common.{◌<◌, sym, subst}
use Rattle.slot_types.specs.declared.plans.DiePlan.{DiePlan}
use Rattle.plan_rules.specs.Bound.{MeetsBound}
use Rattle.power_loss.specs.Aside.{StandsOnPart, part_of}
use Rattle.power_loss.specs.Mounted.{all_count}
use Rattle.power_loss.specs.Recovery.{MayErase}
use Rattle.die_mount.proofs.Cutting.{goes_on_by}
use Rattle.die_mount.proofs.laws.a_mount_goes_by_what_it_saw.Goals as goal

pub returns : goal.returns
returns c = record {
  begins = λ plan pages before m bound beside stood b. (
    b.erased,
    b.next,
    record {
      bound = subst (λ (p : DiePlan). MeetsBound p) (sym b.plan_is) bound;
      beside = subst (λ (p : DiePlan). p.shape.blocks < 1024) (sym b.plan_is) beside;
      stood = subst (λ (p : DiePlan). StandsOnPart p pages all_count before) (sym b.plan_is) stood;
      may = subst (λ (p : DiePlan). MayErase (part_of p) all_count before b.erased) (sym b.plan_is) b.may;
      above = b.above;
      is = b.is;
    },
  );
  goes_on = goes_on_by;
}
