use Rattle.std.proofs.Common.{◌∙◌, ap, subst, sym}
use Rattle.slot_types.specs.declared.plans.DiePlan.{DiePlan}
use Rattle.die_mount.specs.Mounting.{Mounting, calls_left}
use Rattle.die_mount.specs.Nexts.{BeginsFirst}
use Rattle.power_loss.specs.Aside.{part_of}
use Rattle.device_mount.specs.Parts.{BeginsSafely}
use Rattle.device_mount.proofs.Again.{powered_still}
use Rattle.device_mount.proofs.Starting.{first_calls, goes_so}
use Rattle.device_mount.proofs.beginning.begin.Goals as goal

pub new-requires-clause-powered : goal.new-requires-clause-powered
new-requires-clause-powered g c =
    powered_still g.N.Nand.shape_of g.N.Nand.blocks g.N.LabelledNand.labels g.N.Nand.failures c.args.part c.prepared.new.part c.requires.powered
    c.in-Ok.ensures.same

pub new-requires-clause-shape : goal.new-requires-clause-shape
new-requires-clause-shape g c =
    c.in-Ok.ensures.same.shape ∙ (c.in-Ok.ensures.of_plan.1 ∙ ap (λ (p : DiePlan). (part_of p).shape) (sym c.in-Ok.ensures.first.plan_is))

pub new-requires-clause-first : goal.new-requires-clause-first
new-requires-clause-first g c =
    subst (λ (p : DiePlan). BeginsFirst p c.in-Ok.mount) (sym c.in-Ok.ensures.first.plan_is) c.in-Ok.ensures.first

pub returns-in-Ok-clause-goes : goal.returns-in-Ok-clause-goes
returns-in-Ok-clause-goes g c =
    goes_so g.N.LabelledNand.labels c.args.part c.prepared.new.part c.args.plan c.in-Ok.mount c.new.result c.in-Ok.ensures.same.labels_are
    c.in-Ok.ensures.first.plan_is c.new.ensures.goes c.in-Ok.ensures.begins

pub returns-in-Ok-clause-safe : goal.returns-in-Ok-clause-safe
returns-in-Ok-clause-safe g c =
    subst (λ (m : Mounting). BeginsSafely c.args.plan (g.N.LabelledNand.labels c.args.part).blocks m) (sym c.new.ensures.mount) c.in-Ok.ensures.safe

pub returns-in-Ok-clause-calls : goal.returns-in-Ok-clause-calls
returns-in-Ok-clause-calls g c = ap calls_left c.new.ensures.mount ∙ first_calls c.args.plan c.in-Ok.mount c.in-Ok.ensures.first
