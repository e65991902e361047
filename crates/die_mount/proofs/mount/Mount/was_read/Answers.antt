use Rattle.std.proofs.Common.{◌∙◌, ap, sym, subst, refl}
use Rattle.die_mount.specs.Mounting.{Mounting}
use Rattle.die_mount.specs.SoundMount.{mounting_of}
use Rattle.die_mount.proofs.Stepping.{has_cell, read_steps}
use Rattle.die_mount.specs.declared.stage.Stage.{Stage}
use Rattle.die_mount.specs.declared.stage.Stage.TheVariants as stage
use Rattle.die_mount.specs.Nexts.{IsNextStage}
use Rattle.die_mount.proofs.mount.Mount.was_read.Goals as goal

pub invariant_of-self : goal.invariant_of-self
invariant_of-self c =
    let m = mounting_of c.self.inside in
    let t = read_steps m c.self.inside.part c.args.page c.args.from c.in-Some.to c.self.invariant.stands c.self.invariant.counts refl
    (ap (λ (x : Mounting). x.stage) c.self.view_is ∙ c.requires) (sym c.next_cell.ensures ∙ c.in-Some.is) in
    record { stands = t.stands; counts = t.counts; goal = c.self.invariant.goal }

pub unreachable-requires : goal.unreachable-requires
unreachable-requires c =
    has_cell (mounting_of c.self.inside) c.self.inside.part c.args.page c.args.from c.self.invariant.stands c.self.invariant.counts refl
    (ap (λ (x : Mounting). x.stage) c.self.view_is ∙ c.requires) (sym c.next_cell.ensures ∙ c.in-None.is)

pub returns-clause-stage : goal.returns-clause-stage
returns-clause-stage c =
    let m = mounting_of c.self.inside in
    let at = ap (λ (x : Mounting). x.stage) c.self.view_is ∙ c.requires in
    let next = stage.Program c.args.page c.args.from c.in-Some.to in
    subst (λ (y : Mounting). IsNextStage y.plan.shape.erase_slots y.stage next) c.self.view_is
    (subst (λ (st : Stage). IsNextStage m.plan.shape.erase_slots st next) (sym at) (c.in-Some.to, refl))
