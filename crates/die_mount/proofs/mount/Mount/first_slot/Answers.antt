use Rattle.std.proofs.Common.{◌≡◌, ◌∙◌, ◌+◌, ap, sym, subst, refl, inl, inr, arith}
use Rattle.slot_types.specs.declared.plans.Shape.{Shape}
use Rattle.power_loss.specs.Aside.{part_of}
use Rattle.die_mount.specs.Choosing.{LieWithin}
use Rattle.die_mount.specs.Mounting.{Mounting, IsStep}
use Rattle.die_mount.specs.SoundMount.{mounting_of}
use Rattle.die_mount.proofs.Stepping.{chosen_of, closed_there, first_between, first_chosen, first_few, lie_within, remade}
use Rattle.die_mount.specs.declared.stage.Stage.{Stage}
use Rattle.die_mount.specs.declared.stage.Stage.TheVariants as stage
use Rattle.die_mount.specs.Nexts.{IsNextStage}
use Rattle.die_mount.proofs.mount.Mount.first_slot.Goals as goal

pub overflow_add-slots : goal.overflow_add-slots
overflow_add-slots c =
    let w = c.self.invariant.stands in
    let few = first_few (mounting_of c.self.inside) c.args.block c.args.slots w (ap (λ (x : Mounting). x.stage) c.self.view_is ∙ c.requires) in
    omega (arith, few, w.bound.shape.few_slots)

pub chosen-stage-requires-clause-closed : goal.chosen-stage-requires-clause-closed
chosen-stage-requires-clause-closed c = λ short.
    let m = mounting_of c.self.inside in
    let w = c.self.invariant.stands in
    let k = c.self.invariant.counts in
    let at = ap (λ (x : Mounting). x.stage) c.self.view_is ∙ c.requires in
    closed_there m c.self.inside.part w.bound w.beside w.sound (first_between m c.args.block c.args.slots w at) k.shape refl k.free c.self.inside.goal
    c.self.invariant.goal short

pub chosen-stage-requires-clause-within : goal.chosen-stage-requires-clause-within
chosen-stage-requires-clause-within c =
    let m = mounting_of c.self.inside in
    subst (λ (x : Shape). LieWithin x.pages m.cells) (sym c.self.invariant.counts.shape) (lie_within (part_of m.plan) m.cells c.self.invariant.stands.sound)

pub invariant_of-self-else-slots-all : goal.invariant_of-self-else-slots-all
invariant_of-self-else-slots-all c =
    let m = mounting_of c.self.inside in
    let w = c.self.invariant.stands in
    let k = c.self.invariant.counts in
    let at = ap (λ (x : Mounting). x.stage) c.self.view_is ∙ c.requires in
    let full : c.args.slots + 1 ≡ m.plan.shape.erase_slots = omega (arith, first_few m c.args.block c.args.slots w at, c.if-slots-all.false) in
    let x = chosen_of m c.self.inside.part c.self.inside.goal c.self.inside.rounds c.chosen-stage.result.0 c.chosen-stage.result.1 k.shape refl k.free
    c.self.invariant.goal c.chosen-stage.ensures.chosen in
    let t = first_chosen m c.self.inside.part c.args.block c.args.slots c.chosen-stage.result.1 c.chosen-stage.result.0 w k at full x in
    record { stands = t.stands; counts = t.counts; goal = c.self.invariant.goal }

pub returns-else-slots-all-clause-step : goal.returns-else-slots-all-clause-step
returns-else-slots-all-clause-step c =
    let m = mounting_of c.self.inside in
    let w = c.self.invariant.stands in
    let k = c.self.invariant.counts in
    let at = ap (λ (x : Mounting). x.stage) c.self.view_is ∙ c.requires in
    let full : c.args.slots + 1 ≡ m.plan.shape.erase_slots = omega (arith, first_few m c.args.block c.args.slots w at, c.if-slots-all.false) in
    let x = chosen_of m c.self.inside.part c.self.inside.goal c.self.inside.rounds c.chosen-stage.result.0 c.chosen-stage.result.1 k.shape refl k.free
    c.self.invariant.goal c.chosen-stage.ensures.chosen in
    let t = first_chosen m c.self.inside.part c.args.block c.args.slots c.chosen-stage.result.1 c.chosen-stage.result.0 w k at full x in
    subst (λ (y : Mounting). IsStep y (remade m m.cells m.next c.chosen-stage.result.1 c.chosen-stage.result.0)) c.self.view_is t.step

pub returns-then-slots-all-clause-stage : goal.returns-then-slots-all-clause-stage
returns-then-slots-all-clause-stage c =
    let m = mounting_of c.self.inside in
    let at = ap (λ (x : Mounting). x.stage) c.self.view_is ∙ c.requires in
    let next = stage.First c.args.block (c.args.slots + 1) in
    subst (λ (y : Mounting). IsNextStage y.plan.shape.erase_slots y.stage next) c.self.view_is
    (subst (λ (st : Stage). IsNextStage m.plan.shape.erase_slots st next) (sym at) (inl (c.if-slots-all.true, refl)))

pub returns-else-slots-all-clause-stage : goal.returns-else-slots-all-clause-stage
returns-else-slots-all-clause-stage c =
    let m = mounting_of c.self.inside in
    let at = ap (λ (x : Mounting). x.stage) c.self.view_is ∙ c.requires in
    subst (λ (y : Mounting). IsNextStage y.plan.shape.erase_slots y.stage c.chosen-stage.result.0) c.self.view_is
    (subst (λ (st : Stage). IsNextStage m.plan.shape.erase_slots st c.chosen-stage.result.0) (sym at)
    (inr (omega (arith, c.if-slots-all.false), c.chosen-stage.ensures.past)))
