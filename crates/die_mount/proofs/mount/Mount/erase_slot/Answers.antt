use Rattle.std.proofs.Common.{◌≡◌, ◌∙◌, ◌+◌, ap, sym, subst, arith}
use Rattle.slot_types.specs.declared.plans.Shape.{Shape}
use Rattle.die_log.specs.Model.Flash.{Cells}
use Rattle.power_loss.specs.Aside.{part_of}
use Rattle.power_loss.proofs.Compacting.{after_erase}
use Rattle.die_mount.specs.declared.stage.Stage.TheVariants as stage
use Rattle.die_mount.specs.Choosing.{LieWithin}
use Rattle.die_mount.specs.Mounting.{Mounting, IsStep}
use Rattle.die_mount.specs.PartState.{PartState}
use Rattle.die_mount.specs.SoundMount.{mounting_of}
use Rattle.die_mount.proofs.Rounds.{rounds_left, slot_mount}
use Rattle.die_mount.proofs.Stepping.{Steps, chosen_of, closed_there, free_fits, lie_within, remade, slot_between, slot_chosen, slot_counts_free}
use Rattle.die_mount.proofs.Stepping.{slot_sounds, slot_steps, slots_few}
use Rattle.die_mount.specs.declared.stage.Stage.{Stage}
use Rattle.die_mount.specs.Nexts.{IsNextStage}
use Rattle.die_mount.proofs.mount.Mount.erase_slot.Goals as goal

pub erase_slot-requires-clause-free : goal.erase_slot-requires-clause-free
erase_slot-requires-clause-free c = free_fits (mounting_of c.self.inside) c.self.inside.part c.self.invariant.stands c.self.invariant.counts

pub invariant_of-self : goal.invariant_of-self
invariant_of-self c =
    let m = mounting_of c.self.inside in
    let r = c.erase_slot.new.self in
    let at = ap (λ (x : Mounting). x.stage) c.self.view_is ∙ c.requires in
    let e = c.erase_slot.ensures (part_of m.plan) (sym c.self.invariant.counts.shape) in
    let t = subst (λ (x : Cells). Steps m (remade m x m.next m.rounds (stage.Erase c.args.block (c.args.slots + 1))) r) (sym (ap (λ (s : PartState). s.cells) e))
    (slot_steps m c.self.inside.part r c.args.block c.args.slots c.self.invariant.stands c.self.invariant.counts at c.if-slots-self.true
    (ap (λ (s : PartState). s.shape) e) (ap (λ (s : PartState). s.last) e) (ap (λ (s : PartState). s.free) e)) in
    record { stands = t.stands; counts = t.counts; goal = c.self.invariant.goal }

pub returns-then-slots-self-clause-step : goal.returns-then-slots-self-clause-step
returns-then-slots-self-clause-step c =
    let m = mounting_of c.self.inside in
    let r = c.erase_slot.new.self in
    let at = ap (λ (x : Mounting). x.stage) c.self.view_is ∙ c.requires in
    let e = c.erase_slot.ensures (part_of m.plan) (sym c.self.invariant.counts.shape) in
    let t = subst (λ (x : Cells). Steps m (remade m x m.next m.rounds (stage.Erase c.args.block (c.args.slots + 1))) r) (sym (ap (λ (s : PartState). s.cells) e))
    (slot_steps m c.self.inside.part r c.args.block c.args.slots c.self.invariant.stands c.self.invariant.counts at c.if-slots-self.true
    (ap (λ (s : PartState). s.shape) e) (ap (λ (s : PartState). s.last) e) (ap (λ (s : PartState). s.free) e)) in
    subst (λ (y : Mounting). IsStep y (remade m r.cells m.next m.rounds (stage.Erase c.args.block (c.args.slots + 1)))) c.self.view_is t.step

pub chosen-stage-requires-clause-closed : goal.chosen-stage-requires-clause-closed
chosen-stage-requires-clause-closed c = λ short.
    let m = mounting_of c.self.inside in
    let r = c.erase_slot.new.self in
    let w = c.self.invariant.stands in
    let k = c.self.invariant.counts in
    let at = ap (λ (x : Mounting). x.stage) c.self.view_is ∙ c.requires in
    let full : c.args.slots + 1 ≡ m.plan.shape.erase_slots = omega (arith, slots_few m c.args.block c.args.slots w at, c.if-slots-self.false) in
    let e = c.erase_slot.ensures (part_of m.plan) (sym k.shape) in
    closed_there (slot_mount m c.args.block m.stage) r w.bound w.beside (slot_sounds m c.args.block c.args.slots w at)
    (slot_between m c.args.block c.args.slots w at full) (ap (λ (s : PartState). s.shape) e ∙ k.shape) (ap (λ (s : PartState). s.cells) e)
    (slot_counts_free m c.self.inside.part r c.args.block c.args.slots w k at (ap (λ (s : PartState). s.free) e)) c.self.inside.goal c.self.invariant.goal short

pub chosen-stage-requires-clause-rounds : goal.chosen-stage-requires-clause-rounds
chosen-stage-requires-clause-rounds c = λ short.
    let m = mounting_of c.self.inside in
    let r = c.erase_slot.new.self in
    let w = c.self.invariant.stands in
    let k = c.self.invariant.counts in
    let at = ap (λ (x : Mounting). x.stage) c.self.view_is ∙ c.requires in
    let full : c.args.slots + 1 ≡ m.plan.shape.erase_slots = omega (arith, slots_few m c.args.block c.args.slots w at, c.if-slots-self.false) in
    let e = c.erase_slot.ensures (part_of m.plan) (sym k.shape) in
    rounds_left (slot_mount m c.args.block m.stage) w.bound w.beside (slot_sounds m c.args.block c.args.slots w at)
    (slot_between m c.args.block c.args.slots w at full)
    (omega (arith, slot_counts_free m c.self.inside.part r c.args.block c.args.slots w k at (ap (λ (s : PartState). s.free) e), c.self.invariant.goal, short))

pub chosen-stage-requires-clause-within : goal.chosen-stage-requires-clause-within
chosen-stage-requires-clause-within c =
    let m = mounting_of c.self.inside in
    let at = ap (λ (x : Mounting). x.stage) c.self.view_is ∙ c.requires in
    let e = c.erase_slot.ensures (part_of m.plan) (sym c.self.invariant.counts.shape) in
    subst (λ (s : PartState). LieWithin s.shape.pages s.cells) (sym e)
    (subst (λ (x : Shape). LieWithin x.pages (after_erase (part_of m.plan) c.args.block m.cells)) (sym c.self.invariant.counts.shape)
    (lie_within (part_of m.plan) (after_erase (part_of m.plan) c.args.block m.cells) (slot_sounds m c.args.block c.args.slots c.self.invariant.stands at)))

pub invariant_of-self-else-slots-self : goal.invariant_of-self-else-slots-self
invariant_of-self-else-slots-self c =
    let m = mounting_of c.self.inside in
    let r = c.erase_slot.new.self in
    let w = c.self.invariant.stands in
    let k = c.self.invariant.counts in
    let at = ap (λ (x : Mounting). x.stage) c.self.view_is ∙ c.requires in
    let full : c.args.slots + 1 ≡ m.plan.shape.erase_slots = omega (arith, slots_few m c.args.block c.args.slots w at, c.if-slots-self.false) in
    let e = c.erase_slot.ensures (part_of m.plan) (sym k.shape) in
    let x = chosen_of (slot_mount m c.args.block m.stage) r c.self.inside.goal c.self.inside.rounds c.chosen-stage.result.0 c.chosen-stage.result.1
    (ap (λ (s : PartState). s.shape) e ∙ k.shape) (ap (λ (s : PartState). s.cells) e)
    (slot_counts_free m c.self.inside.part r c.args.block c.args.slots w k at (ap (λ (s : PartState). s.free) e)) c.self.invariant.goal c.chosen-stage.ensures.chosen in
    let t = subst (λ (y : Cells). Steps m (remade m y m.next c.chosen-stage.result.1 c.chosen-stage.result.0) r) (sym (ap (λ (s : PartState). s.cells) e))
    (slot_chosen m c.self.inside.part r c.args.block c.args.slots c.chosen-stage.result.1 c.chosen-stage.result.0 w k at full
    (ap (λ (s : PartState). s.shape) e) (ap (λ (s : PartState). s.last) e) (ap (λ (s : PartState). s.free) e) x) in
    record { stands = t.stands; counts = t.counts; goal = c.self.invariant.goal }

pub returns-else-slots-self-clause-step : goal.returns-else-slots-self-clause-step
returns-else-slots-self-clause-step c =
    let m = mounting_of c.self.inside in
    let r = c.erase_slot.new.self in
    let w = c.self.invariant.stands in
    let k = c.self.invariant.counts in
    let at = ap (λ (x : Mounting). x.stage) c.self.view_is ∙ c.requires in
    let full : c.args.slots + 1 ≡ m.plan.shape.erase_slots = omega (arith, slots_few m c.args.block c.args.slots w at, c.if-slots-self.false) in
    let e = c.erase_slot.ensures (part_of m.plan) (sym k.shape) in
    let x = chosen_of (slot_mount m c.args.block m.stage) r c.self.inside.goal c.self.inside.rounds c.chosen-stage.result.0 c.chosen-stage.result.1
    (ap (λ (s : PartState). s.shape) e ∙ k.shape) (ap (λ (s : PartState). s.cells) e)
    (slot_counts_free m c.self.inside.part r c.args.block c.args.slots w k at (ap (λ (s : PartState). s.free) e)) c.self.invariant.goal c.chosen-stage.ensures.chosen in
    let t = subst (λ (y : Cells). Steps m (remade m y m.next c.chosen-stage.result.1 c.chosen-stage.result.0) r) (sym (ap (λ (s : PartState). s.cells) e))
    (slot_chosen m c.self.inside.part r c.args.block c.args.slots c.chosen-stage.result.1 c.chosen-stage.result.0 w k at full
    (ap (λ (s : PartState). s.shape) e) (ap (λ (s : PartState). s.last) e) (ap (λ (s : PartState). s.free) e) x) in
    subst (λ (y : Mounting). IsStep y (remade m r.cells m.next c.chosen-stage.result.1 c.chosen-stage.result.0)) c.self.view_is t.step

pub returns-then-slots-self-clause-stage : goal.returns-then-slots-self-clause-stage
returns-then-slots-self-clause-stage c =
    let m = mounting_of c.self.inside in
    let at = ap (λ (x : Mounting). x.stage) c.self.view_is ∙ c.requires in
    let next = stage.Erase c.args.block (c.args.slots + 1) in
    subst (λ (y : Mounting). IsNextStage y.plan.shape.erase_slots y.stage next) c.self.view_is
    (subst (λ (st : Stage). IsNextStage m.plan.shape.erase_slots st next) (sym at) tt)

pub returns-else-slots-self-clause-stage : goal.returns-else-slots-self-clause-stage
returns-else-slots-self-clause-stage c =
    let m = mounting_of c.self.inside in
    let at = ap (λ (x : Mounting). x.stage) c.self.view_is ∙ c.requires in
    subst (λ (y : Mounting). IsNextStage y.plan.shape.erase_slots y.stage c.chosen-stage.result.0) c.self.view_is
    (subst (λ (st : Stage). IsNextStage m.plan.shape.erase_slots st c.chosen-stage.result.0) (sym at) c.chosen-stage.ensures.past)
