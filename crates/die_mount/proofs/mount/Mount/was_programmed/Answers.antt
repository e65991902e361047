use Rattle.std.proofs.Common.{◌∙◌, ◌+◌, ap, sym, subst, arith}
use Rattle.slot_types.specs.declared.plans.Shape.{Shape}
use Rattle.die_log.specs.Model.Flash.{Cells}
use Rattle.power_loss.specs.Aside.{part_of}
use Rattle.die_mount.specs.Choosing.{IsNextIn, LieFrom, LieWithin}
use Rattle.die_mount.specs.Mounting.{Mounting, IsAt, IsStep}
use Rattle.die_mount.specs.PartState.{PartState}
use Rattle.die_mount.specs.SoundMount.{mounting_of}
use Rattle.die_mount.proofs.Rounds.{copied_cells, copied_sound, lie_on}
use Rattle.die_mount.proofs.Stepping.{Steps, cell_fits, cell_free, copy_steps, lie_within, remade, serial_fits}
use Rattle.die_mount.specs.declared.stage.Stage.{Stage}
use Rattle.die_mount.specs.Nexts.{IsNextStage}
use Rattle.die_mount.proofs.mount.Mount.was_programmed.Goals as goal

pub program-requires-clause-cell : goal.program-requires-clause-cell
program-requires-clause-cell c =
    cell_fits (mounting_of c.self.inside) c.self.inside.part c.args.page c.args.from c.args.to c.self.invariant.stands c.self.invariant.counts
    (ap (λ (x : Mounting). x.stage) c.self.view_is ∙ c.requires)

pub program-requires-clause-free : goal.program-requires-clause-free
program-requires-clause-free c =
    cell_free (mounting_of c.self.inside) c.args.page c.args.from c.args.to c.self.invariant.stands
    (ap (λ (x : Mounting). x.stage) c.self.view_is ∙ c.requires)

pub overflow_add-self : goal.overflow_add-self
overflow_add-self c =
    let less = serial_fits (mounting_of c.self.inside) c.args.page c.args.from c.args.to c.self.invariant.stands
    (ap (λ (x : Mounting). x.stage) c.self.view_is ∙ c.requires) in
    omega (arith, less)

pub next_in-self-inside-requires-clause-from : goal.next_in-self-inside-requires-clause-from
next_in-self-inside-requires-clause-from c =
    let m = mounting_of c.self.inside in
    let w = c.self.invariant.stands in
    let at = ap (λ (x : Mounting). x.stage) c.self.view_is ∙ c.requires in
    subst (λ (x : Cells). LieFrom x c.args.from.block (c.args.from.page + 1)) (sym (ap (λ (s : PartState). s.cells) c.program.ensures))
    (lie_on m c.args.page c.args.from c.args.to w.bound w.beside w.sound (subst (IsAt m) at w.at))

pub next_in-self-inside-requires-clause-within : goal.next_in-self-inside-requires-clause-within
next_in-self-inside-requires-clause-within c =
    let m = mounting_of c.self.inside in
    let w = c.self.invariant.stands in
    let at = ap (λ (x : Mounting). x.stage) c.self.view_is ∙ c.requires in
    let sound = copied_sound m c.args.page c.args.from c.args.to w.bound w.beside w.sound (subst (IsAt m) at w.at) in
    subst (λ (s : PartState). LieWithin s.shape.pages s.cells) (sym c.program.ensures)
    (subst (λ (x : Shape). LieWithin x.pages (copied_cells c.args.page c.args.to m.cells)) (sym c.self.invariant.counts.shape)
    (lie_within (part_of m.plan) (copied_cells c.args.page c.args.to m.cells) sound))

pub invariant_of-self : goal.invariant_of-self
invariant_of-self c =
    let m = mounting_of c.self.inside in
    let r = c.program.new.self in
    let at = ap (λ (x : Mounting). x.stage) c.self.view_is ∙ c.requires in
    let cells = ap (λ (s : PartState). s.cells) c.program.ensures in
    let n = subst (λ (x : Cells). IsNextIn x c.args.from.block (c.args.from.page + 1) c.next_in-self-inside.result) cells c.next_in-self-inside.ensures.next in
    let t = subst (λ (x : Cells). Steps m (remade m x (m.next + 1) m.rounds c.next_in-self-inside.result) r) (sym cells)
    (copy_steps m c.self.inside.part c.args.page c.args.from c.args.to c.next_in-self-inside.result c.self.invariant.stands c.self.invariant.counts at n r
    (ap (λ (s : PartState). s.shape) c.program.ensures) (ap (λ (s : PartState). s.free) c.program.ensures) (ap (λ (s : PartState). s.last) c.program.ensures)) in
    record { stands = t.stands; counts = t.counts; goal = c.self.invariant.goal }

pub returns-clause-step : goal.returns-clause-step
returns-clause-step c =
    let m = mounting_of c.self.inside in
    let r = c.program.new.self in
    let at = ap (λ (x : Mounting). x.stage) c.self.view_is ∙ c.requires in
    let cells = ap (λ (s : PartState). s.cells) c.program.ensures in
    let n = subst (λ (x : Cells). IsNextIn x c.args.from.block (c.args.from.page + 1) c.next_in-self-inside.result) cells c.next_in-self-inside.ensures.next in
    let t = subst (λ (x : Cells). Steps m (remade m x (m.next + 1) m.rounds c.next_in-self-inside.result) r) (sym cells)
    (copy_steps m c.self.inside.part c.args.page c.args.from c.args.to c.next_in-self-inside.result c.self.invariant.stands c.self.invariant.counts at n r
    (ap (λ (s : PartState). s.shape) c.program.ensures) (ap (λ (s : PartState). s.free) c.program.ensures) (ap (λ (s : PartState). s.last) c.program.ensures)) in
    subst (λ (x : Mounting). IsStep x (remade m r.cells (m.next + 1) m.rounds c.next_in-self-inside.result)) c.self.view_is t.step

pub returns-clause-stage : goal.returns-clause-stage
returns-clause-stage c =
    let m = mounting_of c.self.inside in
    let at = ap (λ (x : Mounting). x.stage) c.self.view_is ∙ c.requires in
    subst (λ (y : Mounting). IsNextStage y.plan.shape.erase_slots y.stage c.next_in-self-inside.result) c.self.view_is
    (subst (λ (st : Stage). IsNextStage m.plan.shape.erase_slots st c.next_in-self-inside.result) (sym at) c.next_in-self-inside.ensures.past)
