use Rattle.std.proofs.Common.{◌<◌, ap, ◌∙◌, refl, sym, length, arith}
use Rattle.die_mount.specs.PartState.{PartState, with_erase_slot}
use Rattle.die_mount.proofs.Parts.{last_slot, slot_more}
use Rattle.die_mount.proofs.part.Part.erase_slot.Goals as goal

pub returns-then-state-self : goal.returns-then-state-self
returns-then-state-self c = λ plan same.
    let p = c.self.inside in
    let lt : c.args.block < length p.blocks.items =
    omega (arith, c.requires.block, c.self.invariant.blocks, ap (λ (s : PartState). s.shape.blocks) c.self.view_is) in
    last_slot plan p.shape p.map.places p.blocks.items p.last p.free c.args.block c.index-state.result.now _
    (same ∙ ap (λ (s : PartState). s.shape) (sym c.self.view_is)) lt c.index-state.ensures c.if-state-self.true refl
    ∙ ap (with_erase_slot plan c.args.block) c.self.view_is

pub returns-else-state-self : goal.returns-else-state-self
returns-else-state-self c = λ plan same.
    let p = c.self.inside in
    let lt : c.args.block < length p.blocks.items =
    omega (arith, c.requires.block, c.self.invariant.blocks, ap (λ (s : PartState). s.shape.blocks) c.self.view_is) in
    slot_more plan p.shape p.map.places p.blocks.items p.last p.free c.args.block c.index-state.result.now _
    (same ∙ ap (λ (s : PartState). s.shape) (sym c.self.view_is)) lt c.index-state.ensures c.if-state-self.false refl
    ∙ ap (with_erase_slot plan c.args.block) c.self.view_is
