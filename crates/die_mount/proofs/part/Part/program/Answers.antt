use Rattle.std.proofs.Common.{◌∙◌, ◌<◌, ◌+◌, ◌-◌, ap, sym, refl, length, arith, map, slice_set}
use Rattle.page_map.specs.Placing.{Placing}
use Rattle.die_mount.specs.declared.part.PartBlock.{PartBlock}
use Rattle.die_mount.specs.PartState.{PartState, with_program}
use Rattle.die_mount.specs.SoundPart.{block_of}
use Rattle.die_log.specs.Model.Flash.{block_at}
use Rattle.die_mount.proofs.Parts.{one_more, state}
use Rattle.die_mount.proofs.part.Part.program.Goals as goal

pub returns : goal.returns
returns c =
    let p = c.self.inside in
    let lt : c.args.to.block < length p.blocks.items =
    omega (arith, c.requires.cell.block, c.self.invariant.blocks, ap (λ (s : PartState). s.shape.blocks) c.self.view_is) in
    let old = c.index-state.result.now in
    let t : PartBlock = record { filled = old.filled + 1; erasing = old.erasing; erases = old.erases } in
    ap (λ (q : Placing). state p.shape q.places (map block_of (slice_set p.blocks.items c.args.to.block t)) c.args.to.block (p.free - 1)) c.bind.ensures
    ∙ (one_more p.shape p.map.places p.blocks.items p.last p.free c.args.page c.args.to c.index-state.result.now t lt c.index-state.ensures
    (c.requires.next ∙ ap (λ (s : PartState). (block_at s.cells c.args.to.block).filled) (sym c.self.view_is)) refl
    ∙ ap (with_program c.args.page c.args.to) c.self.view_is)
