use Rattle.std.proofs.Common.{◌∙◌, ap, sym, position, arith}
use Rattle.die_mount.specs.PartState.{next_cell_of}
use Rattle.die_mount.specs.SoundPart.{is_unfilled}
use Rattle.die_mount.proofs.Parts.{next_free}
use Rattle.die_mount.proofs.part.Part.next_cell.Goals as goal

pub returns-in-Some : goal.returns-in-Some
returns-in-Some c =
    let p = c.self.inside in
    next_free p.shape p.map.places p.blocks.items p.last p.free c.index-last.result.now _ (omega (arith, c.self.invariant.last, c.self.invariant.blocks))
    c.index-last.ensures (sym c.is_open.ensures ∙ c.if-is_open.false)
    (sym c.in-Some.is ∙ (c.first_unfilled.ensures.found ∙ ap (position is_unfilled) c.deref.ensures.value))
    ∙ ap next_cell_of c.self.view_is

pub returns-in-None : goal.returns-in-None
returns-in-None c =
    let p = c.self.inside in
    next_free p.shape p.map.places p.blocks.items p.last p.free c.index-last.result.now _ (omega (arith, c.self.invariant.last, c.self.invariant.blocks))
    c.index-last.ensures (sym c.is_open.ensures ∙ c.if-is_open.false)
    (sym c.in-None.is ∙ (c.first_unfilled.ensures.found ∙ ap (position is_unfilled) c.deref.ensures.value))
    ∙ ap next_cell_of c.self.view_is
