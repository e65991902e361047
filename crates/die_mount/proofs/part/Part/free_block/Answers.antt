use Rattle.std.proofs.Common.{◌==◌, ◌∙◌, ap, sym, position}
use Rattle.die_mount.specs.PartState.{PartState}
use Rattle.die_mount.specs.SoundPart.{is_unfilled}
use Rattle.die_mount.proofs.Parts.{first_free}
use Rattle.die_mount.proofs.part.Part.free_block.Goals as goal

pub returns-in-Some : goal.returns-in-Some
returns-in-Some c =
    sym c.in-Some.is ∙ (c.first_unfilled.ensures.found ∙ ap (position is_unfilled) c.deref.ensures.value)
    ∙ sym (first_free c.self.inside.blocks.items) ∙ ap (λ (s : PartState). position (λ t. t.filled == 0) s.cells.blocks) c.self.view_is

pub returns-in-None : goal.returns-in-None
returns-in-None c =
    sym c.in-None.is ∙ (c.first_unfilled.ensures.found ∙ ap (position is_unfilled) c.deref.ensures.value)
    ∙ sym (first_free c.self.inside.blocks.items) ∙ ap (λ (s : PartState). position (λ t. t.filled == 0) s.cells.blocks) c.self.view_is
