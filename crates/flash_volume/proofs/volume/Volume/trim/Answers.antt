use Rattle.std.proofs.Common.{◌<◌, ◌∙◌, length, arith, sym}
use Rattle.std.proofs.lemmas.List.{length-map}
use Rattle.flash_volume.specs.Cells.{content_at}
use Rattle.flash_volume.proofs.Trimming.{sound_trimmed}
use Rattle.flash_volume.proofs.volume.Volume.trim.Goals as goal

pub invariant_of-self : goal.invariant_of-self
invariant_of-self g c = λ alive.
    let sound = c.self.invariant (sym c.failed.ensures ∙ c.if-failed.false) in
    let page = rw (← c.self.view_is) at c.requires in
    let places = c.self.inside.array.placing.places in
    let below : c.args.page < length places = omega (
      arith,
      page,
      length-map places
          (content_at (g.N.Nand.blocks c.self.inside.array.device)),
    ) in
    rw c.trim.ensures.device (sound_trimmed c.args.page sound below (rw c.trim.ensures.device at (c.trim.ensures.sound alive))
    c.trim.ensures.placing c.trim.ensures.candidates)
