use Rattle.std.proofs.Common.{◌∙◌, ◌<◌, length, arith, sym, ap}
use Rattle.std.proofs.lemmas.List.{length-map}
use Rattle.flash_volume.specs.Cells.{content_at}
use Rattle.flash_volume.proofs.Opening.{next_fits}
use Rattle.flash_volume.proofs.Kept.{some_free, sound_written}
use Rattle.flash_volume.proofs.volume.Volume.write.Goals as goal

pub invariant_of-self-in-Ok : goal.invariant_of-self-in-Ok
invariant_of-self-in-Ok g c = λ again.
    let sound = c.self.invariant (sym c.failed.ensures ∙ c.if-failed.false) in
    let held = rw (← c.self.view_is) at c.requires.held in
    let page = rw (← c.self.view_is) at c.requires.page in
    let places = c.self.inside.array.placing.places in
    let below : c.args.page < length places = omega (
      arith,
      page,
      length-map places
          (content_at (g.N.Nand.blocks c.self.inside.array.device)),
    ) in
    let fit = next_fits sound.stands (some_free c.args.task sound held) in
    sound_written c.spend_hold.new.self sound fit below (record {
      stands = c.write.ensures.sound again;
      shape_is = c.write.ensures.ends.shape_stays;
      cells = c.in-Ok.ensures.placed.cells;
      placing_is =
          c.in-Ok.ensures.placed.placing;
      free = c.in-Ok.ensures.placed.free;
      others = c.in-Ok.ensures.placed.closed.others;
      closes = c.in-Ok.ensures.placed.closed.closes;
    })
    (ap (λ x. x.plan) c.spend_hold.ensures.moved) (ap (λ x. x.reserves) c.spend_hold.ensures.moved) c.spend_hold.ensures.total
