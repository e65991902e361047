use Rattle.std.proofs.Common.{◌∙◌, refl, sym, ap, arith}
use Rattle.slot_types.specs.declared.plans.Shape.{Shape}
use Rattle.flash_volume.proofs.Erasing.{unplaced_of}
use Rattle.flash_volume.proofs.volume.Volume.read_or_erase.Goals as goal

pub returns-in-None : goal.returns-in-None
returns-in-None g c =
    let sound = c.self.invariant (rw (← c.self.view_is) at c.requires.alive) in
    let closed = (rw (← c.self.view_is) at c.requires.closed) ∙ ap (λ (s : Shape). s.pages) (sym sound.shape_is) in
    let clear = unplaced_of c.args.collection.victim sound.stands (rw (← c.self.view_is) at c.requires.in_range) closed
    (λ page few. c.in-None.ensures.none page (omega (arith, few, ap (λ (s : Shape). s.pages) sound.stands.map_shape))) in
    record {
      victim = refl;
      dropped = c.requires.dropped;
      left = c.requires.left;
      unplaced = rw (← c.self.view_is) clear.none;
    }
