use Rattle.std.proofs.Common.{◌∙◌, refl, ap}
use Rattle.flash_volume.specs.Cells.{content_at}
use Rattle.flash_volume.proofs.Running.{dropped}
use Rattle.flash_volume.proofs.Kept.{sound_read}
use Rattle.flash_volume.proofs.volume.Volume.read_copy.Goals as goal

pub pass-requires-clause-none : goal.pass-requires-clause-none
pass-requires-clause-none g c =
    let first = rw (← c.self.view_is) at c.requires.first in
    rw (c.read.ensures.placing, first.here) first.first

pub invariant_of-self-in-Ok : goal.invariant_of-self-in-Ok
invariant_of-self-in-Ok g c = λ again.
    let sound = c.self.invariant (rw (← c.self.view_is) at c.requires.alive) in
    let task = rw (← c.self.view_is) at c.requires.task in
    let runs = rw (← c.self.view_is) at c.requires.runs in
    let first = rw (← c.self.view_is) at c.requires.first in
    let bytes_are = c.in-Ok.ensures.page ∙ ap (content_at (g.N.Nand.blocks c.self.inside.array.device)) first.lies in
    rw (
      c.task.view_is,
      c.pass.ensures,
      c.in-Ok.ensures.cells,
      c.in-Ok.ensures.ends.by_fault.well,
      c.read.ensures.ends.shape_stays,
      c.read.ensures.placing,
      c.read.ensures.candidates,
      bytes_are,
    ) (sound_read c.args.task c.args.page c.args.source c.args.collection sound task runs first.here
    first.lies)

pub returns-in-Ok-clause-did : goal.returns-in-Ok-clause-did
returns-in-Ok-clause-did g c =
    let sound = c.self.invariant (rw (← c.self.view_is) at c.requires.alive) in
    let run = sound.runs.each c.args.task c.args.collection (rw (← c.self.view_is) at c.requires.runs) in
    let first = rw (← c.self.view_is) at c.requires.first in
    let bytes_are = c.in-Ok.ensures.page ∙ ap (content_at (g.N.Nand.blocks c.self.inside.array.device)) first.lies in
    rw (c.pass.ensures, ← c.self.view_is) (
    record {
      source = c.args.source;
      dropped = dropped run (rw (← c.self.view_is) at c.requires.left);
      left = rw (← c.self.view_is) at c.requires.left;
      first = first;
      cells = c.in-Ok.ensures.cells;
      places = ap (λ m. m.places) c.read.ensures.placing;
      pages = rw (c.in-Ok.ensures.cells, c.read.ensures.placing) refl;
      accounts = refl;
      running = rw (c.task.view_is, bytes_are) refl;
      well = c.in-Ok.ensures.ends.failed;
    }
    )
