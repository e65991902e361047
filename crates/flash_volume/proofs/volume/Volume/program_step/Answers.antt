use Rattle.std.proofs.Common.{refl}
use Rattle.flash_volume.proofs.Kept.{some_lent}
use Rattle.flash_volume.proofs.Opening.{some_open}
use Rattle.flash_volume.proofs.Running.{reserved}
use Rattle.flash_volume.proofs.Stepping.{copied_content}
use Rattle.flash_volume.proofs.volume.Volume.program_step.Goals as goal

pub next_cell-requires-clause-free : goal.next_cell-requires-clause-free
next_cell-requires-clause-free g c =
    let sound = c.self.invariant (rw (← c.self.view_is) at c.requires.alive) in
    let run = sound.runs.each c.args.task c.args.collection (rw (← c.self.view_is) at c.requires.runs) in
    some_lent c.args.task sound (reserved c.args.copied run c.requires.holds (rw (← c.self.view_is) at c.requires.lies))

pub returns : goal.returns
returns g c =
    let sound = c.self.invariant (rw (← c.self.view_is) at c.requires.alive) in
    let run = sound.runs.each c.args.task c.args.collection (rw (← c.self.view_is) at c.requires.runs) in
    let lies = rw (← c.self.view_is) at c.requires.lies in
    let free = some_lent c.args.task sound (reserved c.args.copied run c.requires.holds lies) in
    record {
      copied = c.args.copied;
      holds = c.requires.holds;
      page_is = refl;
      here = run.source c.args.copied c.requires.holds;
      lies = c.requires.lies;
      bytes_are = rw (← c.self.view_is) (copied_content c.args.copied run c.requires.holds lies);
      finds = rw (← c.self.view_is) (rw (← sound.shape_is) (some_open (g.N.Nand.shape_of c.self.inside.array.device).pages
          (g.N.Nand.blocks c.self.inside.array.device) free));
      place_is = rw (← c.self.view_is) (rw (← sound.shape_is) c.next_cell.ensures);
    }
