use Rattle.std.proofs.Common.{◌<◌, get_or, refl, ap}
use Rattle.page_map.proofs.Owners.{within}
use Rattle.flash_volume.proofs.Opening.{next_fits}
use Rattle.flash_volume.proofs.Filling.{same_contents}
use Rattle.flash_volume.proofs.Running.{reserved, in_list}
use Rattle.flash_volume.proofs.Kept.{some_lent, sound_copied}
use Rattle.flash_volume.proofs.volume.Volume.program_copy.Given.{Over}
use Rattle.flash_volume.proofs.volume.Volume.program_copy.Goals as goal
use Rattle.flash_volume.proofs.volume.Volume.program_copy.Goals.{After-self}

-- the task has a page in reserve for the copy
lent : (g : Over) (c : After-self g) → 0 < get_or c.self.inside.ledger.reserves c.args.task 0
lent g c =
    let sound = c.self.invariant (rw (← c.self.view_is) at c.requires.alive) in
    let run = sound.runs.each c.args.task c.args.collection (rw (← c.self.view_is) at c.requires.runs) in
    reserved c.args.copied run c.requires.holds (rw (← c.self.view_is) at c.requires.lies)

pub write-requires-clause-free : goal.write-requires-clause-free
write-requires-clause-free g c =
    some_lent c.args.task (c.self.invariant (rw (← c.self.view_is) at c.requires.alive))
    (lent g (goal.at.write-requires-clause-free g c).After-self)

pub spend_reserve-requires-clause-reserved : goal.spend_reserve-requires-clause-reserved
spend_reserve-requires-clause-reserved g c = lent g (goal.at.spend_reserve-requires-clause-reserved g c).After-self

pub invariant_of-self-in-Ok : goal.invariant_of-self-in-Ok
invariant_of-self-in-Ok g c = λ again.
    let sound = c.self.invariant (rw (← c.self.view_is) at c.requires.alive) in
    let task = rw (← c.self.view_is) at c.requires.task in
    let runs = rw (← c.self.view_is) at c.requires.runs in
    let lies = rw (← c.self.view_is) at c.requires.lies in
    let reserve = lent g (goal.at.invariant_of-self-in-Ok g c).After-self in
    let fit = next_fits sound.stands (some_lent c.args.task sound reserve) in
    rw c.task.view_is (
    sound_copied c.spend_reserve.new.self c.args.task c.args.collection c.args.copied sound fit task runs c.requires.holds lies
    (record {
      stands = c.write.ensures.sound again;
      shape_is = c.write.ensures.ends.shape_stays;
      cells = c.in-Ok.ensures.placed.cells;
      placing_is =
          c.in-Ok.ensures.placed.placing;
      free = c.in-Ok.ensures.placed.free;
      others = c.in-Ok.ensures.placed.closed.others;
      closes = c.in-Ok.ensures.placed.closed.closes;
    })
    (ap (λ x. x.plan) c.spend_reserve.ensures.moved) (ap (λ x. x.reserves) c.spend_reserve.ensures.moved)
    (in_list c.self.inside.ledger.reserves c.args.task reserve) c.spend_reserve.ensures.total
    )

pub returns-in-Ok-clause-did : goal.returns-in-Ok-clause-did
returns-in-Ok-clause-did g c =
    let sound = c.self.invariant (rw (← c.self.view_is) at c.requires.alive) in
    let run = sound.runs.each c.args.task c.args.collection (rw (← c.self.view_is) at c.requires.runs) in
    let lies = rw (← c.self.view_is) at c.requires.lies in
    let b = g.N.Nand.blocks c.self.inside.array.device in
    let places = c.self.inside.array.placing.places in
    let k = c.args.copied in
    rw (← c.self.view_is) (
    record {
      copied = k;
      holds = c.requires.holds;
      page_is = refl;
      here = run.source k c.requires.holds;
      lies = lies;
      finds = rw (← sound.shape_is) c.write.ensures.finds;
      cells = rw (← sound.shape_is) c.in-Ok.ensures.placed.cells;
      places = rw (c.in-Ok.ensures.placed.placing, ← sound.shape_is);
      pages = rw c.in-Ok.ensures.placed.pages (same_contents b places k.page k.source k.bytes (within places k.page k.source lies) lies
          (run.bytes k c.requires.holds lies));
      accounts = c.spend_reserve.ensures.moved;
      running = rw c.task.view_is;
      well = c.in-Ok.ensures.ends.failed;
    }
    )
